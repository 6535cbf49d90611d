use Rattle.std.proofs.Common.{◌≡◌, ℕ, List, ◌+◌, ◌-◌, Some, false, length}
use Rattle.std.specs.Prelude.{◌≤◌, All}
use Rattle.bucket_core.specs.Contents.{Contents}
use Rattle.bucket_core.specs.Asking.{Asks}
use Rattle.bucket_core.specs.Files.{file_limit}
use Rattle.block_loading.specs.Loading.{HasSegments, load_limit, names_after}
use Rattle.block_loading.specs.LoadReading.{KeepsShelf, segments_at}
use Rattle.block_loading.proofs.SegmentLaws.{with_front, size_of}
use Rattle.block_loading.proofs.reading.read_segments.Given as goal

-- what was read, before what is left to read, is all that there is
abbrev pub invariant-loop-number : goal.invariant-loop-number
invariant-loop-number g l = record {
  many : length l.segments ≡ l.number;
  read : (told : Contents) → (g.F.Shelf.told l.fn.shelf).files ≡ Some told → segments_at told l.ulid 1 0 l.last ≡ with_front l.segments (segments_at told l.ulid (l.number + 1) l.bytes (l.last - l.number));
  asked : Asks (g.F.Shelf.told l.fn.shelf).asked (g.F.Shelf.told l.shelf).asked (names_after l.ulid 2 l.number);
  stood : (told : Contents) → (g.F.Shelf.told l.fn.shelf).files ≡ Some told → HasSegments told l.ulid l.segments;
  counted : l.bytes ≡ size_of l.segments;
  together : l.bytes ≤ load_limit;
  sized : All (λ (segment : List ℕ). length segment ≤ file_limit) l.segments;
  kept : KeepsShelf g.F.Shelf.told l.fn.shelf l.shelf false;
}
