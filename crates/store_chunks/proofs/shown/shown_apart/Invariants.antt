use Rattle.std.proofs.Common.{◌≡◌, take}
use Rattle.std.specs.List.{flat_map}
use Rattle.std.specs.List.Sorted.{IsStrictlyIncreasing}
use Rattle.label_sets.specs.Triples.{triples_of}
use Rattle.store_chunks.specs.Taken.{shown}
use Rattle.store_ranges.specs.Asking.{query_asked, block_asked}
use Rattle.store_chunks.specs.ChunksRead.{reads_apart, references_apart}
use Rattle.store_chunks.proofs.shown.shown_apart.Given as goal

abbrev pub invariant-loop-one : goal.invariant-loop-one
invariant-loop-one l = IsStrictlyIncreasing (references_apart l.found) → triples_of l.made.items ≡ flat_map (shown (query_asked l.asked) (block_asked l.asked) (reads_apart l.found)) (take l.one-index l.series)
