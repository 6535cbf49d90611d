use Rattle.std.proofs.Common.{◌≡◌, length}
use Rattle.std.specs.Prelude.{All}
use Rattle.block_keys.specs.Blocks.{IsSegmentOf}
use Rattle.block_meta.specs.Built.{segment_objects}
use Rattle.block_meta.proofs.objects.segment_objects.Given as goal

abbrev pub invariant-loop-bytes : goal.invariant-loop-bytes
invariant-loop-bytes l = record {
  number : l.number ≡ length l.yielded;
  count : length l.objects ≡ l.number;
  keys : All (λ object. IsSegmentOf l.ulid object.key) l.objects;
  value : l.objects ≡ segment_objects l.ulid 1 l.yielded;
}
