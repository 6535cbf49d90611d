use Rattle.std.proofs.Common.{◌≡◌, take, map}
use Rattle.std.specs.List.{AllByRecursion}
use Rattle.base.specs.Grammar.{IsBytes}
use Rattle.block_meta.specs.Built.{segment_objects}
use Rattle.block_content.specs.Shipped.{size_of}
use Rattle.block_content.proofs.shipping.sizes_of.Given as goal

abbrev pub invariant-loop-place : goal.invariant-loop-place
invariant-loop-place l = record {
  sizes : l.sizes ≡ map size_of (segment_objects l.ulid 1 (take l.place l.segments));
  bytes : AllByRecursion IsBytes (take l.place l.segments);
}
