use Rattle.std.proofs.Common.{◌≡◌, take, map}
use Rattle.block_meta.specs.Built.{segment_objects}
use Rattle.block_content.specs.Shipped.{segment_name}
use Rattle.block_content.proofs.shipping.names_of.Given as goal

abbrev pub invariant-loop-place : goal.invariant-loop-place
invariant-loop-place l = l.names ≡ map segment_name (segment_objects l.ulid 1 (take l.place l.segments))
