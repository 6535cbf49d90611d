use Rattle.std.proofs.Common.{◌≡◌, ◌-◌, ◌*◌, ◌^◌, ◌<◌, drop}
use Rattle.wire_bytes.specs.Fields.{groups_of}
use Rattle.wire_bytes.proofs.Groups.{with_low}
use Rattle.wire_bytes.proofs.varint.groups_of.Given as goal

-- the low groups that were read, before what the others give, is what all give
abbrev pub invariant-loop-place : goal.invariant-loop-place
invariant-loop-place l = record {
  low : l.n < 2 ^ (7 * l.place);
  whole : with_low l.n l.place (groups_of (9 - l.place) (drop l.place l.bytes)) ≡ groups_of 9 l.bytes;
}
