use Rattle.std.proofs.Common.{◌≡◌, drop}
use Rattle.dir_bucket.specs.Names.{has_odd_part}
use Rattle.dir_bucket.proofs.names.has_odd_part.Given as goal

-- what is left has such a part where the whole has one
abbrev pub invariant-loop-place : goal.invariant-loop-place
invariant-loop-place l = has_odd_part (drop l.place l.bytes) ≡ has_odd_part l.bytes
