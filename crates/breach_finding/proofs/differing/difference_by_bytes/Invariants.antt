use Rattle.std.proofs.Common.{◌≡◌, take}
use Rattle.breach_finding.proofs.differing.difference_by_bytes.Given as goal

abbrev pub invariant-loop-place : goal.invariant-loop-place
invariant-loop-place l = take l.place l.one ≡ take l.place l.other
