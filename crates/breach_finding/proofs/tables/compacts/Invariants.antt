use Rattle.std.proofs.Common.{◌≡◌, false, take}
use Rattle.std.specs.List.{list_any}
use Rattle.breach_finding.specs.Tables.{compacts_at}
use Rattle.breach_finding.proofs.tables.compacts.Given as goal

-- none of the places until now has a compaction
abbrev pub invariant-loop-place : goal.invariant-loop-place
invariant-loop-place l = list_any (compacts_at l.tasks) (take l.place-index l.places) ≡ false
