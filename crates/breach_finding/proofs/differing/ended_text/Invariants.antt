use Rattle.std.proofs.Common.{◌≡◌, take}
use Rattle.breach_finding.specs.Told.{ended_names}
use Rattle.breach_finding.proofs.differing.ended_text.Given as goal

abbrev pub invariant-loop-name : goal.invariant-loop-name
invariant-loop-name l = l.text.items ≡ ended_names (take l.name-index l.names)
