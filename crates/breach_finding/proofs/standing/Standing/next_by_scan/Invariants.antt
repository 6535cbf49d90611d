use Rattle.std.proofs.Common.{◌≡◌, find}
use Rattle.std.specs.BTreeMap.{keys}
use Rattle.breach_finding.specs.Next.{is_due_block}
use Rattle.breach_finding.proofs.standing.Standing.next_by_scan.Given as goal

-- the first key that is due among those that are left is the first one of all
abbrev pub invariant-loop-key : goal.invariant-loop-key
invariant-loop-key l = find (is_due_block l.after) l.key-iterator ≡ find (is_due_block l.after) (keys l.self.places)
