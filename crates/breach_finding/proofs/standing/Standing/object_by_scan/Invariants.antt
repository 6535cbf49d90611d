use Rattle.std.proofs.Common.{◌≡◌, find}
use Rattle.std.specs.BTreeMap.{keys}
use Rattle.block_keys.specs.Keys.{IsLawfulKey}
use Rattle.std.specs.List.{AllByRecursion}
use Rattle.breach_finding.specs.Held.{HaveTexts}
use Rattle.breach_finding.specs.Next.{is_due_object}
use Rattle.breach_finding.proofs.standing.Standing.object_by_scan.Given as goal

-- the first key that is due among those that are left is the first one of all
abbrev pub invariant-loop-key : goal.invariant-loop-key
invariant-loop-key l =
    HaveTexts l.self.places
    → AllByRecursion IsLawfulKey l.key-iterator × (find (is_due_object l.ulid l.cursor) l.key-iterator ≡ find (is_due_object l.ulid l.cursor) (keys l.self.places))
