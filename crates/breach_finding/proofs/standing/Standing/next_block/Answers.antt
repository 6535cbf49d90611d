use Rattle.std.proofs.Common.{List, ℕ, sym, subst}
use Rattle.ulid_core.proofs.UlidLaws.{IsUlidText-unique}
use Rattle.breach_finding.specs.Next.{IsNextBlock}
use Rattle.breach_finding.proofs.Scans.{next_by_scan}
use Rattle.breach_finding.proofs.standing.Standing.next_block.Goals as goal

pub returns-in-Ok : goal.returns-in-Ok
returns-in-Ok c texts =
    subst (λ (t : List ℕ). IsNextBlock c.args.self.now.places t c.next_behind.result) (sym (IsUlidText-unique c.args.after.now c.in-Ok.ulid c.in-Ok.ensures.found))
    (c.next_behind.ensures texts)

pub returns-in-Err : goal.returns-in-Err
returns-in-Err c texts =
    subst (IsNextBlock c.args.self.now.places c.args.after.now) (sym c.next_by_scan.ensures.found)
    (next_by_scan c.args.self.now.places c.args.after.now c.next_by_scan.ensures.ordered)
