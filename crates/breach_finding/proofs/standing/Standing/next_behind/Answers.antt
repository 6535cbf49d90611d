use Rattle.std.proofs.Common.{ℕ, Some, sym, subst}
use Rattle.ulid_core.specs.UlidText.{text_of}
use Rattle.ulid_core.proofs.UlidLaws.{ulid_of-found}
use Rattle.breach_finding.specs.Next.{IsNextBlock}
use Rattle.breach_finding.proofs.Blocks.{next_of_first, next_of_none}
use Rattle.breach_finding.proofs.standing.Standing.next_behind.Goals as goal

pub returns-in_err-next : goal.returns-in_err-next
returns-in_err-next c texts =
    subst (IsNextBlock c.args.self.now.places (text_of c.args.ulid)) (sym c.from_residual.ensures)
    (next_of_none c.args.self.now.places texts c.args.ulid (ulid_of-found (text_of c.args.ulid) c.args.ulid c.text_is_read.ensures) c.in_err-next.ensures)

pub returns : goal.returns
returns c texts =
    subst (λ (u : ℕ). IsNextBlock c.args.self.now.places (text_of c.args.ulid) (Some u)) (sym c.ulid.ensures)
    (next_of_first c.args.self.now.places texts c.args.ulid (ulid_of-found (text_of c.args.ulid) c.args.ulid c.text_is_read.ensures) c.in_ok-next.next.now c.in_ok-next.ensures)
