use Rattle.std.proofs.Common.{List, ℕ, subst}
use Rattle.breach_finding.specs.Told.{IsDifference}
use Rattle.breach_finding.proofs.Texts.{shown_found}
use Rattle.breach_finding.proofs.lies.found_lie.Goals as goal

pub returns-in-Found : goal.returns-in-Found
returns-in-Found c =
    shown_found c.args.reply.now c.in-Found.bytes c.args.owed.now c.first_difference.result c.in-Found.is
    (subst (λ (t : List ℕ). IsDifference t c.args.owed.now c.first_difference.result) c.bytes.ensures c.first_difference.ensures)
