use Rattle.std.proofs.Common.{List, ◌∷◌, ℕ, subst}
use Rattle.lifecycle_core.specs.Breaches.{shown_by}
use Rattle.breach_finding.specs.Told.{IsDifference, IsShownWrong, ended_names}
use Rattle.breach_finding.proofs.Texts.{shown_names}
use Rattle.breach_finding.proofs.lies.names_lie.Goals as goal
use Rattle.base.proofs.Options.{if_ok}

pub returns-in-Names : goal.returns-in-Names
returns-in-Names c =
    if_ok (IsDifference (ended_names c.members.result.now) (ended_names c.args.owed.now)) (IsShownWrong (shown_by c.args.reply.now) (78 ∷ ended_names c.args.owed.now)) c.names_difference.result c.names_difference.ensures
    (λ told differ. shown_names c.args.reply.now c.in-Names.names c.args.owed.now told c.in-Names.is
    (subst (λ (ns : List (List ℕ)). IsDifference (ended_names ns) (ended_names c.args.owed.now) told) c.members.ensures differ))
