use Rattle.std.proofs.Common.{List, ℕ, Option, Some, refl, sym, subst}
use Rattle.std.specs.Prelude.{IsSome}
use Rattle.breach_finding.proofs.Changes.{one_changed}
use Rattle.breach_finding.proofs.standing.Standing.put.Goals as goal

pub returns-clause-ok : goal.returns-clause-ok
returns-clause-ok c entries bytes contents puts holds =
    one_changed entries c.args.self.now.places c.insert.new.self contents c.args.key (Some c.args.place) (Some bytes) c.has_text.ensures (λ q. c.in_ok-insert.ensures.updates.0 q)
    (sym puts) (λ some. subst (λ (o : Option (List ℕ)). IsSome o) (sym puts) refl) holds
