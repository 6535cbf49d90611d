use Rattle.std.proofs.Common.{sym, ap, subst, arith, ◌∙◌}
use Rattle.group_planner.specs.Groups.{AreGroups}
use Rattle.compactor.specs.FoundNames.{names_of, expired_at}
use Rattle.compactor.specs.Compactions.{metas_of}
use Rattle.compactor.proofs.Rounds.{view_begins}
use Rattle.world_core.proofs.LeadSteps.{falls_more}
use Rattle.compactor.proofs.compact.Compact.take_view.Goals as goal

pub invariant_of-self : goal.invariant_of-self
invariant_of-self c = omega (arith, c.from_vec.result.ok.0, c.from_vec.result.small.0, c.from_vec.result.small.1)

pub returns-clause-leads : goal.returns-clause-leads
returns-clause-leads c =
    view_begins c.args.self.now.replicas c.args.self.now.retention c.args.view c.in_ok-covered.covered.items c.in_ok-expired.expired.items c.from_vec.result.items c.mark.result c.mark.new.self
    (c.in_ok-covered.ensures ∙ ap names_of c.members-2.ensures)
    (c.in_ok-expired.ensures ∙ ap (λ l. names_of (expired_at c.args.self.now.retention c.args.view.begin l)) c.members.ensures)
    (subst (AreGroups c.args.self.now.replicas (metas_of c.args.view.kept)) (sym (c.from_vec.ensures.items ∙ c.into_vec.ensures)) (subst (AreGroups c.args.self.now.replicas (metas_of c.args.view.kept)) (sym c.in_ok-found.ensures.found.2) c.in_ok-found.ensures.found.1))
    c.mark.ensures.leads

pub returns-clause-falls : goal.returns-clause-falls
returns-clause-falls c = falls_more _ _ c.mark.result _ (omega (arith, c.from_vec.result.ok.0, c.from_vec.result.small.0, c.from_vec.result.small.1)) c.mark.ensures.falls
