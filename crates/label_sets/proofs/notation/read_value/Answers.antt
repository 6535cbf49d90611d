use Rattle.std.proofs.Common.{false, sym, ap, ◌∙◌, inr}
use Rattle.std.proofs.lemmas.Option.{MatchOption-at_none, MatchOption-at_some}
use Rattle.std.proofs.lemmas.Result.{err_from_is_err_and}
use Rattle.label_sets.specs.Notation.{value_at}
use Rattle.label_sets.proofs.ReadValues.{before, before-nothing, value_goes_on, value_ends, value_refused}
use Rattle.label_sets.proofs.notation.read_value.Goals as goal

pub loop-value-init : goal.loop-value-init
loop-value-init c = sym (ap (λ v. before v (value_at false c.args.text.now)) c.new-value.ensures.items ∙ before-nothing _)

pub returns-in_err-next : goal.returns-in_err-next
returns-in_err-next c = let p = err_from_is_err_and c.from_residual.result c.from_residual.ensures.1 in rw (p.1, p.2) (inr (value_refused _ _ _ _ c.loop-value.invariant c.in_err-next.ensures.refused))

pub returns-in-None : goal.returns-in-None
returns-in-None c = value_ends _ _ _ _ c.loop-value.invariant (MatchOption-at_none _ _ c.in-None.is c.in_ok-next.ensures.ended)

pub loop-value-preserved : goal.loop-value-preserved
loop-value-preserved c = value_goes_on _ _ _ _ _ _ c.loop-value.invariant (MatchOption-at_some _ _ _ c.in-Some.is c.in_ok-next.ensures.more) c.in_ok-push-in-Some.ensures.items
