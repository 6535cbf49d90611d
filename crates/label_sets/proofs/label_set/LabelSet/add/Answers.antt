use Rattle.std.proofs.Common.{◌≡◌, Err, [], sym, ◌∙◌, subst, inr}
use Rattle.label_sets.specs.Labels.{added}
use Rattle.label_sets.specs.declared.label_refusal.LabelRefusal.TheVariants.{Repeated}
use Rattle.label_sets.proofs.LabelPlaces.{IsLabelSet-inserted, added-repeated}
use Rattle.label_sets.proofs.label_set.LabelSet.add.Goals as goal

pub returns-in-Ok-clause-gives : goal.returns-in-Ok-clause-gives
returns-in-Ok-clause-gives c = inr (subst (λ ls. added ls c.args.name.now c.args.value.now ≡ Err Repeated) (c.as_slice.ensures.value ∙ c.self.view_is)
    (added-repeated _ _ _ _ (sym c.is_empty.ensures ∙ c.if-is_empty.false) (sym c.is_empty-2.ensures ∙ c.if-is_empty-2.false) (c.in-Ok.ensures.found.1 (record { name = []; value = [] }))))

pub invariant_of-self-2 : goal.invariant_of-self-2
invariant_of-self-2 c = IsLabelSet-inserted _ _ _ _ _ _ _ c.as_slice.ensures.value c.insert.ensures.items c.in_ok-label.ensures
    (sym c.is_empty.ensures ∙ c.if-is_empty.false) (sym c.is_empty-2.ensures ∙ c.if-is_empty-2.false)
    c.in-Err.ensures.absent.1 c.in-Err.ensures.absent.2 c.self.invariant
