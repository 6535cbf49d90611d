use Rattle.std.proofs.Common.{ap, ◌∙◌, sym, subst}
use Rattle.label_sets.specs.Labels.{IsLabelSet}
use Rattle.label_sets.specs.Finals.{without, final_of}
use Rattle.label_sets.proofs.FinalLabels.{reduced_alone, IsLabelSet-reduced, final_from_reduced}
use Rattle.label_sets.proofs.label_set.reduced.Goals as goal

pub invariant_of-result : goal.invariant_of-result
invariant_of-result c = subst IsLabelSet (sym (reduced_alone c.new-kept.ensures.items c.labels.ensures.value c.labels-2.ensures.value c.members.ensures c.in_ok-copy_kept.ensures))
    (IsLabelSet-reduced _ _ _ c.labels.ensures.lawful)

pub returns-clause-joined : goal.returns-clause-joined
returns-clause-joined c =
    ap (λ kept. final_of kept (without c.args.replicas.now c.args.external.now) c.args.replicas.now)
    (reduced_alone c.new-kept.ensures.items c.labels.ensures.value c.labels-2.ensures.value c.members.ensures c.in_ok-copy_kept.ensures)
    ∙ final_from_reduced _ _ _ c.labels.ensures.lawful c.labels-2.ensures.lawful
