use Rattle.std.proofs.Common.{sym, subst}
use Rattle.label_sets.specs.Labels.{IsLabelSet}
use Rattle.label_sets.proofs.FinalLabels.{final_sorted, IsLabelSet-final}
use Rattle.label_sets.proofs.label_set.final_labels.Goals as goal

pub returns : goal.returns
returns c = final_sorted c.new-kept.ensures.items c.labels.ensures.value c.labels-2.ensures.value c.labels-3.ensures.value c.members.ensures c.members-2.ensures c.in_ok-copy_kept.ensures c.in_ok-copy_kept-2.ensures c.in_ok-sort_by_name.ensures.ordered

pub invariant_of-result : goal.invariant_of-result
invariant_of-result c = subst IsLabelSet (sym (returns c)) (IsLabelSet-final _ _ _ c.labels-2.ensures.lawful c.labels.ensures.lawful)
