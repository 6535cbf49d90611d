use Rattle.std.proofs.Common.{rules}
use Rattle.std.specs.Ordering.{is_lt}
use Rattle.std.proofs.lemmas.Cmp.{lists_total, then_total, on_total, nat_list_cmp_total}
use Rattle.std.proofs.lemmas.List.Sorted.{answers_always}
use Rattle.label_sets.specs.declared.label.Label.{Label}
use Rattle.label_sets.specs.declared.series.Series.{Series}
use Rattle.label_sets.specs.Labels.{compare_sets}
use Rattle.base.proofs.Ascending.{ascends_answer}
use Rattle.block_writing.proofs.buildable.ascend.Goals as goal

pub returns : goal.returns
returns c = ascends_answer compare_sets (lists_total (then_total (on_total (λ (l : Label). l.name) nat_list_cmp_total) (on_total (λ (l : Label). l.value) nat_list_cmp_total)))
    (λ (s : Series). s.labels) c.args.series.now c.is_sorted_by.result
    (c.is_sorted_by.ensures.cases (λ a b. is_lt (compare_sets a.labels b.labels)) (answers_always _ _ _ (λ f a r g k. search rules)))
