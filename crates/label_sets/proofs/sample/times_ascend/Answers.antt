use Rattle.std.proofs.Common.{rules}
use Rattle.std.specs.Ordering.{int_cmp, is_lt}
use Rattle.std.proofs.lemmas.Cmp.{int_cmp_total}
use Rattle.std.proofs.lemmas.List.Sorted.{answers_always}
use Rattle.base.proofs.Ascending.{ascends_answer}
use Rattle.label_sets.proofs.sample.times_ascend.Goals as goal

pub returns : goal.returns
returns c = ascends_answer int_cmp int_cmp_total (λ s. s.time) _ _
    (c.is_sorted_by.ensures.cases (λ a b. is_lt (int_cmp a.time b.time)) (answers_always _ _ _ (λ f a r g k. search rules)))
