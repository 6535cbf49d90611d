use Rattle.std.proofs.Common.{rules}
use Rattle.std.proofs.lemmas.List.Sorted.{answers_always, ranks_by}
use Rattle.std.specs.Cmp.Lexicographic.{nat_list_cmp_total}
use Rattle.label_sets.specs.Labels.{has_lesser_name}
use Rattle.base.proofs.StableSorts.{in_order-from_sort}
use Rattle.label_sets.proofs.label_set.sort_by_name.Goals as goal

pub returns-clause-sorted : goal.returns-clause-sorted
returns-clause-sorted c = c.in_ok-sort_by.ensures.sorted has_lesser_name (ranks_by nat_list_cmp_total (λ l. l.name)) (answers_always _ _ _ (λ f a r g k. search rules))

pub returns-clause-ordered : goal.returns-clause-ordered
returns-clause-ordered c =
    let order = ranks_by nat_list_cmp_total (λ l. l.name) in
    in_order-from_sort has_lesser_name order _ _
    (c.in_ok-sort_by.ensures.sorted has_lesser_name order (answers_always _ _ _ (λ f a r g k. search rules)))
    (c.in_ok-sort_by.ensures.stable has_lesser_name order (answers_always _ _ _ (λ f a r g k. search rules)))
