use Rattle.std.proofs.Common.{rules}
use Rattle.std.proofs.lemmas.List.Sorted.{answers_always}
use Rattle.base.proofs.StableSorts.{in_order-from_sort}
use Rattle.group_planner.specs.Groups.{comes_before}
use Rattle.group_planner.proofs.KeyOrders.{members_ranked}
use Rattle.group_planner.proofs.keyed.sort_members.Goals as goal

pub returns : goal.returns
returns c = in_order-from_sort comes_before members_ranked _ _
    (c.in_ok-sort_by.ensures.sorted comes_before members_ranked (answers_always _ _ _ (λ f a r g k. search rules)))
    (c.in_ok-sort_by.ensures.stable comes_before members_ranked (answers_always _ _ _ (λ f a r g k. search rules)))
