-- Groups of which nothing is to be compacted are passed over.
use Rattle.std.proofs.Common.{◌≡◌, List, [], ◌∷◌, ◌++◌, sym, ap, append_assoc, ◌∙◌}
use Rattle.base.proofs.Lists.{AllByRecursion-append}
use Rattle.group_planner.specs.declared.group.Group.{Group}
use Rattle.compactor.specs.Jobs.{IsUnplanned, Skips}

-- one more group is passed over
pub skips_more : (all old left : List Group) (group : Group) → Skips all old → old ≡ group ∷ left → IsUnplanned group → Skips all left
skips_more all old left group skips is none = record {
  front = skips.front ++ group ∷ [];
  are = skips.are ∙ ap (λ (l : List Group). skips.front ++ l) is ∙ sym (append_assoc skips.front (group ∷ []) left);
  unplanned = AllByRecursion-append IsUnplanned skips.front (group ∷ []) skips.unplanned (none, tt);
}
