-- What follows a merge.
use Rattle.std.proofs.Common.{◌≡◌, ℕ, List, inr, subst, Result}
use Rattle.base.specs.declared.memory.NoMemory.{NoMemory}
use Rattle.label_sets.specs.declared.label.Label.{Label}
use Rattle.moment_core.specs.declared.moment.Moment.{Moment}
use Rattle.world_core.specs.Plans.{Plan, finds, IsAtMostOne}
use Rattle.world_core.specs.declared.act.Act.{Act}
use Rattle.compactor.specs.Compactions.{after_merge, merging}
use Rattle.compactor.specs.CompactStates.{Begins, groups_left}
use Rattle.compactor.specs.Merges.{IsMerging}
use Rattle.compactor.specs.NewBlocks.{new_ulid}
use Rattle.compactor.specs.OneMerge.{one_merging}
use Rattle.compactor.specs.declared.compact.Compact.{Compact}
use Rattle.compactor.specs.declared.compact_end.CompactEnd.{CompactEnd}
use Rattle.compactor.specs.declared.input.Input.{Input}
use Rattle.compactor.specs.declared.merging.Merging.{Merging}
use Rattle.compactor.proofs.CompactSteps.{begins_as}

-- a call goes on from the only one that is such
pub begins_found : {A : Type 0} (Is : A → Type 0) (one : IsAtMostOne Is) (next : A → Plan CompactEnd) (found : A) (r : Result (Act CompactEnd) NoMemory) (new : Compact) → Is found → Begins (next found) r new → Begins (finds Is one next) r new
begins_found Is one next found r new is begins = begins_as (next found) (finds Is one next) r new (λ entries end run. inr (found, is, run)) begins

-- what the inputs become is what follows
pub merges : (c : Compact) (labels : List Label) (parents : List ℕ) (inputs : List Input) (number : ℕ) (moment : Moment) (ulid : ℕ) (merged one : Merging) (r : Result (Act CompactEnd) NoMemory) (new : Compact)
    → ulid ≡ new_ulid number moment → merged ≡ one → IsMerging c.replicas ulid labels inputs merged → Begins (after_merge ulid parents (groups_left c) one) r new
    → Begins (merging c.replicas labels parents (groups_left c) inputs number moment) r new
merges c labels parents inputs number moment ulid merged one r new named same is begins =
    begins_found (IsMerging c.replicas (new_ulid number moment) labels inputs) (one_merging c.replicas (new_ulid number moment) labels inputs)
    (after_merge (new_ulid number moment) parents (groups_left c)) one r new
    (subst (λ (n : ℕ). IsMerging c.replicas n labels inputs one) named (subst (λ (m : Merging). IsMerging c.replicas ulid labels inputs m) same is))
    (subst (λ (n : ℕ). Begins (after_merge n parents (groups_left c) one) r new) named begins)
