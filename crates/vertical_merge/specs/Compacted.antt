-- What a block says of itself that was compacted from others.
use Rattle.std.specs.Prelude.{◌≡◌, ℕ, ℤ, ◌≤◌, ◌≤ℤ◌, ◌+◌, ◌-◌, min, List, map, All, Any, codes}
use Rattle.std.specs.List.{flat_map}
use Rattle.label_sets.specs.declared.label.Label.{Label}
use Rattle.block_meta.specs.declared.block_plan.BlockPlan.{BlockPlan}
use Rattle.block_meta.specs.declared.meta.Meta.{Meta}
use Rattle.block_meta.specs.declared.parent.Parent.{Parent}
use Rattle.block_meta.specs.Lawful.{ascending, level_limit}

-- the time of one of the blocks, and none has an earlier one
pub record IsLeast (time_of : Meta → ℤ) (metas : List Meta) (least : ℤ) : Type 0 where
  pub one : Any (λ meta. time_of meta ≡ least) metas
  pub none_below : All (λ meta. least ≤ℤ time_of meta) metas

-- the time of one of the blocks, and none has a later one
pub record IsGreatest (time_of : Meta → ℤ) (metas : List Meta) (greatest : ℤ) : Type 0 where
  pub one : Any (λ meta. time_of meta ≡ greatest) metas
  pub none_above : All (λ meta. time_of meta ≤ℤ greatest) metas

-- the level of one of the blocks, and none has a greater one
pub record IsGreatestLevel (metas : List Meta) (greatest : ℕ) : Type 0 where
  pub one : Any (λ meta. meta.level ≡ greatest) metas
  pub none_above : All (λ meta. meta.level ≤ greatest) metas

-- one above the greatest level, or the greatest that there can be
pub record IsNextLevel (metas : List Meta) (level : ℕ) : Type 0 where
  pub greatest : ℕ
  pub is_greatest : IsGreatestLevel metas greatest
  pub next : level ≡ min (greatest + 1) (level_limit - 1)

abbrev pub parent_of : Meta → Parent
parent_of meta = record { ulid = meta.ulid; min_time = meta.min_time; max_time = meta.max_time }

-- The sources are all those of the inputs, ascending, each once; the block begins with the first of the inputs and ends with the
-- last one; its parents are the inputs in their order, and its labels the group's.
pub record IsCompactedPlan (inputs : List Meta) (ulid : ℕ) (labels : List Label) (plan : BlockPlan) : Type 0 where
  pub ulid_is : plan.ulid ≡ ulid
  pub begin : IsLeast (λ meta. meta.min_time) inputs plan.min_time
  pub end : IsGreatest (λ meta. meta.max_time) inputs plan.max_time
  pub level : IsNextLevel inputs plan.level
  pub sources : plan.sources ≡ ascending (flat_map (λ meta. meta.sources) inputs)
  pub parents : plan.parents ≡ map parent_of inputs
  pub labels_are : plan.labels ≡ labels
  pub source : plan.source ≡ codes "compactor"
