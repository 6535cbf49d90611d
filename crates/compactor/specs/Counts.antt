-- How many groups a compaction counts.
use Rattle.std.specs.Prelude.{◌≡◌, ◌↔◌, ℕ, ◌+◌, List, [], ◌∷◌, ◌++◌, Some}
use Rattle.std.specs.List.{AllByRecursion}
use Rattle.block_meta.specs.declared.meta.Meta.{Meta}
use Rattle.moment_core.specs.declared.rules.Rules.{Rules}
use Rattle.world_core.specs.declared.entry.Entry.{Entry}
use Rattle.meta_fetcher.specs.Syncs.{SyncRun}
use Rattle.meta_fetcher.specs.declared.sync.SyncEnd.TheVariants as ended
use Rattle.meta_fetcher.specs.declared.view.View.{View}
use Rattle.group_planner.specs.Groups.{AreGroups}
use Rattle.group_planner.specs.Plans.{IsPlan}
use Rattle.group_planner.specs.declared.group.Group.{Group}
use Rattle.compactor.specs.Jobs.{IsUnplanned}
use Rattle.compactor.specs.Compactions.{metas_of, sync_rules}

-- one more, unless the plan is empty
abbrev pub with_planned : List Meta → ℕ → ℕ
with_planned [] others = others
with_planned (first ∷ metas) others = others + 1

-- so many of the groups have a plan that is not empty
abbrev pub HavePlans : List Group → ℕ → Type 0
HavePlans [] count = count ≡ 0
HavePlans (group ∷ groups) count =
    (plan : List Meta) × (others : ℕ) × IsPlan group.members plan × HavePlans groups others × (count ≡ with_planned plan others)

-- The entries begin with a sync, and so many of the groups of its kept blocks have a plan: none exactly where nothing of any group is
-- to be compacted.
pub record IsCounted (rules : Rules) (entries : List Entry) (compacted : ℕ) : Type 0 where
  pub own : List Entry
  pub others : List Entry
  pub are : entries ≡ own ++ others
  pub view : View
  pub synced : SyncRun (sync_rules rules) own (Some (ended.View view))
  pub counted : (groups : List Group) → AreGroups rules.replicas (metas_of view.kept) groups → HavePlans groups compacted
  pub none : (groups : List Group) → AreGroups rules.replicas (metas_of view.kept) groups → (compacted ≡ 0) ↔ AllByRecursion IsUnplanned groups
