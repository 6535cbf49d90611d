-- A compaction is a sync, and what follows its end.
use Rattle.std.specs.Prelude.{◌≡◌, ◌⊎◌, List, ◌++◌, Option, Some, None}
use Rattle.moment_core.specs.declared.rules.Rules.{Rules}
use Rattle.world_core.specs.Plans.{Runs}
use Rattle.world_core.specs.declared.entry.Entry.{Entry}
use Rattle.meta_fetcher.specs.Syncs.{SyncRun}
use Rattle.meta_fetcher.specs.declared.sync.SyncEnd.{SyncEnd}
use Rattle.compactor.specs.Compactions.{sync_rules, after_sync}
use Rattle.compactor.specs.declared.compact_end.CompactEnd.{CompactEnd}

-- The entries are a sync that came to this end, and a run of what follows it.
pub record IsSyncAndRest (rules : Rules) (entries : List Entry) (end : Option CompactEnd) : Type 0 where
  pub own : List Entry
  pub others : List Entry
  pub are : entries ≡ own ++ others
  pub came : SyncEnd
  pub synced : SyncRun (sync_rules rules) own (Some came)
  pub rest : Runs (after_sync rules.replicas rules.retention came) others end

-- or they are a sync that was broken off
abbrev pub BeginsWithSync : Rules → List Entry → Option CompactEnd → Type 0
BeginsWithSync rules entries end = (SyncRun (sync_rules rules) entries None × (end ≡ None)) ⊎ IsSyncAndRest rules entries end
