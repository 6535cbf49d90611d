-- The entries of a sync tell what it does next.
use Rattle.std.proofs.Common.{◌≡◌, List, ◌∷◌, ◌++◌, Option, Some, None}
use Rattle.world_core.specs.Plans.{Runs}
use Rattle.world_core.specs.declared.entry.Entry.{Entry}
use Rattle.world_core.proofs.PlanLaws.{once, same_op}
use Rattle.meta_fetcher.specs.Syncs.{Course, SyncRun, Synced, sync}
use Rattle.meta_fetcher.specs.declared.rules.SyncRules.{SyncRules}
use Rattle.meta_fetcher.specs.declared.sync.SyncEnd.{SyncEnd}

module _ (rules : SyncRules) where
  run_of : (entries : List Entry) (end : Option SyncEnd) → SyncRun rules entries end → (told : Option (Synced × Option Course)) × Runs (sync rules) entries told
  run_of entries None run = (None, run)
  run_of entries (Some end) (told, run, gives) = (Some told, run)

  -- after the same entries two syncs ask for the same
  pub next_is_one : (made rest others : List Entry) (one other : Entry) (end also : Option SyncEnd) → SyncRun rules (made ++ one ∷ rest) end → SyncRun rules (made ++ other ∷ others) also → one.op ≡ other.op
  next_is_one made rest others one other end also run too =
      let first = run_of (made ++ one ∷ rest) end run in
      let second = run_of (made ++ other ∷ others) also too in
      same_op (sync rules) made one other rest others first.0 second.0 first.1 second.1

  -- no sync goes on behind an end
  pub ends_there : (made rest : List Entry) (e : Entry) (end : SyncEnd) (also : Option SyncEnd) → SyncRun rules made (Some end) → SyncRun rules (made ++ e ∷ rest) also → ⊥
  ends_there made rest e end also (told, run, gives) too =
      let second = run_of (made ++ e ∷ rest) also too in
      once (sync rules) made told e rest second.0 run second.1
