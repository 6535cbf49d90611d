-- The entries of a sync tell its end.
use Rattle.std.proofs.Common.{◌≡◌, List, Option, Some, sym, subst}
use Rattle.world_core.specs.declared.entry.Entry.{Entry}
use Rattle.world_core.proofs.PlanLaws.{one_end}
use Rattle.meta_fetcher.specs.OneView.{one_end_of}
use Rattle.meta_fetcher.specs.Syncs.{Course, IsEnd, SyncRun, Synced, sync}
use Rattle.meta_fetcher.specs.declared.rules.SyncRules.{SyncRules}
use Rattle.meta_fetcher.specs.declared.sync.SyncEnd.{SyncEnd}

pub sync_tells : (rules : SyncRules) (entries : List Entry) (one other : SyncEnd) → SyncRun rules entries (Some one) → SyncRun rules entries (Some other) → one ≡ other
sync_tells rules entries one other (told, run, is) (also, same, so) =
    one_end_of rules told one other is (subst (λ (t : Synced × Option Course). IsEnd rules t other) (sym (one_end (sync rules) entries told also run same)) so)
