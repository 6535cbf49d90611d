-- A sync that was not begun.
use Rattle.std.proofs.Common.{List, [], Option, Some, None}
use Rattle.world_core.specs.declared.entry.Entry.{Entry}
use Rattle.meta_fetcher.specs.Syncs.{listing, SyncRun}
use Rattle.meta_fetcher.specs.SyncStates.{Goes}
use Rattle.meta_fetcher.specs.declared.rules.SyncRules.{SyncRules}
use Rattle.meta_fetcher.specs.declared.sync.SyncEnd.{SyncEnd}
use Rattle.meta_fetcher.proofs.Ascending.{sync_ascends}

-- a run of the whole plan is a sync, since what it comes to ascends
pub begins : (rules : SyncRules) (entries : List Entry) (end : Option SyncEnd) → Goes rules None (listing rules 1_000_000 []) entries end → SyncRun rules entries end
begins rules entries None run = run
begins rules entries (Some end) (told, run, is) = (told, run, is (sync_ascends rules entries told run))
