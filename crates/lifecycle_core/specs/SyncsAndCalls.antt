-- Which entries of a journal are a sync, and which are a gateway's call: by the journal alone, whoever made them.
use Rattle.std.specs.Prelude.{◌≡◌, ◌<◌, ℕ, List, [], ◌++◌, All, Contains, Option, Some, None, option_map}
use Rattle.std.specs.List.{AllPairs}
use Rattle.world_core.specs.declared.entry.Entry.{Entry}
use Rattle.meta_fetcher.specs.Syncs.{SyncRun}
use Rattle.meta_fetcher.specs.declared.rules.SyncRules.{SyncRules}
use Rattle.meta_fetcher.specs.declared.sync.SyncEnd.{SyncEnd}
use Rattle.meta_fetcher.specs.declared.sync.SyncEnd.TheVariants as fetched
use Rattle.store_ranges.specs.Reads.{Cache, Query as Question}
use Rattle.store_calls.specs.Asking.{IsReadOf}
use Rattle.store_calls.specs.KeptRanges.{IsOfReads}
use Rattle.store_calls.specs.SeriesCalls.{CallEnd, SeriesRun}
use Rattle.store_calls.specs.declared.series_call.SeriesEnd.{SeriesEnd}
use Rattle.world_core.specs.Journals.{of_seat}
use Rattle.lifecycle_core.specs.Holdings.{Use}
use Rattle.lifecycle_core.specs.Tasks.{last_number}

-- The entries are a stretch of a seat's, and a sync by these rules that came to this end. One without an end was broken off, and
-- is the last of its seat.
pub record IsSyncBy (rules : SyncRules) (journal : List Entry) (seat : ℕ) (entries : List Entry)
    (end : Option SyncEnd) : Type 0 where
  pub before : List Entry
  pub after : List Entry
  pub parts : of_seat seat journal ≡ before ++ entries ++ after
  pub run : SyncRun rules entries end
  pub whole : end ≡ None → after ≡ []

-- the entries are the sync that gave a view
pub record IsViewOf (rules : SyncRules) (journal : List Entry) (used : Use) (entries : List Entry) : Type 0 where
  pub seat : ℕ
  pub sync : IsSyncBy rules journal seat entries (Some (fetched.View used.view))
  pub last : used.last ≡ last_number entries

-- The entries are some of the journal's, in their order, all of them made after the sync that gave the view, and a call over that
-- view that came to this end. What it had in its cache was read by entries that were made before all of them,
-- each of which read the index or the segments of a block.
pub record IsCallIn (journal : List Entry) (used : Use) (question : Question) (entries : List Entry)
    (end : Option SeriesEnd) : Type 0 where
  pub among : (e : Entry) → Contains entries e → Contains journal e
  pub rising : AllPairs (λ one other. one.seq < other.seq) entries
  pub later : All (λ e. used.last < e.seq) entries
  pub cache : Cache
  pub earlier : List Entry
  pub known : All (λ one. Contains journal one × All (λ e. one.seq < e.seq) entries) earlier
  pub reads : All (λ one. (ulid : ℕ) × IsReadOf ulid one.op) earlier
  pub cached : IsOfReads earlier cache
  pub own : Option CallEnd
  pub run : SeriesRun used.view question cache entries own
  pub is : end ≡ option_map (λ call. call.end) own
