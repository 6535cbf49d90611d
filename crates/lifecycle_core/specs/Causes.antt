-- Why a worker came to no view and to no answer: what a journal has to show.
use Rattle.std.specs.Prelude.{◌≡◌, ◌≤◌, ℕ, List, ◌∷◌, ◌++◌, Contains, Some, IsTrue}
use Rattle.block_keys.specs.Keys.{key_ulid}
use Rattle.block_keys.specs.declared.key.Key.{Key}
use Rattle.world_core.specs.Journals.{entry_at}
use Rattle.world_core.specs.Operations.{has_failed}
use Rattle.world_core.specs.declared.entry.Entry.{Entry}
use Rattle.world_core.specs.declared.reply.Reply.TheVariants.{Absent}
use Rattle.shipper.specs.declared.upload.UploadEnd.TheVariants as shipped
use Rattle.meta_fetcher.specs.declared.sync.SyncEnd.TheVariants as fetched
use Rattle.store_calls.specs.declared.series_call.SeriesEnd.TheVariants as called
use Rattle.compactor.specs.declared.compact_end.CompactEnd.TheVariants as compacting
use Rattle.cleaner.specs.declared.clean.CleanEnd.TheVariants as cleaning
use Rattle.lifecycle_core.specs.Setting.{Setting}
use Rattle.lifecycle_core.specs.Breaches.{Rule, honesty, upload_time, mark_time, sync_time, view_time, read_time, RefusesUnder, Watch, read_key, watched}
use Rattle.lifecycle_core.specs.Tasks.{End, uploaded, synced, compacted, cleaned, answered, not_asked, refused, without_view, stopped}
use Rattle.lifecycle_core.specs.TimeRules.{PutsMark, PutsObject}

-- some worker came to this end
abbrev pub SomeCame : List (List (List End)) → End → Type 0
SomeCame ends end =
    (phase : List (List End)) × (own : List End) × Contains ends phase × Contains phase own
    × Contains own end

-- What may be blamed for an object of the block that an entry of a call did not find: any reply that is a lie, an object or a mark of
-- this block that was put at another time than it might have been, or that this entry itself came too late.
abbrev pub IsBlamed : Entry → ℕ → Rule → Entry → Type 0
IsBlamed missed ulid honesty e = Unit {0}
IsBlamed missed ulid upload_time e = PutsObject ulid e
IsBlamed missed ulid mark_time e = (second : ℕ) × PutsMark ulid second e
IsBlamed missed ulid sync_time e = ⊥
IsBlamed missed ulid view_time e = e.seq ≡ missed.seq
IsBlamed missed ulid read_time e = ⊥

-- The same of a compaction's entry: a reply that is a lie, an object of this block that was put at another time, or that an entry of
-- this compaction came too late.
abbrev pub IsBlamedInCompaction : Entry → ℕ → Rule → Entry → Type 0
IsBlamedInCompaction missed ulid honesty e = Unit {0}
IsBlamedInCompaction missed ulid upload_time e = PutsObject ulid e
IsBlamedInCompaction missed ulid mark_time e = ⊥
IsBlamedInCompaction missed ulid sync_time e = ⊥
IsBlamedInCompaction missed ulid view_time e = ⊥
IsBlamedInCompaction missed ulid read_time e = e.seat ≡ missed.seat

-- The entry of this number found no object, and some entry that is not after it is to be blamed for that, where these syncs, calls and
-- compactions are watched.
pub record IsExplainedBy (setting : Setting) (watch : Watch) (blames : Entry → ℕ → Rule → Entry → Type 0) (journal : List Entry)
    (number : ℕ) : Type 0 where
  pub missed : Entry
  pub key : Key
  pub at : entry_at journal number ≡ Some missed
  pub reads : read_key missed.op ≡ Some key
  pub absent : missed.reply ≡ Absent
  pub rule : Rule
  pub before : List Entry
  pub entry : Entry
  pub after : List Entry
  pub x : ℕ
  pub y : ℕ
  pub parts : journal ≡ before ++ entry ∷ after
  pub early : entry.seq ≤ number
  pub refused : RefusesUnder setting watch rule before entry x y
  pub blamed : blames missed (key_ulid key) rule entry

-- as a call's miss
abbrev pub IsExplainedUnder : Setting → Watch → List Entry → ℕ → Type 0
IsExplainedUnder setting watch journal number = IsExplainedBy setting watch IsBlamed journal number

-- where the script's gateways are watched
abbrev pub IsExplained : Setting → List Entry → ℕ → Type 0
IsExplained setting journal number = IsExplainedUnder setting (watched setting journal) journal number

-- a call or a compaction found an object missing, at the entry of this number
abbrev pub IsMissing : End → ℕ → Type 0
IsMissing (uploaded end) number = ⊥
IsMissing (synced end) number = ⊥
IsMissing (compacted (compacting.Done collected groups expired)) number = ⊥
IsMissing (compacted (compacting.Fault entry)) number = ⊥
IsMissing (compacted (compacting.Missing entry)) number = entry ≡ number
IsMissing (compacted (compacting.Damaged entry)) number = ⊥
IsMissing (compacted compacting.TooMany) number = ⊥
IsMissing (compacted compacting.TooLarge) number = ⊥
IsMissing (cleaned (cleaning.Done blocks partials)) number = ⊥
IsMissing (cleaned (cleaning.Fault entry)) number = ⊥
IsMissing (cleaned (cleaning.Damaged entry)) number = ⊥
IsMissing (cleaned cleaning.TooMany) number = ⊥
IsMissing (answered used (called.Answer series sources)) number = ⊥
IsMissing (answered used (called.Missing entry)) number = entry ≡ number
IsMissing (answered used (called.Damaged entry)) number = ⊥
IsMissing (answered used (called.Fault entry)) number = ⊥
IsMissing without_view number = ⊥
IsMissing not_asked number = ⊥
IsMissing (refused cause) number = ⊥
IsMissing (stopped count) number = ⊥

-- what may be blamed for the miss of a task that came to this end
abbrev pub blamed_for : End → Entry → ℕ → Rule → Entry → Type 0
blamed_for (compacted end) = IsBlamedInCompaction
blamed_for (uploaded end) = IsBlamed
blamed_for (synced end) = IsBlamed
blamed_for (cleaned end) = IsBlamed
blamed_for (answered used end) = IsBlamed
blamed_for without_view = IsBlamed
blamed_for not_asked = IsBlamed
blamed_for (refused cause) = IsBlamed
blamed_for (stopped count) = IsBlamed

-- Where a worker says that an object was missing, the journal shows why.
abbrev pub AreMissesExplained : Setting → List Entry → List (List (List End)) → Type 0
AreMissesExplained setting journal ends =
    (end : End) (number : ℕ) → SomeCame ends end → IsMissing end number
    → IsExplainedBy setting (watched setting journal) (blamed_for end) journal number

-- Where a compaction says so, the same: also where phases began before those before them were done.
abbrev pub AreCompactionsExplained : Setting → List Entry → List (List (List End)) → Type 0
AreCompactionsExplained setting journal ends =
    (number : ℕ) → SomeCame ends (compacted (compacting.Missing number))
    → IsExplainedBy setting (watched setting journal) IsBlamedInCompaction journal number

-- No worker says that an object was missing.
abbrev pub AreFound : List (List (List End)) → Type 0
AreFound ends = (end : End) (number : ℕ) → SomeCame ends end → ¬ IsMissing end number

-- bytes or names were not of the form
abbrev pub IsDamaged : End → Type 0
IsDamaged (uploaded end) = ⊥
IsDamaged (synced (fetched.View view)) = ⊥
IsDamaged (synced (fetched.Fault entry)) = ⊥
IsDamaged (synced (fetched.Damaged entry)) = Unit {0}
IsDamaged (synced fetched.TooMany) = ⊥
IsDamaged (compacted (compacting.Done collected groups expired)) = ⊥
IsDamaged (compacted (compacting.Fault entry)) = ⊥
IsDamaged (compacted (compacting.Missing entry)) = ⊥
IsDamaged (compacted (compacting.Damaged entry)) = Unit {0}
IsDamaged (compacted compacting.TooMany) = ⊥
IsDamaged (compacted compacting.TooLarge) = ⊥
IsDamaged (cleaned (cleaning.Done blocks partials)) = ⊥
IsDamaged (cleaned (cleaning.Fault entry)) = ⊥
IsDamaged (cleaned (cleaning.Damaged entry)) = Unit {0}
IsDamaged (cleaned cleaning.TooMany) = ⊥
IsDamaged (answered used (called.Answer series sources)) = ⊥
IsDamaged (answered used (called.Missing entry)) = ⊥
IsDamaged (answered used (called.Damaged entry)) = Unit {0}
IsDamaged (answered used (called.Fault entry)) = ⊥
IsDamaged without_view = ⊥
IsDamaged not_asked = ⊥
IsDamaged (refused cause) = ⊥
IsDamaged (stopped count) = ⊥

-- no worker says that bytes or names were not of the form
abbrev pub AreUndamaged : List (List (List End)) → Type 0
AreUndamaged ends = (end : End) → SomeCame ends end → ¬ IsDamaged end

-- a call failed, at the entry of this number
abbrev pub IsFault : End → ℕ → Type 0
IsFault (uploaded (shipped.Done count)) number = ⊥
IsFault (uploaded shipped.Already) number = ⊥
IsFault (uploaded (shipped.Fault entry)) number = entry ≡ number
IsFault (synced (fetched.View view)) number = ⊥
IsFault (synced (fetched.Fault entry)) number = entry ≡ number
IsFault (synced (fetched.Damaged entry)) number = ⊥
IsFault (synced fetched.TooMany) number = ⊥
IsFault (compacted (compacting.Done collected groups expired)) number = ⊥
IsFault (compacted (compacting.Fault entry)) number = entry ≡ number
IsFault (compacted (compacting.Missing entry)) number = ⊥
IsFault (compacted (compacting.Damaged entry)) number = ⊥
IsFault (compacted compacting.TooMany) number = ⊥
IsFault (compacted compacting.TooLarge) number = ⊥
IsFault (cleaned (cleaning.Done blocks partials)) number = ⊥
IsFault (cleaned (cleaning.Fault entry)) number = entry ≡ number
IsFault (cleaned (cleaning.Damaged entry)) number = ⊥
IsFault (cleaned cleaning.TooMany) number = ⊥
IsFault (answered used (called.Answer series sources)) number = ⊥
IsFault (answered used (called.Missing entry)) number = ⊥
IsFault (answered used (called.Damaged entry)) number = ⊥
IsFault (answered used (called.Fault entry)) number = entry ≡ number
IsFault without_view number = ⊥
IsFault not_asked number = ⊥
IsFault (refused cause) number = ⊥
IsFault (stopped count) number = ⊥

-- Where a worker says that a call failed, the entry that it names was answered so.
abbrev pub AreFaultsShown : List Entry → List (List (List End)) → Type 0
AreFaultsShown journal ends =
    (end : End) (number : ℕ) → SomeCame ends end → IsFault end number
    → (e : Entry) × (entry_at journal number ≡ Some e) × IsTrue (has_failed e.reply)

-- The task came to what it is for, or to the stop of its line, or its block is not shipped, or a compacted block's index would be too
-- long, or one block has a million objects.
abbrev pub IsWell : End → Type 0
IsWell (uploaded (shipped.Done count)) = Unit {0}
IsWell (uploaded shipped.Already) = Unit {0}
IsWell (uploaded (shipped.Fault entry)) = ⊥
IsWell (synced (fetched.View view)) = Unit {0}
IsWell (synced (fetched.Fault entry)) = ⊥
IsWell (synced (fetched.Damaged entry)) = ⊥
IsWell (synced fetched.TooMany) = ⊥
IsWell (compacted (compacting.Done collected groups expired)) = Unit {0}
IsWell (compacted (compacting.Fault entry)) = ⊥
IsWell (compacted (compacting.Missing entry)) = ⊥
IsWell (compacted (compacting.Damaged entry)) = ⊥
IsWell (compacted compacting.TooMany) = ⊥
IsWell (compacted compacting.TooLarge) = Unit {0}
IsWell (cleaned (cleaning.Done blocks partials)) = Unit {0}
IsWell (cleaned (cleaning.Fault entry)) = ⊥
IsWell (cleaned (cleaning.Damaged entry)) = ⊥
IsWell (cleaned cleaning.TooMany) = Unit {0}
IsWell (answered used (called.Answer series sources)) = Unit {0}
IsWell (answered used (called.Missing entry)) = ⊥
IsWell (answered used (called.Damaged entry)) = ⊥
IsWell (answered used (called.Fault entry)) = ⊥
IsWell without_view = ⊥
IsWell not_asked = Unit {0}
IsWell (refused cause) = Unit {0}
IsWell (stopped count) = Unit {0}

-- every task that came to its end came to such a one
abbrev pub AreWell : List (List (List End)) → Type 0
AreWell ends = (end : End) → SomeCame ends end → IsWell end
