-- The rules of time under which a run has to stay, so that no block is deleted while somebody still reads it. A script's
-- rules say how long each delay is; a journal shows whether they were kept.
use Rattle.std.specs.Prelude.{◌≡◌, ◌+◌, ◌*◌, ◌/◌, ◌≤◌, ℕ, List, ◌∷◌, All, Contains, IsTrue}
use Rattle.block_keys.specs.Keys.{key_ulid}
use Rattle.block_keys.specs.declared.key.Key.{Key}
use Rattle.block_keys.specs.declared.key.Key.TheVariants.{Meta, Index, Segment, Mark}
use Rattle.block_meta.specs.MetaFields.{MarkFields}
use Rattle.block_meta.specs.MetaText.{IsMarkText}
use Rattle.moment_core.specs.declared.moment.Moment.{Moment}
use Rattle.moment_core.specs.declared.rules.Rules.{Rules}
use Rattle.moment_core.specs.Limits.{one_second}
use Rattle.meta_fetcher.specs.declared.view.View.{View}
use Rattle.ulid_core.specs.Times.{time_of}
use Rattle.world_core.specs.Standing.{has_landed}
use Rattle.world_core.specs.declared.op.Op.TheVariants.{Put}
use Rattle.world_core.specs.declared.entry.Entry.{Entry}

-- an object of a block, other than its mark
abbrev pub IsBlockObject : Key → Type 0
IsBlockObject (Meta ulid) = Unit {0}
IsBlockObject (Index ulid) = Unit {0}
IsBlockObject (Segment ulid number) = Unit {0}
IsBlockObject (Mark ulid) = ⊥

-- the entry puts such an object of the block, landed or not
abbrev pub PutsObject : ℕ → Entry → Type 0
PutsObject ulid e =
    (key : Key) × (bytes : List ℕ) × (e.op ≡ Put key bytes) × (key_ulid key ≡ ulid)
    × IsBlockObject key

-- A block is uploaded within the upload limit from its own time on.
abbrev pub IsUploadedInTime : Rules → ℕ → List Entry → Type 0
IsUploadedInTime rules ulid journal =
    All (λ e. PutsObject ulid e
    → (time_of ulid ≤ e.moment.ms) × (e.moment.ms ≤ time_of ulid + rules.upload.ms)) journal

-- the entry puts a deletion mark of the block that tells this second, and the put has landed
abbrev pub PutsMark : ℕ → ℕ → Entry → Type 0
PutsMark ulid second e =
    (bytes : List ℕ) × (mark : MarkFields) × (e.op ≡ Put (Mark ulid) bytes)
    × IsTrue (has_landed e.reply) × IsMarkText bytes mark × (mark.deletion_time ≡ second)

-- A block's mark lands within the ignore delay from the second on that it tells.
abbrev pub IsMarkedInTime : Rules → ℕ → List Entry → Type 0
IsMarkedInTime rules ulid journal =
    All (λ e. (second : ℕ) → PutsMark ulid second e
    → e.moment.ms ≤ one_second * second + rules.ignore.ms) journal

-- A sync reads no longer than the ignore delay, less the second to which marks are rounded.
abbrev pub IsSyncedInTime : Rules → List Entry → Type 0
IsSyncedInTime rules entries =
    (first last : Entry) (others : List Entry) → entries ≡ first ∷ others → Contains entries last
    → last.moment.ms + one_second ≤ first.moment.ms + rules.ignore.ms

-- A series call reads the blocks of a view while the view is young: no mark that its sync passed over can have led to a deletion
-- before the delete delay, less the ignore delay, has gone by from the sync's beginning.
abbrev pub IsReadInTime : Rules → View → Entry → Type 0
IsReadInTime rules view e = e.moment.ms + rules.ignore.ms ≤ view.begin.ms + rules.delete.ms

-- A compaction reads within half the delete delay from its beginning on: no mark that its sync passed over can have led to a deletion
-- by then.
abbrev pub IsCompactionReadInTime : Rules → Moment → Entry → Type 0
IsCompactionReadInTime rules begin e = e.moment.ms ≤ begin.ms + rules.delete.ms / 2
