-- Which entry of a journal shows first that the bucket lied, or that somebody acted at another time than the rules allow.
use Rattle.std.specs.Prelude.{◌≡◌, ◌≢◌, ◌⊎◌, ◌+◌, ◌*◌, ◌/◌, ◌<◌, ◌≤◌, ℕ, List, [], ◌∷◌, ◌++◌, length, Contains, Option, Some, None, slice_get, codes}
use Rattle.std.specs.List.{flat_map}
use Rattle.block_keys.specs.declared.key.Key.{Key}
use Rattle.block_keys.specs.declared.key.Key.TheVariants.{Meta, Index, Segment, Mark}
use Rattle.world_core.specs.Journals.{Each, of_seat}
use Rattle.world_core.specs.Operations.{IsReplyTo}
use Rattle.world_core.specs.Standing.{stands, Tells}
use Rattle.world_core.specs.declared.entry.Entry.{Entry}
use Rattle.world_core.specs.declared.op.Op.{Op}
use Rattle.world_core.specs.declared.op.Op.TheVariants.{Clock, Put, Get, GetRange, Delete, RootPage, BlockPage}
use Rattle.world_core.specs.declared.reply.Reply.{Reply}
use Rattle.world_core.specs.declared.reply.Reply.TheVariants.{Clocked, Stored, Found, Absent, Deleted, Names, Failed}
use Rattle.ulid_core.specs.Times.{time_of}
use Rattle.meta_fetcher.specs.declared.sync.SyncEnd.{SyncEnd}
use Rattle.meta_fetcher.specs.declared.sync.SyncEnd.TheVariants as fetched
use Rattle.meta_fetcher.specs.declared.view.View.{View}
use Rattle.moment_core.specs.declared.moment.Moment.{Moment}
use Rattle.moment_core.specs.Limits.{one_second}
use Rattle.script_core.specs.Workers.{workers_of}
use Rattle.script_workers.specs.declared.phase.Phase.{Phase}
use Rattle.script_workers.specs.declared.task.Task.{Task}
use Rattle.script_workers.specs.declared.work.Work.{Work}
use Rattle.script_workers.specs.declared.work.Work.TheVariants.{Compact}
use Rattle.script_workers.specs.declared.worker.Worker.{Worker}
use Rattle.lifecycle_core.specs.Holdings.{Use}
use Rattle.lifecycle_core.specs.Setting.{Setting}
use Rattle.lifecycle_core.specs.SyncsAndCalls.{IsSyncBy}
use Rattle.lifecycle_core.specs.Tasks.{last_number, sync_rules}
use Rattle.lifecycle_core.specs.TimeRules.{PutsMark, PutsObject}

-- what an entry may break; at one entry they are asked in this order
pub data Rule : Type 0 where
  -- the bucket shows what stands
  honesty : Rule
  -- a block is uploaded in time
  upload_time : Rule
  -- a block is marked in time
  mark_time : Rule
  -- a sync reads in time
  sync_time : Rule
  -- a view is read in time
  view_time : Rule
  -- a compaction reads in time
  read_time : Rule

abbrev pub rank : Rule → ℕ
rank honesty = 0
rank upload_time = 1
rank mark_time = 2
rank sync_time = 3
rank view_time = 4
rank read_time = 5

-- ---- what the bucket shows

-- the byte with which a name ends in the text of a reply, which no name has
abbrev pub name_end : ℕ
name_end = 255

-- what a reply shows of the bucket, as a text: a found object, an absent one, or names, each of which ends with a byte that no
-- name has
abbrev pub shown_by : Reply → Option (List ℕ)
shown_by (Found bytes) = Some (codes "F" ++ bytes)
shown_by Absent = Some (codes "A")
shown_by (Names names) = Some (codes "N" ++ flat_map (λ name. name ++ name_end ∷ []) names)
shown_by Clocked = None
shown_by Stored = None
shown_by Deleted = None
shown_by (Failed landed) = None

-- what counts as the byte at a text's end, as it is none
abbrev pub text_end : ℕ
text_end = 256

-- the byte with which a text goes on
abbrev pub next_byte : List ℕ → ℕ
next_byte [] = text_end
next_byte (byte ∷ bytes) = byte

-- these bytes are the first in which the texts differ
abbrev pub FirstDiffer : List ℕ → List ℕ → ℕ → ℕ → Type 0
FirstDiffer one other x y =
    (front : List ℕ) × (left : List ℕ) × (right : List ℕ)
    × (one ≡ front ++ left) × (other ≡ front ++ right) × (next_byte left ≡ x)
    × (next_byte right ≡ y) × (x ≢ y)

-- The entry shows something else than what stands after those before it; the bytes are the first that differ, the one that it
-- shows and the one that it owes.
abbrev pub IsLie : List Entry → Entry → ℕ → ℕ → Type 0
IsLie before e shown owed =
    (reply : Reply) × (one : List ℕ) × (other : List ℕ) × IsReplyTo e.op reply
    × Tells (stands before) e.op reply
    × (shown_by e.reply ≡ Some one) × (shown_by reply ≡ Some other)
    × FirstDiffer one other shown owed

-- ---- what gateways do

-- a worker of the gateway has this seat
abbrev pub IsSeatOf : Setting → ℕ → ℕ → Type 0
IsSeatOf setting gateway seat =
    (number : ℕ) × (worker : Worker) × Contains (workers_of setting.script number) worker
    × (worker.gateway ≡ Some gateway) × (worker.seat ≡ seat)

-- The entries are one whole sync of a gateway, which came to this end.
pub record IsSyncIn (setting : Setting) (journal : List Entry) (gateway : ℕ) (entries : List Entry)
    (end : Option SyncEnd) : Type 0 where
  pub seat : ℕ
  pub sits : IsSeatOf setting gateway seat
  pub sync : IsSyncBy (sync_rules setting gateway) journal seat entries end
  -- No sync that began earlier reaches into it. A bucket that lists an empty name can so hide a sync: the page after that name asks
  -- what a first page asks, and may read as the beginning of the sync that follows. But that bucket lied, at an earlier entry.
  pub alone : (others : List Entry) (own : Option SyncEnd)
      → (other : IsSyncBy (sync_rules setting gateway) journal seat others own)
      → length other.before < length sync.before → length other.before + length others ≤ length sync.before

-- no sync of the gateway that gave a view ended behind the one number and before the other
abbrev pub NoViewBetween : Setting → List Entry → ℕ → ℕ → ℕ → Type 0
NoViewBetween setting journal gateway last number =
    (entries : List Entry) (view : View)
    → IsSyncIn setting journal gateway entries (Some (fetched.View view))
    → last_number entries < number → last_number entries ≤ last

-- the view that a gateway has at the entry of a number: that of its last sync before it which gave one
pub record IsViewAt (setting : Setting) (journal : List Entry) (gateway number : ℕ)
    (view : View) : Type 0 where
  pub entries : List Entry
  pub gave : IsSyncIn setting journal gateway entries (Some (fetched.View view))
  pub before : last_number entries < number
  pub last : NoViewBetween setting journal gateway (last_number entries) number

-- the key under which an operation reads
abbrev pub read_key : Op → Option Key
read_key (Get key) = Some key
read_key (GetRange key from len) = Some key
read_key (Clock moment) = None
read_key (Put key bytes) = None
read_key (Delete key) = None
read_key (RootPage after limit) = None
read_key (BlockPage ulid after limit) = None

-- a key that gateways read for queries, and for nothing else
abbrev pub HoldsSamples : Key → Type 0
HoldsSamples (Meta ulid) = ⊥
HoldsSamples (Index ulid) = Unit {0}
HoldsSamples (Segment ulid number) = Unit {0}
HoldsSamples (Mark ulid) = ⊥

-- the entry reads under such a key
abbrev pub ReadsSamples : Entry → Type 0
ReadsSamples e = (key : Key) × (read_key e.op ≡ Some key) × HoldsSamples key

-- the entry is a read of a gateway's series call
abbrev pub IsCallRead : Setting → ℕ → Entry → Type 0
IsCallRead setting gateway e = IsSeatOf setting gateway e.seat × ReadsSamples e

-- ---- what compactions do

-- the task at a place of the phase of a number
pub record IsWorkAt (setting : Setting) (number place : ℕ) (work : Work) : Type 0 where
  pub phase : Phase
  pub task : Task
  pub in_phases : slice_get setting.script.phases number ≡ Some phase
  pub in_tasks : slice_get phase.tasks place ≡ Some task
  pub asks : task.work ≡ work

-- A worker whose task is a compaction has this seat.
pub record IsCompactorSeat (setting : Setting) (seat : ℕ) : Type 0 where
  pub number : ℕ
  pub worker : Worker
  pub works : Contains (workers_of setting.script number) worker
  pub sits : worker.seat ≡ seat
  pub place : ℕ
  pub own : Contains worker.tasks place
  pub stop : Option ℕ
  pub compacts : IsWorkAt setting number place (Compact stop)

-- the entry is a get, a range or a page
abbrev pub IsReading : Op → Type 0
IsReading (Clock moment) = ⊥
IsReading (Put key bytes) = ⊥
IsReading (Get key) = Unit {0}
IsReading (GetRange key from len) = Unit {0}
IsReading (Delete key) = ⊥
IsReading (RootPage after limit) = Unit {0}
IsReading (BlockPage ulid after limit) = Unit {0}

-- The entry is a read at a seat, whose first entry was made at that moment.
abbrev pub IsReadSince : List Entry → ℕ → Moment → Entry → Type 0
IsReadSince journal seat begin e =
    (e.seat ≡ seat) × IsReading e.op
    × ((first : Entry) × (others : List Entry) × (of_seat seat journal ≡ first ∷ others) × (first.moment ≡ begin))

-- ---- whom the rules watch

-- what of a journal the rules of time on syncs, calls and compactions are asked of
pub record Watch : Type 1 where
  -- the entries are one whole sync, which came to this end
  pub syncs : List Entry → Option SyncEnd → Type 0
  -- the entry is a read of a series call over this view
  pub reads : Entry → View → Type 0
  -- the entry is a read of a compaction that began at this moment
  pub compactions : Moment → Entry → Type 0

-- The script's gateways, each at the seats of its workers, which read by the view of their last sync, and its compactions, each at
-- the seat of its worker.
abbrev pub watched : Setting → List Entry → Watch
watched setting journal = record {
  syncs = λ entries end. (gateway : ℕ) × IsSyncIn setting journal gateway entries end;
  reads = λ e view. (gateway : ℕ) × IsCallRead setting gateway e × IsViewAt setting journal gateway e.seq view;
  compactions = λ begin e. IsCompactorSeat setting e.seat × IsReadSince journal e.seat begin e;
}

-- one call over a view, and the sync that gave the view, at whatever seats they were made
abbrev pub watched_call : Use → List Entry → List Entry → Watch
watched_call used sync entries = record {
  syncs = λ own end. (own ≡ sync) × (end ≡ Some (fetched.View used.view));
  reads = λ e view. Contains entries e × ReadsSamples e × (view ≡ used.view);
  compactions = λ begin e. ⊥;
}

-- one compaction, at whatever seat it was made
abbrev pub watched_compaction : List Entry → ℕ → Watch
watched_compaction journal seat = record {
  syncs = λ own end. ⊥;
  reads = λ e view. ⊥;
  compactions = IsReadSince journal seat;
}

-- ---- breaches

-- the first number is above the second one, which is the most that is allowed
abbrev pub IsOver : ℕ → ℕ → ℕ → ℕ → Type 0
IsOver is most x y = (x ≡ is) × (y ≡ most) × (most < is)

-- The rule refuses the entry, which follows the entries before it in the journal, where these syncs, calls and compactions are watched. Of the
-- two numbers the first one is what it shows and the second one what it owes, or the first one is above the second one and may not
-- be.
abbrev pub RefusesUnder : Setting → Watch → Rule → List Entry → Entry → ℕ → ℕ → Type 0
RefusesUnder setting watch honesty before e x y = IsLie before e x y
RefusesUnder setting watch upload_time before e x y =
    (ulid : ℕ) × PutsObject ulid e
    × (IsOver (time_of ulid) e.moment.ms x y
    ⊎ IsOver e.moment.ms (time_of ulid + setting.script.rules.upload.ms) x y)
RefusesUnder setting watch mark_time before e x y =
    (ulid : ℕ) × (second : ℕ) × PutsMark ulid second e
    × IsOver e.moment.ms (one_second * second + setting.script.rules.ignore.ms) x y
-- the last read of a sync stands for it
RefusesUnder setting watch sync_time before e x y =
    (entries : List Entry) × (end : Option SyncEnd) × (first : Entry) × (others : List Entry)
    × (front : List Entry) × watch.syncs entries end × (entries ≡ first ∷ others)
    × (entries ≡ front ++ e ∷ [])
    × IsOver (e.moment.ms + one_second) (first.moment.ms + setting.script.rules.ignore.ms) x y
RefusesUnder setting watch view_time before e x y =
    (view : View) × watch.reads e view
    × IsOver (e.moment.ms + setting.script.rules.ignore.ms) (view.begin.ms + setting.script.rules.delete.ms) x y
RefusesUnder setting watch read_time before e x y =
    (begin : Moment) × watch.compactions begin e
    × IsOver e.moment.ms (begin.ms + setting.script.rules.delete.ms / 2) x y

-- where the script's gateways and compactions are watched
abbrev pub Refuses : Setting → List Entry → Rule → List Entry → Entry → ℕ → ℕ → Type 0
Refuses setting journal rule before e x y = RefusesUnder setting (watched setting journal) rule before e x y

-- no rule refuses the entry
abbrev pub IsKept : Setting → List Entry → List Entry → Entry → Type 0
IsKept setting journal before e =
    (rule : Rule) (x y : ℕ) → ¬ Refuses setting journal rule before e x y

-- no rule refuses an entry of the journal
abbrev pub IsUnbroken : Setting → List Entry → Type 0
IsUnbroken setting journal = Each (IsKept setting journal) journal

-- The journal's breach, if it has one: the first entry that a rule refuses, and the first rule that refuses it.
pub record IsBreach (setting : Setting) (journal : List Entry) (rule : Rule)
    (number x y : ℕ) : Type 0 where
  pub before : List Entry
  pub entry : Entry
  pub after : List Entry
  pub parts : journal ≡ before ++ entry ∷ after
  pub is : entry.seq ≡ number
  pub refused : Refuses setting journal rule before entry x y
  pub first : Each (IsKept setting journal) before
  pub foremost : (other : Rule) (one two : ℕ) → rank other < rank rule
      → ¬ Refuses setting journal other before entry one two
