-- The words of the proofs about answers: objects with which a script's blocks are shipped, entries that rise, and from which runs a view and
-- an end come.
use Rattle.std.specs.Prelude.{◌≡◌, ℕ, ◌<◌, ◌≤◌, ◌^◌, List, [], ◌∷◌, ◌++◌, All, Contains, Some}
use Rattle.block_keys.specs.Keys.{key_ulid}
use Rattle.block_keys.specs.declared.key.Key.{Key}
use Rattle.block_keys.specs.declared.object.Object.{Object}
use Rattle.world_core.specs.declared.entry.Entry.{Entry}
use Rattle.meta_fetcher.specs.Syncs.{SyncRun}
use Rattle.meta_fetcher.specs.declared.sync.SyncEnd.TheVariants as fetched
use Rattle.store_calls.specs.Asking.{IsReadOf}
use Rattle.store_calls.specs.KeptRanges.{IsOfReads}
use Rattle.script_core.specs.declared.block.Block.{Block}
use Rattle.script_workers.specs.declared.task.Task.{Task}
use Rattle.lifecycle_core.specs.Breaches.{IsSeatOf}
use Rattle.world_core.specs.Journals.{of_seat}
use Rattle.lifecycle_core.specs.Conducts.{Who}
use Rattle.lifecycle_core.specs.Held.{declared}
use Rattle.lifecycle_core.specs.Holdings.{Holding, Use}
use Rattle.lifecycle_core.specs.Setting.{Setting}
use Rattle.lifecycle_core.specs.Shipped.{IsShipped}
use Rattle.lifecycle_core.proofs.blocks.Whole.{IsWholeBlock}
use Rattle.lifecycle_core.specs.Tasks.{End, TaskRun, last_number, sync_rules}

-- ---- what is shipped

-- the object is one of those with which the script's block is shipped
pub record IsShippedObject (setting : Setting) (k : Key) (bytes : List ℕ) : Type 0 where
  pub block : Block
  pub is : declared setting.script (key_ulid k) ≡ Some block
  pub objects : List Object
  pub shipped : IsShipped setting block objects
  pub among : Contains objects (record { key = k; bytes = bytes })

-- ---- parts of a journal

-- numbers rise along the entries, and moments do not fall
abbrev pub Rises : List Entry → Type 0
Rises [] = Unit {0}
Rises (e ∷ entries) = All (λ (x : Entry). (e.seq < x.seq) × (e.moment.ms ≤ x.moment.ms)) entries × Rises entries

-- the entries are some of the journal's, in their order
pub record IsPart (journal entries : List Entry) : Type 0 where
  pub among : (e : Entry) → Contains entries e → Contains journal e
  pub rises : Rises entries

-- ---- where views and ends come from

-- the entries follow one another among those of a seat
pub record IsStretch (journal : List Entry) (seat : ℕ) (entries : List Entry) : Type 0 where
  pub before : List Entry
  pub after : List Entry
  pub parts : of_seat seat journal ≡ before ++ entries ++ after

-- the sync that gave a view
pub record IsOrigin (setting : Setting) (journal : List Entry) (used : Use) : Type 0 where
  pub gateway : ℕ
  pub entries : List Entry
  pub run : SyncRun (sync_rules setting gateway) entries (Some (fetched.View used.view))
  pub last : used.last ≡ last_number entries
  pub part : IsPart journal entries
  pub seat : ℕ
  pub stretch : IsStretch journal seat entries

-- the run of a task that came to an end
pub record IsMade (setting : Setting) (journal : List Entry) (task : Task) (end : End) : Type 0 where
  pub who : Who
  pub place : ℕ
  pub held : Holding
  pub after : Holding
  pub entries : List Entry
  pub run : TaskRun setting who place task.work held entries (Some end) after
  pub part : IsPart journal entries
  -- its worker made it
  pub own : All (λ e. e.seat ≡ who.seat) entries
  pub seated : (gateway : ℕ) → who.gateway ≡ Some gateway → IsSeatOf setting gateway who.seat
  pub origin : (used : Use) → held.used ≡ Some used → IsOrigin setting journal used
  -- a worker of the same gateway made the sync of the view
  pub sits : (used : Use) (is : held.used ≡ Some used) (gateway : ℕ) → who.gateway ≡ Some gateway → IsSeatOf setting gateway (origin used is).seat
  -- by this gateway's rules
  pub same : (used : Use) (is : held.used ≡ Some used) (gateway : ℕ) → who.gateway ≡ Some gateway → (origin used is).gateway ≡ gateway
  -- it was made after the sync of the view that it used
  pub later : (used : Use) → held.used ≡ Some used → All (λ e. used.last < e.seq) entries
  -- what was in its cache was read before
  pub earlier : List Entry
  pub known : All (λ one. Contains journal one × All (λ e. one.seq < e.seq) entries) earlier
  pub reads : All (λ one. (ulid : ℕ) × IsReadOf ulid one.op) earlier
  -- by workers of the same gateway
  pub readers : (gateway : ℕ) → who.gateway ≡ Some gateway → All (λ one. IsSeatOf setting gateway one.seat) earlier
  pub cached : IsOfReads earlier held.cache

-- ---- what is read again

-- The objects with which the script's blocks are shipped are whole blocks, and each is shipped in one way.
pub record IsReadable (setting : Setting) : Type 0 where
  pub small : (ulid : ℕ) (block : Block) → declared setting.script ulid ≡ Some block → ulid < 2 ^ 128
  pub whole : (ulid : ℕ) (block : Block) → declared setting.script ulid ≡ Some block → (objects : List Object) → IsShipped setting block objects → IsWholeBlock setting block objects
  pub once : (ulid : ℕ) (block : Block) → declared setting.script ulid ≡ Some block → (objects others : List Object) → IsShipped setting block objects → IsShipped setting block others → objects ≡ others
