-- The words of the proofs over journals in which blocks are compacted and deleted: what each seat did.
use Rattle.std.specs.Prelude.{◌≡◌, ◌≢◌, ◌⊎◌, ℕ, ◌<◌, List, [], ◌∷◌, ◌++◌, All, Contains, Option, Some, None, IsTrue}
use Rattle.block_keys.specs.declared.object.Object.{Object}
use Rattle.world_core.specs.Plans.{Runs}
use Rattle.world_core.specs.Worlds.{IsJournal}
use Rattle.world_core.specs.declared.op.Op.{Op}
use Rattle.world_core.specs.declared.op.Op.TheVariants as op
use Rattle.world_core.specs.declared.entry.Entry.{Entry}
use Rattle.shipper.specs.Uploads.{upload}
use Rattle.shipper.specs.declared.upload.UploadEnd.{UploadEnd}
use Rattle.compactor.specs.Compactions.{CompactRun}
use Rattle.compactor.specs.declared.compact_end.CompactEnd.{CompactEnd}
use Rattle.cleaner.specs.Cleanings.{CleanRun}
use Rattle.cleaner.specs.declared.clean.CleanEnd.{CleanEnd}
use Rattle.script_fields.specs.Values.{agree}
use Rattle.script_core.specs.declared.block.Block.{Block}
use Rattle.lifecycle_core.specs.Acting.{IsReading}
use Rattle.world_core.specs.Journals.{of_seat}
use Rattle.lifecycle_core.specs.Held.{declared}
use Rattle.lifecycle_core.specs.Setting.{Setting}
use Rattle.lifecycle_core.specs.Shipped.{IsShipped}

-- ---- what each seat did

abbrev pub IsClock : Op → Type 0
IsClock (op.Clock moment) = Unit {0}
IsClock (op.Put k bytes) = ⊥
IsClock (op.Get k) = ⊥
IsClock (op.GetRange k from len) = ⊥
IsClock (op.Delete k) = ⊥
IsClock (op.RootPage after limit) = ⊥
IsClock (op.BlockPage ulid after limit) = ⊥

-- What all entries of a seat are, until now: one upload, one compaction, one cleaning, or reads; or they set the clock.
pub data Deed (setting : Setting) (entries : List Entry) : Type 0 where
  ships : (ulid : ℕ) (block : Block) (objects : List Object) (end : Option UploadEnd) → declared setting.script ulid ≡ Some block → IsShipped setting block objects → Runs (upload ulid objects) entries end → Deed setting entries
  compacts : (end : Option CompactEnd) → CompactRun setting.script.rules entries end → Deed setting entries
  cleans : (end : Option CleanEnd) → CleanRun setting.script.rules entries end → Deed setting entries
  reads : All (λ (e : Entry). IsReading e.op) entries → Deed setting entries
  clocks : All (λ (e : Entry). IsClock e.op) entries → Deed setting entries

-- it is a compaction
abbrev pub Compacts : {setting : Setting} {entries : List Entry} → Deed setting entries → Type 0
Compacts (ships ulid block objects end is shipped run) = ⊥
Compacts (compacts end run) = Unit {0}
Compacts (cleans end run) = ⊥
Compacts (reads all) = ⊥
Compacts (clocks all) = ⊥

-- it is a cleaning
abbrev pub Cleans : {setting : Setting} {entries : List Entry} → Deed setting entries → Type 0
Cleans (ships ulid block objects end is shipped run) = ⊥
Cleans (compacts end run) = ⊥
Cleans (cleans end run) = Unit {0}
Cleans (reads all) = ⊥
Cleans (clocks all) = ⊥

-- each of the one is before each of the other
abbrev pub AreBefore : List Entry → List Entry → Type 0
AreBefore one other = (x y : Entry) → Contains one x → Contains other y → x.seq < y.seq

-- A journal in which each seat did one deed, and no two compactions were under way at once.
pub record AreDeeds (setting : Setting) (journal : List Entry) : Type 0 where
  pub kept : IsJournal setting.script.rules.tick.ms journal
  -- where something was done, the delays of the rules agree
  pub agreed : journal ≢ [] → IsTrue (agree setting.script.rules)
  pub deed : (seat : ℕ) → Deed setting (of_seat seat journal)
  pub apart : (one other : ℕ) → one ≢ other → Compacts (deed one) → Compacts (deed other)
      → AreBefore (of_seat one journal) (of_seat other journal) ⊎ AreBefore (of_seat other journal) (of_seat one journal)

-- What was done at an entry, behind these entries of the journal: its seat's entries until it are a run that may go on.
pub data Done (setting : Setting) (before : List Entry) (e : Entry) : Type 0 where
  shipping : (ulid : ℕ) (block : Block) (objects : List Object) → declared setting.script ulid ≡ Some block → IsShipped setting block objects → Runs (upload ulid objects) (of_seat e.seat before ++ e ∷ []) None → Done setting before e
  compacting : CompactRun setting.script.rules (of_seat e.seat before ++ e ∷ []) None → Done setting before e
  cleaning : CleanRun setting.script.rules (of_seat e.seat before ++ e ∷ []) None → Done setting before e
  reading : IsReading e.op → Done setting before e
  clocking : IsClock e.op → Done setting before e
