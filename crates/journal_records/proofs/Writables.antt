-- Journals that can be written.
use Rattle.std.proofs.Common.{◌≡◌, ℕ, ◌+◌, List, [], ◌∷◌, ◌++◌, take, drop, get_or, Result, Ok, Err, subst}
use Rattle.std.specs.Prelude.{IfOk}
use Rattle.std.specs.List.{All, AllByRecursion}
use Rattle.base.proofs.Lists.{AllByRecursion-append_right, split_place, get_or-any}
use Rattle.block_keys.proofs.KeyLaws.{IsLawfulKey-text}
use Rattle.world_core.specs.Journals.{Each}
use Rattle.world_core.specs.Operations.{IsLawful, IsReplyTo}
use Rattle.world_core.specs.Worlds.{IsJournal}
use Rattle.world_core.specs.declared.op.Op.{Op}
use Rattle.world_core.specs.declared.op.Op.TheVariants.{Clock, Put, Get, GetRange, Delete, RootPage, BlockPage}
use Rattle.world_core.specs.declared.entry.Entry.{Entry}
use Rattle.journal_records.specs.declared.cause.RecordCause.{RecordCause}
use Rattle.journal_records.specs.declared.run_record.Record.{Record}
use Rattle.journal_records.specs.RecordText.{IsOp, IsRecord}
use Rattle.journal_records.specs.Writable.{HasLawfulKey, IsWritable}
use Rattle.journal_records.proofs.ManyTied.{Many}
use Rattle.journal_records.proofs.EntriesTied.{EntryField}

-- ---- a world's

key_of_lawful : (op : Op) → IsLawful op → HasLawfulKey op
key_of_lawful (Clock moment) lawful = tt
key_of_lawful (Put key blob) lawful = lawful
key_of_lawful (Get key) lawful = lawful
key_of_lawful (GetRange key from len) lawful = lawful
key_of_lawful (Delete key) lawful = lawful
key_of_lawful (RootPage after limit) lawful = tt
key_of_lawful (BlockPage ulid after limit) lawful = tt

pub world_writable : (tick : ℕ) (journal : List Entry) → IsJournal tick journal → IsWritable journal
world_writable tick journal is = record {
  numbered = is.numbered;
  keys = λ before after e split. key_of_lawful e.op (is.lawful before after e split);
  kinds = is.kinds;
}

-- ---- a record's

key_of_op : (op : Op) (bytes : List ℕ) → IsOp op bytes → HasLawfulKey op
key_of_op (Clock moment) bytes is = tt
key_of_op (Put key blob) bytes is = let k = is.3.2 in IsLawfulKey-text k.0 key k.1
key_of_op (Get key) bytes is = let k = is.3 in IsLawfulKey-text k.0 key k.1
key_of_op (GetRange key from len) bytes is = let k = is.3.2 in IsLawfulKey-text k.0 key k.1
key_of_op (Delete key) bytes is = let k = is.3 in IsLawfulKey-text k.0 key k.1
key_of_op (RootPage after limit) bytes is = tt
key_of_op (BlockPage ulid after limit) bytes is = tt

abbrev IsSound : Entry → Type 0
IsSound e = HasLawfulKey e.op × IsReplyTo e.op e.reply

all_sound : (entries : List Entry) (bytes : List ℕ) → Many EntryField entries bytes → AllByRecursion IsSound entries
all_sound [] bytes are = tt
all_sound (e ∷ entries) bytes are =
    let acted = are.2.fields.3.3 in
    ((key_of_op e.op acted.0 acted.2, are.2.kind), all_sound entries are.1 are.3)

each_sound : (entries before after : List Entry) (e : Entry) → AllByRecursion IsSound entries → entries ≡ before ++ e ∷ after → IsSound e
each_sound entries before after e all split = (AllByRecursion-append_right IsSound before (e ∷ after) (subst (λ (l : List Entry). AllByRecursion IsSound l) split all)).0

pub record_writable : (bytes : List ℕ) (r : Record) → IsRecord bytes r → IsWritable r.journal
record_writable bytes r is =
    let entries = is.is_body.3.3 in
    let all = all_sound r.journal entries.1 entries.3 in
    record {
      numbered = is.numbered;
      keys = λ before after e split. (each_sound r.journal before after e all split).0;
      kinds = λ before after e split. (each_sound r.journal before after e all split).1;
    }

pub call_writable : (bytes : List ℕ) (result : Result Record RecordCause) → IfOk result (IsRecord bytes) → IfOk result (λ r. IsWritable r.journal)
call_writable bytes (Ok r) is = record_writable bytes r is
call_writable bytes (Err e) is = tt

-- ---- as loops take it

pub All-from_Each : (P : Entry → Type 0) (entries : List Entry) → Each (λ before e. P e) entries → All P entries
All-from_Each P entries each k d lt =
    let e = get_or entries k d in
    each (take k entries) (drop (k + 1) entries) e (split_place entries k e lt (get_or-any entries k d e lt))
