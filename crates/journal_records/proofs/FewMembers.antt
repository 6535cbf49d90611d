-- A record has no more members in its lists than bytes.
use Rattle.std.proofs.Common.{◌≡◌, ℕ, ◌+◌, ◌≤◌, List, [], ◌∷◌, length, Result, Ok, Err, ap, ◌∙◌, length-append, arith}
use Rattle.std.specs.Prelude.{IfOk, sum_by}
use Rattle.std.proofs.lemmas.List.Sums.{sum_by-cons}
use Rattle.world_core.specs.Keeping.{bytes_put, bytes_told}
use Rattle.world_core.specs.declared.op.Op.{Op}
use Rattle.world_core.specs.declared.op.Op.TheVariants.{Clock, Put, Get, GetRange, Delete, RootPage, BlockPage}
use Rattle.world_core.specs.declared.reply.Reply.{Reply}
use Rattle.world_core.specs.declared.reply.Reply.TheVariants.{Clocked, Stored, Found, Absent, Deleted, Names, Failed}
use Rattle.world_core.specs.declared.entry.Entry.{Entry}
use Rattle.journal_records.specs.Bounds.{listed, member_count}
use Rattle.journal_records.specs.declared.cause.RecordCause.{RecordCause}
use Rattle.journal_records.specs.declared.run_record.Record.{Record}
use Rattle.journal_records.specs.RecordText.{Field, ◌▸◌, IsSmall, IsBlob, IsText, IsOp, IsReply, IsEntry, IsRecord}
use Rattle.journal_records.proofs.ManyTied.{Many}
use Rattle.journal_records.proofs.EntriesTied.{EntryField}

-- the parts of two fields, by their lengths
both_long : (F G : Field) (bytes : List ℕ) (s : (F ▸ G) bytes) → length bytes ≡ length s.0 + length s.1
both_long F G bytes s = ap length s.4 ∙ length-append s.0 s.1

blob_long : (blob bytes : List ℕ) → IsBlob blob bytes → 4 + length blob ≤ length bytes
blob_long blob bytes is = omega (arith, ap length is.2.digits, ap length is.3, both_long (IsSmall (length blob)) (λ t. t ≡ blob) bytes is)

op_long : (op : Op) (bytes : List ℕ) → IsOp op bytes → bytes_put op ≤ length bytes
op_long (Clock moment) bytes is = omega arith
op_long (Put key blob) bytes is =
    let behind = is.3 in
    omega (arith, ap length is.4, length-append is.0 is.1, ap length behind.4, length-append behind.0 behind.1, blob_long blob behind.1 behind.3)
op_long (Get key) bytes is = omega arith
op_long (GetRange key from len) bytes is = omega arith
op_long (Delete key) bytes is = omega arith
op_long (RootPage after limit) bytes is = omega arith
op_long (BlockPage ulid after limit) bytes is = omega arith

names_long : (names : List (List ℕ)) (bytes : List ℕ) → Many IsText names bytes → length names + sum_by length names ≤ length bytes
names_long [] bytes are = omega arith
names_long (name ∷ names) bytes are =
    omega (arith, ap length are.4, length-append are.0 are.1, blob_long name are.0 are.2.1, names_long names are.1 are.3, sum_by-cons length name names)

reply_long : (reply : Reply) (bytes : List ℕ) → IsReply reply bytes → listed reply + bytes_told reply ≤ length bytes
reply_long Clocked bytes is = omega arith
reply_long Stored bytes is = omega arith
reply_long (Found blob) bytes is = omega (arith, ap length is.4, length-append is.0 is.1, blob_long blob is.1 is.3)
reply_long Absent bytes is = omega arith
reply_long Deleted bytes is = omega arith
reply_long (Names names) bytes is =
    let behind = is.3 in
    omega (arith, ap length is.4, length-append is.0 is.1, ap length behind.4, length-append behind.0 behind.1, names_long names behind.1 behind.3)
reply_long (Failed landed) bytes is = omega arith

-- the members that an entry brings beside itself
brought : Entry → ℕ
brought e = listed e.reply + (bytes_put e.op + bytes_told e.reply)

entry_long : (e : Entry) (bytes : List ℕ) → IsEntry bytes e → 1 + brought e ≤ length bytes
unfolding brought
entry_long e bytes is =
    let seat = is.fields in
    let moment = seat.3 in
    let acted = moment.3 in
    omega (
      arith,
      ap length seat.4,
      length-append seat.0 seat.1,
      ap length seat.2.digits,
      ap length moment.4,
      length-append moment.0 moment.1,
      ap length acted.4,
      length-append acted.0 acted.1,
      op_long e.op acted.0 acted.2,
      reply_long e.reply acted.1 acted.3,
    )

entries_long : (entries : List Entry) (bytes : List ℕ) → Many EntryField entries bytes → member_count entries ≤ length bytes
unfolding brought
entries_long [] bytes are = omega arith
entries_long (e ∷ entries) bytes are =
    let one = entry_long e are.0 are.2 in
    omega (
      arith,
      ap length are.4,
      length-append are.0 are.1,
      one,
      entries_long entries are.1 are.3,
      sum_by-cons (λ (x : Entry). listed x.reply) e entries,
      sum_by-cons (λ (x : Entry). bytes_put x.op + bytes_told x.reply) e entries,
    )

record_long : (bytes : List ℕ) (r : Record) → IsRecord bytes r → length r.script + member_count r.journal ≤ length bytes
record_long bytes r is =
    let script = is.is_body.3 in
    let counted = script.3 in
    omega (
      arith,
      ap length is.bytes_are,
      length-append is.body is.sum,
      ap length is.is_body.4,
      length-append is.is_body.0 is.is_body.1,
      ap length script.4,
      length-append script.0 script.1,
      ap length counted.4,
      length-append counted.0 counted.1,
      blob_long r.script script.0 script.2,
      entries_long r.journal counted.1 counted.3,
    )

pub call_bounds : (bytes : List ℕ) (result : Result Record RecordCause) → IfOk result (IsRecord bytes) → IfOk result (λ r. length r.script + member_count r.journal ≤ length bytes)
call_bounds bytes (Ok r) is = record_long bytes r is
call_bounds bytes (Err e) is = tt
