-- What is written of a record is that record.
use Rattle.std.proofs.Common.{◌≡◌, ℕ, ◌+◌, ◌*◌, ◌%◌, ◌^◌, ◌<◌, ◌≤◌, Bool, true, false, List, [], ◌∷◌, ◌++◌, length, refl, ap, length-append, arith}
use Rattle.std.specs.Int.{Width, w32, w64, w128, byte_len, to_be_bytes}
use Rattle.std.specs.List.{AllByRecursion, flat_map}
use Rattle.std.specs.Str.{IsUtf8}
use Rattle.std.proofs.lemmas.List.Elements.{recursion_from_All}
use Rattle.block_keys.specs.KeyText.{IsKeyText, key_text}
use Rattle.block_keys.specs.declared.key.Key.{Key}
use Rattle.wire_bytes.specs.FieldTexts.{IsFixed}
use Rattle.wire_bytes.specs.Crc.{crc}
use Rattle.world_core.specs.Journals.{IsNumbered}
use Rattle.world_core.specs.Operations.{IsReplyTo}
use Rattle.world_core.specs.declared.op.Op.{Op}
use Rattle.world_core.specs.declared.op.Op.TheVariants.{Clock, Put, Get, GetRange, Delete, RootPage, BlockPage}
use Rattle.world_core.specs.declared.reply.Reply.{Reply}
use Rattle.world_core.specs.declared.reply.Reply.TheVariants.{Clocked, Stored, Found, Absent, Deleted, Names, Failed}
use Rattle.world_core.specs.declared.entry.Entry.{Entry}
use Rattle.journal_records.specs.Limits.{magic, most_bytes}
use Rattle.journal_records.specs.declared.run_record.Record.{Record}
use Rattle.journal_records.specs.RecordText.{Field, ◌▸◌, IsByte, IsSmall, IsLarge, IsUlid, IsBlob, IsText, IsKey, AreNames, IsFlag, IsOp, IsReply, IsEntry, IsBody, IsRecord}
use Rattle.journal_records.specs.RecordWritten.{counted, flag, op_text, reply_text, entry_text, body_text, record_text, IsTypedOp, IsTypedReply, IsTyped}
use Rattle.journal_records.specs.Writable.{HasLawfulKey, IsWritable}
use Rattle.journal_records.proofs.ManyTied.{Many}
use Rattle.journal_records.proofs.EntriesTied.{EntryField}
use Rattle.journal_records.proofs.Writables.{All-from_Each}

-- ---- fields

both : (F G : Field) (first second : List ℕ) → F first → G second → (F ▸ G) (first ++ second)
both F G first second f g = (first, second, f, g, refl)

fixed : (w : Width) (n : ℕ) → n < 2 ^ (8 * byte_len w) → IsFixed w (to_be_bytes w n) n
fixed w n small = record { digits = refl; fits = small }

-- the longest counted bytes that a length of four bytes tells
abbrev IsShort : List ℕ → Type 0
IsShort bytes = length (counted bytes) < 2 ^ 32

length-counted : (bytes : List ℕ) → length (counted bytes) ≡ 4 + length bytes
length-counted bytes = length-append (to_be_bytes w32 (length bytes)) bytes

blob_written : (blob : List ℕ) → IsShort blob → IsBlob blob (counted blob)
blob_written blob short = both (IsSmall (length blob)) (λ t. t ≡ blob) (to_be_bytes w32 (length blob)) blob (fixed w32 (length blob) (omega (arith, length-counted blob))) refl

text_written : (text : List ℕ) → IsShort text → IsUtf8 text → IsText text (counted text)
text_written text short utf8 = (utf8, blob_written text short)

key_written : (key : Key) → IsShort (key_text key) → IsKeyText (key_text key) key → IsKey key (counted (key_text key))
key_written key short is = (key_text key, is, blob_written (key_text key) short)

names_written : (names : List (List ℕ)) → length (flat_map counted names) < 2 ^ 32 → AllByRecursion IsUtf8 names → Many IsText names (flat_map counted names)
names_written [] short utf8 = refl
names_written (name ∷ names) short utf8 =
    let whole = length-append (counted name) (flat_map counted names) in
    (counted name, flat_map counted names, text_written name (omega (arith, whole, short)) utf8.0, names_written names (omega (arith, whole, short)) utf8.1, refl)

kind_written : (n : ℕ) → n < 256 → IsByte n (n ∷ [])
kind_written n small =
    let same : n ≡ n % 256 = omega arith in
    record { digits = ap (λ (m : ℕ). m ∷ []) same; fits = omega arith }

-- ---- entries

op_written : (op : Op) → IsTypedOp op → length (op_text op) < 2 ^ 32 → IsOp op (op_text op)
op_written (Clock moment) typed short = both (IsByte 1) (IsLarge moment.ms) (1 ∷ []) (to_be_bytes w64 moment.ms) (kind_written 1 (omega arith)) (fixed w64 moment.ms typed)
op_written (Put key blob) typed short =
    let long = length-append (counted (key_text key)) (counted blob) in
    both (IsByte 2) (IsKey key ▸ IsBlob blob) (2 ∷ []) (counted (key_text key) ++ counted blob) (kind_written 2 (omega arith))
    (both (IsKey key) (IsBlob blob) (counted (key_text key)) (counted blob) (key_written key (omega (arith, long, short)) typed) (blob_written blob (omega (arith, long, short))))
op_written (Get key) typed short = both (IsByte 3) (IsKey key) (3 ∷ []) (counted (key_text key)) (kind_written 3 (omega arith)) (key_written key (omega arith) typed)
op_written (GetRange key from len) typed short =
    let numbers = to_be_bytes w64 from ++ to_be_bytes w64 len in
    let long = length-append (counted (key_text key)) numbers in
    both (IsByte 4) (IsKey key ▸ IsLarge from ▸ IsLarge len) (4 ∷ []) (counted (key_text key) ++ numbers) (kind_written 4 (omega arith))
    (both (IsKey key) (IsLarge from ▸ IsLarge len) (counted (key_text key)) numbers (key_written key (omega (arith, long, short)) typed.0)
    (both (IsLarge from) (IsLarge len) (to_be_bytes w64 from) (to_be_bytes w64 len) (fixed w64 from typed.1) (fixed w64 len typed.2)))
op_written (Delete key) typed short = both (IsByte 5) (IsKey key) (5 ∷ []) (counted (key_text key)) (kind_written 5 (omega arith)) (key_written key (omega arith) typed)
op_written (RootPage after limit) typed short =
    let long = length-append (counted after) (to_be_bytes w32 limit) in
    both (IsByte 6) (IsText after ▸ IsSmall limit) (6 ∷ []) (counted after ++ to_be_bytes w32 limit) (kind_written 6 (omega arith))
    (both (IsText after) (IsSmall limit) (counted after) (to_be_bytes w32 limit) (text_written after (omega (arith, long, short)) typed.0) (fixed w32 limit typed.1))
op_written (BlockPage ulid after limit) typed short =
    let page = counted after ++ to_be_bytes w32 limit in
    let long = length-append (counted after) (to_be_bytes w32 limit) in
    let all = length-append (to_be_bytes w128 ulid) page in
    both (IsByte 7) (IsUlid ulid ▸ IsText after ▸ IsSmall limit) (7 ∷ []) (to_be_bytes w128 ulid ++ page) (kind_written 7 (omega arith))
    (both (IsUlid ulid) (IsText after ▸ IsSmall limit) (to_be_bytes w128 ulid) page (fixed w128 ulid typed.0)
    (both (IsText after) (IsSmall limit) (counted after) (to_be_bytes w32 limit) (text_written after (omega (arith, long, all, short)) typed.1) (fixed w32 limit typed.2)))

few_names : (names : List (List ℕ)) → length names ≤ length (flat_map counted names)
few_names [] = omega arith
few_names (name ∷ names) = omega (arith, length-append (counted name) (flat_map counted names), few_names names)

flag_written : (landed : Bool) → IsFlag landed (flag landed ∷ [])
flag_written true = kind_written 1 (omega arith)
flag_written false = kind_written 0 (omega arith)

reply_written : (reply : Reply) → IsTypedReply reply → length (reply_text reply) < 2 ^ 32 → IsReply reply (reply_text reply)
reply_written Clocked typed short = kind_written 1 (omega arith)
reply_written Stored typed short = kind_written 2 (omega arith)
reply_written (Found blob) typed short = both (IsByte 3) (IsBlob blob) (3 ∷ []) (counted blob) (kind_written 3 (omega arith)) (blob_written blob (omega arith))
reply_written Absent typed short = kind_written 4 (omega arith)
reply_written Deleted typed short = kind_written 5 (omega arith)
reply_written (Names names) typed short =
    let texts = flat_map counted names in
    let long = length-append (to_be_bytes w32 (length names)) texts in
    both (IsByte 6) (AreNames names) (6 ∷ []) (to_be_bytes w32 (length names) ++ texts) (kind_written 6 (omega arith))
    (both (IsSmall (length names)) (Many IsText names) (to_be_bytes w32 (length names)) texts (fixed w32 (length names) (omega (arith, long, few_names names, short)))
    (names_written names (omega (arith, long, short)) typed))
reply_written (Failed landed) typed short = both (IsByte 7) (IsFlag landed) (7 ∷ []) (flag landed ∷ []) (kind_written 7 (omega arith)) (flag_written landed)

-- an entry that can be written
pub record CanBeWritten (e : Entry) : Type 0 where
  pub lawful : HasLawfulKey e.op
  pub kind : IsReplyTo e.op e.reply
  pub typed : IsTyped e

entry_written : (e : Entry) → CanBeWritten e → length (entry_text e) < 2 ^ 32 → IsEntry (entry_text e) e
unfolding entry_text
entry_written e can short =
    let seat = to_be_bytes w32 e.seat in
    let moment = to_be_bytes w64 e.moment.ms in
    let acted = op_text e.op ++ reply_text e.reply in
    let long = length-append (op_text e.op) (reply_text e.reply) in
    let timed = length-append moment acted in
    let whole = length-append seat (moment ++ acted) in
    record {
      fields = both (IsSmall e.seat) (IsLarge e.moment.ms ▸ IsOp e.op ▸ IsReply e.reply) seat (moment ++ acted) (fixed w32 e.seat can.typed.seat)
          (both (IsLarge e.moment.ms) (IsOp e.op ▸ IsReply e.reply) moment acted (fixed w64 e.moment.ms can.typed.moment)
          (both (IsOp e.op) (IsReply e.reply) (op_text e.op) (reply_text e.reply)
          (op_written e.op can.typed.op (omega (arith, long, timed, whole, short)))
          (reply_written e.reply can.typed.reply (omega (arith, long, timed, whole, short)))));
      kind = can.kind;
    }

some_bytes : (e : Entry) → 1 ≤ length (entry_text e)
unfolding entry_text
some_bytes e = omega (arith, length-append (to_be_bytes w32 e.seat) (to_be_bytes w64 e.moment.ms ++ (op_text e.op ++ reply_text e.reply)))

few_entries : (entries : List Entry) → length entries ≤ length (flat_map entry_text entries)
few_entries [] = omega arith
few_entries (e ∷ entries) = omega (arith, length-append (entry_text e) (flat_map entry_text entries), some_bytes e, few_entries entries)

entries_written : (entries : List Entry) → AllByRecursion CanBeWritten entries → length (flat_map entry_text entries) < 2 ^ 32 → Many EntryField entries (flat_map entry_text entries)
entries_written [] can short = refl
entries_written (e ∷ entries) can short =
    let whole = length-append (entry_text e) (flat_map entry_text entries) in
    (entry_text e, flat_map entry_text entries, entry_written e can.0 (omega (arith, whole, short)), entries_written entries can.1 (omega (arith, whole, short)), refl)

-- ---- the record

abbrev pub made_of : List ℕ → List Entry → Record
made_of script entries = record { script = script; journal = entries }

body_written : (script : List ℕ) (entries : List Entry) → AllByRecursion CanBeWritten entries → length (body_text script entries) < 2 ^ 32 → IsBody (made_of script entries) (body_text script entries)
unfolding body_text
body_written script entries can short =
    let texts = flat_map entry_text entries in
    let count = to_be_bytes w64 (length entries) in
    let counted_texts = length-append count texts in
    let behind = length-append (counted script) (count ++ texts) in
    let whole = length-append (to_be_bytes w64 magic) (counted script ++ (count ++ texts)) in
    let few = few_entries entries in
    both (IsLarge magic) (IsBlob script ▸ IsLarge (length entries) ▸ Many EntryField entries) (to_be_bytes w64 magic) (counted script ++ (count ++ texts)) (fixed w64 magic (omega arith))
    (both (IsBlob script) (IsLarge (length entries) ▸ Many EntryField entries) (counted script) (count ++ texts) (blob_written script (omega (arith, counted_texts, behind, whole, short)))
    (both (IsLarge (length entries)) (Many EntryField entries) count texts (fixed w64 (length entries) (omega (arith, counted_texts, behind, whole, few, short)))
    (entries_written entries can (omega (arith, counted_texts, behind, whole, short)))))

pub record_written : (script : List ℕ) (entries : List Entry) → IsNumbered entries → AllByRecursion CanBeWritten entries → crc (body_text script entries) < 2 ^ 32 → length (record_text script entries) ≤ most_bytes
    → IsRecord (record_text script entries) (made_of script entries)
unfolding record_text
record_written script entries numbered can sum few =
    let body = body_text script entries in
    let whole = length-append body (to_be_bytes w32 (crc body)) in
    record {
      body = body;
      sum = to_be_bytes w32 (crc body);
      is_body = body_written script entries can (omega (arith, whole, few));
      is_sum = fixed w32 (crc body) sum;
      bytes_are = refl;
      numbered = numbered;
    }

all_can : (entries : List Entry) → AllByRecursion (λ e. HasLawfulKey e.op) entries → AllByRecursion (λ e. IsReplyTo e.op e.reply) entries → AllByRecursion IsTyped entries → AllByRecursion CanBeWritten entries
all_can [] keys kinds typed = tt
all_can (e ∷ entries) keys kinds typed = (record { lawful = keys.0; kind = kinds.0; typed = typed.0 }, all_can entries keys.1 kinds.1 typed.1)

pub writable_written : (script : List ℕ) (entries : List Entry) → IsWritable entries → AllByRecursion IsTyped entries → crc (body_text script entries) < 2 ^ 32 → length (record_text script entries) ≤ most_bytes
    → IsRecord (record_text script entries) (made_of script entries)
writable_written script entries can typed sum few =
    let keys = recursion_from_All (λ e. HasLawfulKey e.op) entries (All-from_Each (λ e. HasLawfulKey e.op) entries can.keys) in
    let kinds = recursion_from_All (λ e. IsReplyTo e.op e.reply) entries (All-from_Each (λ e. IsReplyTo e.op e.reply) entries can.kinds) in
    record_written script entries can.numbered (all_can entries keys kinds typed) sum few
