-- How many bytes the parts of a record have.
use Rattle.std.proofs.Common.{◌≡◌, ℕ, ◌+◌, ◌-◌, ◌^◌, ◌<◌, ◌≤◌, min, List, ◌++◌, length, codes, sym, ap, length-append, arith}
use Rattle.std.specs.Int.{w32, w64, to_be_bytes}
use Rattle.std.specs.Prelude.{sum_by}
use Rattle.std.specs.List.{flat_map}
use Rattle.std.proofs.lemmas.List.Concat.{length-flat_map}
use Rattle.ulid_core.specs.UlidText.{text_of}
use Rattle.ulid_core.proofs.UlidLaws.{length-text_of}
use Rattle.block_keys.specs.Keys.{key_ulid}
use Rattle.block_keys.specs.KeyText.{key_text, name_of, six_digits}
use Rattle.block_keys.specs.declared.key.Key.{Key}
use Rattle.block_keys.specs.declared.key.Key.TheVariants.{Meta, Index, Segment, Mark}
use Rattle.block_keys.proofs.NameText.{six_digits-is}
use Rattle.wire_bytes.specs.Crc.{crc}
use Rattle.world_core.specs.declared.op.Op.TheVariants.{Put, Get, GetRange, Delete, RootPage, BlockPage}
use Rattle.world_core.specs.declared.reply.Reply.TheVariants.{Names}
use Rattle.world_core.specs.declared.entry.Entry.{Entry}
use Rattle.journal_records.specs.Limits.{most_bytes}
use Rattle.journal_records.specs.RecordWritten.{counted, op_text, reply_text, entry_text, body_text, record_text}

key_parts : (key : Key) → length (key_text key) ≡ 27 + length (name_of key)
unfolding key_text
key_parts key =
    omega (arith, length-append (text_of (key_ulid key) ++ codes "/") (name_of key), length-append (text_of (key_ulid key)) (codes "/"), length-text_of (key_ulid key))

pub meta_size : (ulid : ℕ) → 36 ≡ length (key_text (Meta ulid))
unfolding name_of
meta_size ulid = sym (key_parts (Meta ulid))

pub index_size : (ulid : ℕ) → 32 ≡ length (key_text (Index ulid))
unfolding name_of
index_size ulid = sym (key_parts (Index ulid))

pub mark_size : (ulid : ℕ) → 45 ≡ length (key_text (Mark ulid))
unfolding name_of
mark_size ulid = sym (key_parts (Mark ulid))

pub segment_size : (ulid number : ℕ) → 40 ≡ length (key_text (Segment ulid number))
unfolding name_of
segment_size ulid number =
    omega (arith, key_parts (Segment ulid number), length-append (codes "chunks/") (six_digits number), ap length (six_digits-is number))

pub ruleset key_sizes = (meta_size, index_size, mark_size, segment_size)

-- ---- operations

pub put_size : (key : Key) (blob : List ℕ) → length (op_text (Put key blob)) ≡ length (counted blob) + (5 + length (key_text key))
put_size key blob = omega (arith, length-append (counted (key_text key)) (counted blob))

pub get_size : (key : Key) → length (op_text (Get key)) ≡ 5 + length (key_text key)
get_size key = omega arith

pub delete_size : (key : Key) → length (op_text (Delete key)) ≡ 5 + length (key_text key)
delete_size key = omega arith

pub range_size : (key : Key) (from len : ℕ) → length (op_text (GetRange key from len)) ≡ 21 + length (key_text key)
range_size key from len = omega (arith, length-append (counted (key_text key)) (to_be_bytes w64 from ++ to_be_bytes w64 len))

pub root_page_size : (after : List ℕ) (limit : ℕ) → length (op_text (RootPage after limit)) ≡ length (counted after) + 5
root_page_size after limit = omega (arith, length-append (counted after) (to_be_bytes w32 limit))

pub block_page_size : (ulid : ℕ) (after : List ℕ) (limit : ℕ) → length (op_text (BlockPage ulid after limit)) ≡ length (counted after) + 21
block_page_size ulid after limit = omega (arith, length-append (counted after) (to_be_bytes w32 limit))

pub ruleset op_sizes = (put_size, get_size, delete_size, range_size, root_page_size, block_page_size)

-- ---- replies and entries

pub names_parts : (names : List (List ℕ)) → length (reply_text (Names names)) ≡ sum_by (λ name. length (counted name)) names + 5
names_parts names = omega (arith, length-flat_map counted names)

pub entry_parts : (e : Entry) → length (entry_text e) ≡ length (op_text e.op) + length (reply_text e.reply) + 12
unfolding entry_text
entry_parts e = omega (arith, length-append (op_text e.op) (reply_text e.reply))

-- ---- the record

pub record_parts : (script : List ℕ) (entries : List Entry) → length (record_text script entries) ≡ sum_by (λ e. length (entry_text e)) entries + length script + 24
unfolding record_text body_text
record_parts script entries =
    omega (arith, length-append (body_text script entries) (to_be_bytes w32 (crc (body_text script entries))), length-append script (to_be_bytes w64 (length entries) ++ flat_map entry_text entries), length-flat_map entry_text entries)

-- ---- the bound

pub within : (n size : ℕ) → size ≡ min n (2 ^ 64 - 1) → size ≤ most_bytes → n ≤ most_bytes
within n size is small = omega (arith, is, small)

pub beyond : (n size : ℕ) → size ≡ min n (2 ^ 64 - 1) → most_bytes < size → most_bytes < n
beyond n size is large = omega (arith, is, large)

pub ruleset bounds = (within, beyond)
