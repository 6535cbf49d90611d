-- The bytes that are written for a record.
use Rattle.std.specs.Prelude.{ℕ, ◌^◌, ◌<◌, Bool, true, false, List, [], ◌∷◌, ◌++◌, length}
use Rattle.std.specs.Int.{w32, w64, w128, to_be_bytes}
use Rattle.std.specs.List.{AllByRecursion, flat_map}
use Rattle.std.specs.Str.{IsUtf8}
use Rattle.wire_bytes.specs.Crc.{crc}
use Rattle.block_keys.specs.KeyText.{IsKeyText, key_text}
use Rattle.world_core.specs.declared.op.Op.{Op}
use Rattle.world_core.specs.declared.op.Op.TheVariants.{Clock, Put, Get, GetRange, Delete, RootPage, BlockPage}
use Rattle.world_core.specs.declared.reply.Reply.{Reply}
use Rattle.world_core.specs.declared.reply.Reply.TheVariants.{Clocked, Stored, Found, Absent, Deleted, Names, Failed}
use Rattle.world_core.specs.declared.entry.Entry.{Entry}
use Rattle.journal_records.specs.Limits.{magic}

-- bytes behind their length
abbrev pub counted : List ℕ → List ℕ
counted bytes = to_be_bytes w32 (length bytes) ++ bytes

abbrev pub flag : Bool → ℕ
flag true = 1
flag false = 0

abbrev pub op_text : Op → List ℕ
op_text (Clock moment) = 1 ∷ to_be_bytes w64 moment.ms
op_text (Put key blob) = 2 ∷ counted (key_text key) ++ counted blob
op_text (Get key) = 3 ∷ counted (key_text key)
op_text (GetRange key from len) = 4 ∷ counted (key_text key) ++ (to_be_bytes w64 from ++ to_be_bytes w64 len)
op_text (Delete key) = 5 ∷ counted (key_text key)
op_text (RootPage after limit) = 6 ∷ counted after ++ to_be_bytes w32 limit
op_text (BlockPage ulid after limit) = 7 ∷ to_be_bytes w128 ulid ++ (counted after ++ to_be_bytes w32 limit)

abbrev pub reply_text : Reply → List ℕ
reply_text Clocked = 1 ∷ []
reply_text Stored = 2 ∷ []
reply_text (Found blob) = 3 ∷ counted blob
reply_text Absent = 4 ∷ []
reply_text Deleted = 5 ∷ []
reply_text (Names names) = 6 ∷ to_be_bytes w32 (length names) ++ flat_map counted names
reply_text (Failed landed) = 7 ∷ flag landed ∷ []

unfoldable pub entry_text : Entry → List ℕ
entry_text e = to_be_bytes w32 e.seat ++ (to_be_bytes w64 e.moment.ms ++ (op_text e.op ++ reply_text e.reply))

unfoldable pub body_text : List ℕ → List Entry → List ℕ
body_text script entries = to_be_bytes w64 magic ++ (counted script ++ (to_be_bytes w64 (length entries) ++ flat_map entry_text entries))

-- the one text of a record
unfoldable pub record_text : List ℕ → List Entry → List ℕ
record_text script entries = body_text script entries ++ to_be_bytes w32 (crc (body_text script entries))

-- ---- what the types of an entry's fields say

abbrev pub IsTypedOp : Op → Type 0
IsTypedOp (Clock moment) = moment.ms < 2 ^ 64
IsTypedOp (Put key blob) = IsKeyText (key_text key) key
IsTypedOp (Get key) = IsKeyText (key_text key) key
IsTypedOp (GetRange key from len) = IsKeyText (key_text key) key × (from < 2 ^ 64) × (len < 2 ^ 64)
IsTypedOp (Delete key) = IsKeyText (key_text key) key
IsTypedOp (RootPage after limit) = IsUtf8 after × (limit < 2 ^ 32)
IsTypedOp (BlockPage ulid after limit) = (ulid < 2 ^ 128) × IsUtf8 after × (limit < 2 ^ 32)

abbrev pub IsTypedReply : Reply → Type 0
IsTypedReply (Names names) = AllByRecursion IsUtf8 names
IsTypedReply Clocked = Unit {0}
IsTypedReply Stored = Unit {0}
IsTypedReply (Found blob) = Unit {0}
IsTypedReply Absent = Unit {0}
IsTypedReply Deleted = Unit {0}
IsTypedReply (Failed landed) = Unit {0}

pub record IsTyped (e : Entry) : Type 0 where
  pub seat : e.seat < 2 ^ 32
  pub moment : e.moment.ms < 2 ^ 64
  pub op : IsTypedOp e.op
  pub reply : IsTypedReply e.reply
