-- A run's record as bytes, apart from reading and writing. Each number has its highest byte first.
use Rattle.std.specs.Prelude.{◌≡◌, ℕ, Bool, true, false, List, ◌++◌, length}
use Rattle.std.specs.Int.{w8, w32, w64, w128}
use Rattle.std.specs.Str.{IsUtf8}
use Rattle.base.specs.Grammar.{AreTexts}
use Rattle.wire_bytes.specs.FieldTexts.{IsFixed}
use Rattle.wire_bytes.specs.Crc.{crc}
use Rattle.block_keys.specs.KeyText.{IsKeyText}
use Rattle.block_keys.specs.declared.key.Key.{Key}
use Rattle.world_core.specs.Journals.{IsNumbered}
use Rattle.world_core.specs.Operations.{IsReplyTo}
use Rattle.world_core.specs.declared.op.Op.{Op}
use Rattle.world_core.specs.declared.op.Op.TheVariants.{Clock, Put, Get, GetRange, Delete, RootPage, BlockPage}
use Rattle.world_core.specs.declared.reply.Reply.{Reply}
use Rattle.world_core.specs.declared.reply.Reply.TheVariants.{Clocked, Stored, Found, Absent, Deleted, Names, Failed}
use Rattle.world_core.specs.declared.entry.Entry.{Entry}
use Rattle.journal_records.specs.Limits.{magic}
use Rattle.journal_records.specs.declared.run_record.Record.{Record}

-- What bytes may be: those of a value.
abbrev pub Field : Type 1
Field = List ℕ → Type 0

infixr 20 ◌▸◌
-- one field, and right behind it another
abbrev pub ◌▸◌ : Field → Field → Field
First ▸ Second = λ bytes. (first : List ℕ) × (second : List ℕ) × First first × Second second × (bytes ≡ first ++ second)

-- ---- fields

abbrev pub IsByte : ℕ → Field
IsByte n bytes = IsFixed w8 bytes n

-- a number of four bytes
abbrev pub IsSmall : ℕ → Field
IsSmall n bytes = IsFixed w32 bytes n

-- a number of eight bytes
abbrev pub IsLarge : ℕ → Field
IsLarge n bytes = IsFixed w64 bytes n

-- a ULID is a number of sixteen bytes
abbrev pub IsUlid : ℕ → Field
IsUlid ulid bytes = IsFixed w128 bytes ulid

-- bytes behind their length
abbrev pub IsBlob : List ℕ → Field
IsBlob blob = IsSmall (length blob) ▸ (λ bytes. bytes ≡ blob)

-- a text in UTF-8 behind its length
abbrev pub IsText : List ℕ → Field
IsText text bytes = IsUtf8 text × IsBlob text bytes

-- a key's text behind its length
abbrev pub IsKey : Key → Field
IsKey key bytes = (text : List ℕ) × IsKeyText text key × IsBlob text bytes

-- texts one after another behind their count
abbrev pub AreNames : List (List ℕ) → Field
AreNames names = IsSmall (length names) ▸ (λ bytes. AreTexts (λ text name. IsText name text) bytes names)

abbrev pub IsFlag : Bool → Field
IsFlag true = IsByte 1
IsFlag false = IsByte 0

-- ---- entries

-- an operation is its kind, and what it is on
abbrev pub IsOp : Op → Field
IsOp (Clock moment) = IsByte 1 ▸ IsLarge moment.ms
IsOp (Put key blob) = IsByte 2 ▸ IsKey key ▸ IsBlob blob
IsOp (Get key) = IsByte 3 ▸ IsKey key
IsOp (GetRange key from len) = IsByte 4 ▸ IsKey key ▸ IsLarge from ▸ IsLarge len
IsOp (Delete key) = IsByte 5 ▸ IsKey key
IsOp (RootPage after limit) = IsByte 6 ▸ IsText after ▸ IsSmall limit
IsOp (BlockPage ulid after limit) = IsByte 7 ▸ IsUlid ulid ▸ IsText after ▸ IsSmall limit

-- a reply is its kind, and what it shows
abbrev pub IsReply : Reply → Field
IsReply Clocked = IsByte 1
IsReply Stored = IsByte 2
IsReply (Found blob) = IsByte 3 ▸ IsBlob blob
IsReply Absent = IsByte 4
IsReply Deleted = IsByte 5
IsReply (Names names) = IsByte 6 ▸ AreNames names
IsReply (Failed landed) = IsByte 7 ▸ IsFlag landed

-- An entry has a reply that its operation may have. Its number does not stand in it.
pub record IsEntry (bytes : List ℕ) (e : Entry) : Type 0 where
  pub fields : (IsSmall e.seat ▸ IsLarge e.moment.ms ▸ IsOp e.op ▸ IsReply e.reply) bytes
  pub kind : IsReplyTo e.op e.reply

-- ---- the record

-- all but the sum: how it begins, the script, and the entries behind their count
abbrev pub IsBody : Record → Field
IsBody r = IsLarge magic ▸ IsBlob r.script ▸ IsLarge (length r.journal) ▸ (λ bytes. AreTexts IsEntry bytes r.journal)

-- The bytes are the record: its body, and the body's sum. An entry's number is its place.
pub record IsRecord (bytes : List ℕ) (r : Record) : Type 0 where
  pub body : List ℕ
  pub sum : List ℕ
  pub is_body : IsBody r body
  pub is_sum : IsSmall (crc body) sum
  pub bytes_are : bytes ≡ body ++ sum
  pub numbered : IsNumbered r.journal
