-- What reading a record gives, or the first refusal from left to right.
use Rattle.std.specs.Prelude.{◌==◌, ◌||◌, ◌&&◌, nat_le, ℕ, ◌+◌, Bool, true, false, List, length, take, Result, Ok, Err, if◌then◌else◌}
use Rattle.base.specs.Reading.{◌>>=◌, ◌>>◌, unless}
use Rattle.base.specs.Members.{members_at}
use Rattle.wire_bytes.specs.Position.{Position, start}
use Rattle.wire_bytes.specs.Crc.{crc}
use Rattle.world_core.specs.declared.op.Op.{Op}
use Rattle.world_core.specs.declared.op.Op.TheVariants.{Clock, Put, Get, GetRange, Delete, RootPage, BlockPage}
use Rattle.world_core.specs.declared.reply.Reply.{Reply}
use Rattle.world_core.specs.declared.reply.Reply.TheVariants.{Clocked, Stored, Found, Absent, Deleted, Names, Failed}
use Rattle.world_core.specs.declared.entry.Entry.{Entry}
use Rattle.journal_records.specs.declared.cause.RecordCause.{RecordCause}
use Rattle.journal_records.specs.declared.cause.RecordCause.TheVariants.{TooLong, BadMagic, BadKind, Trailing, BadSum}
use Rattle.journal_records.specs.declared.run_record.Record.{Record}
use Rattle.journal_records.specs.FieldReading.{At, byte_at, small_at, large_at, ulid_at, blob_at, key_at, text_at, names_at}
use Rattle.journal_records.specs.Limits.{magic, most_bytes}

-- ---- operations

unfoldable pub clock_at : Position → At Op
clock_at p = do
  moment ← large_at p
  Ok (Clock (record { ms = moment.0 }), moment.1)

unfoldable pub put_at : Position → At Op
put_at p = do
  key ← key_at p
  blob ← blob_at key.1
  Ok (Put key.0 blob.0, blob.1)

unfoldable pub get_at : Position → At Op
get_at p = do
  key ← key_at p
  Ok (Get key.0, key.1)

unfoldable pub range_at : Position → At Op
range_at p = do
  key ← key_at p
  from ← large_at key.1
  len ← large_at from.1
  Ok (GetRange key.0 from.0 len.0, len.1)

unfoldable pub delete_at : Position → At Op
delete_at p = do
  key ← key_at p
  Ok (Delete key.0, key.1)

unfoldable pub root_page_at : Position → At Op
root_page_at p = do
  after ← text_at p
  limit ← small_at after.1
  Ok (RootPage after.0 limit.0, limit.1)

unfoldable pub block_page_at : Position → At Op
block_page_at p = do
  ulid ← ulid_at p
  after ← text_at ulid.1
  limit ← small_at after.1
  Ok (BlockPage ulid.0 after.0 limit.0, limit.1)

-- the operation of a kind, whose byte stands at a place
abbrev pub op_by : ℕ → ℕ → Position → At Op
op_by place kind p =
    if kind == 1 then clock_at p
    else if kind == 2 then put_at p
    else if kind == 3 then get_at p
    else if kind == 4 then range_at p
    else if kind == 5 then delete_at p
    else if kind == 6 then root_page_at p
    else if kind == 7 then block_page_at p
    else Err (BadKind place)

unfoldable pub op_at : Position → At Op
op_at p = do
  kind ← byte_at p
  op_by p.place kind.0 kind.1

-- ---- replies

-- the kinds of replies that an operation may have
abbrev pub may_have : Op → ℕ → Bool
may_have (Clock moment) kind = kind == 1
may_have (Put key blob) kind = (kind == 2) || (kind == 7)
may_have (Get key) kind = (kind == 3) || (kind == 4) || (kind == 7)
may_have (GetRange key from len) kind = (kind == 3) || (kind == 4) || (kind == 7)
may_have (Delete key) kind = (kind == 5) || (kind == 7)
may_have (RootPage after limit) kind = (kind == 6) || (kind == 7)
may_have (BlockPage ulid after limit) kind = (kind == 6) || (kind == 7)

-- what fails and takes effect all the same can only be a put or a delete
abbrev pub may_land : Op → Bool
may_land (Put key blob) = true
may_land (Delete key) = true
may_land op = false

unfoldable pub found_at : Position → At Reply
found_at p = do
  blob ← blob_at p
  Ok (Found blob.0, blob.1)

unfoldable pub listed_at : Position → At Reply
listed_at p = do
  names ← names_at p
  Ok (Names names.0, names.1)

unfoldable pub failed_at : Bool → Position → At Reply
failed_at lands p = do
  flag ← byte_at p
  unless ((flag.0 == 0) || ((flag.0 == 1) && lands)) (BadKind p.place)
  Ok (Failed (flag.0 == 1), flag.1)

-- the reply of a kind that the operation may have
abbrev pub reply_by : Bool → ℕ → Position → At Reply
reply_by lands kind p =
    if kind == 1 then Ok (Clocked, p)
    else if kind == 2 then Ok (Stored, p)
    else if kind == 3 then found_at p
    else if kind == 4 then Ok (Absent, p)
    else if kind == 5 then Ok (Deleted, p)
    else if kind == 6 then listed_at p
    else failed_at lands p

unfoldable pub reply_at : Op → Position → At Reply
reply_at op p = do
  kind ← byte_at p
  unless (may_have op kind.0) (BadKind p.place)
  reply_by (may_land op) kind.0 kind.1

-- ---- entries

-- the entry at a position, whose number is given
unfoldable pub entry_at : ℕ → Position → At Entry
entry_at seq p = do
  seat ← small_at p
  moment ← large_at seat.1
  op ← op_at moment.1
  reply ← reply_at op.0 op.1
  Ok (record { seq = seq; seat = seat.0; moment = record { ms = moment.0 }; op = op.0; reply = reply.0 }, reply.1)

-- the same with the number that is due, and the next number behind it
unfoldable pub turn_at : Position × ℕ → Result (Entry × (Position × ℕ)) RecordCause
turn_at s = do
  entry ← entry_at s.1 s.0
  Ok (entry.0, (entry.1, s.1 + 1))

-- so many entries, which are numbered from 1
unfoldable pub entries_at : ℕ → Position → At (List Entry)
entries_at count p = do
  entries ← members_at turn_at count (p, 1)
  Ok (entries.0, entries.1.0)

-- ---- the record

unfoldable pub begin_at : Position → At (List ℕ)
begin_at p = do
  first ← large_at p
  unless (first.0 == magic) BadMagic
  blob_at first.1

-- the script and the entries
unfoldable pub body_at : Position → At Record
body_at p = do
  script ← begin_at p
  count ← large_at script.1
  entries ← entries_at count.0 count.1
  Ok (record { script = script.0; journal = entries.0 }, entries.1)

-- the sum, behind which nothing stands
unfoldable pub test_sum : Position → Result (Unit {0}) RecordCause
test_sum p = do
  kept ← small_at p
  unless (nat_le (length kept.1.bytes) kept.1.place) (Trailing kept.1.place)
  unless (kept.0 == crc (take p.place p.bytes)) (BadSum kept.0 (crc (take p.place p.bytes)))

unfoldable pub record_of : List ℕ → Result Record RecordCause
record_of bytes = do
  unless (nat_le (length bytes) most_bytes) TooLong
  body ← body_at (start bytes)
  test_sum body.1
  Ok body.0
