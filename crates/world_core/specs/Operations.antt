-- Which operations are lawful, and which replies an operation may have.
use Rattle.std.specs.Prelude.{ℕ, ◌<◌, ◌≤◌, Bool, true, false}
use Rattle.std.specs.List.{AllByRecursion}
use Rattle.std.specs.Str.{IsUtf8}
use Rattle.ulid_core.specs.Limits.{ulid_time_limit}
use Rattle.base.specs.Grammar.{IsBytes}
use Rattle.block_keys.specs.Keys.{IsLawfulKey}
use Rattle.moment_core.specs.Limits.{moment_limit}
use Rattle.world_core.specs.declared.op.Op.{Op}
use Rattle.world_core.specs.declared.op.Op.TheVariants.{Clock, Put, Get, GetRange, Delete, RootPage, BlockPage}
use Rattle.world_core.specs.declared.reply.Reply.{Reply}
use Rattle.world_core.specs.declared.reply.Reply.TheVariants.{Clocked, Stored, Found, Absent, Deleted, Names, Failed}
use Rattle.world_core.specs.declared.seen.Seen.{Seen}
use Rattle.world_core.specs.declared.entry.Entry.{Entry}

-- a clock is set below the limit of moments, a key can be written, and a page has room for a name
abbrev pub IsLawful : Op → Type 0
IsLawful (Clock moment) = moment.ms < moment_limit
IsLawful (Put key bytes) = IsLawfulKey key
IsLawful (Get key) = IsLawfulKey key
IsLawful (GetRange key from len) = IsLawfulKey key
IsLawful (Delete key) = IsLawfulKey key
IsLawful (RootPage after limit) = 1 ≤ limit
IsLawful (BlockPage ulid after limit) = 1 ≤ limit

-- the reply is of the operation's kind
abbrev pub IsReplyTo : Op → Reply → Type 0
IsReplyTo (Clock moment) Clocked = Unit {0}
IsReplyTo (Put key bytes) Stored = Unit {0}
IsReplyTo (Put key bytes) (Failed landed) = Unit {0}
IsReplyTo (Get key) (Found bytes) = Unit {0}
IsReplyTo (Get key) Absent = Unit {0}
IsReplyTo (Get key) (Failed false) = Unit {0}
IsReplyTo (GetRange key from len) (Found bytes) = Unit {0}
IsReplyTo (GetRange key from len) Absent = Unit {0}
IsReplyTo (GetRange key from len) (Failed false) = Unit {0}
IsReplyTo (Delete key) Deleted = Unit {0}
IsReplyTo (Delete key) (Failed landed) = Unit {0}
IsReplyTo (RootPage after limit) (Names names) = Unit {0}
IsReplyTo (RootPage after limit) (Failed false) = Unit {0}
IsReplyTo (BlockPage ulid after limit) (Names names) = Unit {0}
IsReplyTo (BlockPage ulid after limit) (Failed false) = Unit {0}
-- no other reply comes
IsReplyTo op reply = ⊥

-- what an operation puts is bytes
abbrev pub PutsBytes : Op → Type 0
PutsBytes (Clock moment) = Unit {0}
PutsBytes (Put key bytes) = IsBytes bytes
PutsBytes (Get key) = Unit {0}
PutsBytes (GetRange key from len) = Unit {0}
PutsBytes (Delete key) = Unit {0}
PutsBytes (RootPage after limit) = Unit {0}
PutsBytes (BlockPage ulid after limit) = Unit {0}

-- what a reply shows is bytes, and names in UTF-8
abbrev pub ShowsBytes : Reply → Type 0
ShowsBytes Clocked = Unit {0}
ShowsBytes Stored = Unit {0}
ShowsBytes (Found bytes) = IsBytes bytes
ShowsBytes Absent = Unit {0}
ShowsBytes Deleted = Unit {0}
ShowsBytes (Names names) = AllByRecursion IsUtf8 names
ShowsBytes (Failed landed) = Unit {0}

-- what a machine may rely on when its operation was done: the reply's kind, and a moment that fits a ULID
pub record IsAnswer (op : Op) (seen : Seen) : Type 0 where
  pub kind : IsReplyTo op seen.reply
  pub moment : seen.moment.ms < ulid_time_limit

-- the entry of an operation that was answered so
abbrev pub entry_of : ℕ → Op → Seen → Entry
entry_of seat op seen = record { seq = seen.seq; seat = seat; moment = seen.moment; op = op; reply = seen.reply }

-- whether a call of the bucket failed
abbrev pub has_failed : Reply → Bool
has_failed (Failed landed) = true
has_failed reply = false
