-- The deletion marks of a journal, and why they were put.
use Rattle.std.specs.Prelude.{◌≡◌, ◌⊎◌, ◌+◌, ◌*◌, ◌<◌, ◌≤◌, ℕ, pos, List, All, Contains, IsTrue, length}
use Rattle.block_keys.specs.declared.key.Key.{Key}
use Rattle.block_keys.specs.declared.key.Key.TheVariants.{Mark}
use Rattle.block_meta.specs.MetaFields.{MetaFields}
use Rattle.world_core.specs.Standing.{has_landed}
use Rattle.world_core.specs.declared.op.Op.TheVariants.{Delete, Get, Put}
use Rattle.world_core.specs.declared.reply.Reply.TheVariants.{Absent}
use Rattle.world_core.specs.declared.entry.Entry.{Entry}
use Rattle.moment_core.specs.Limits.{one_second}
use Rattle.lifecycle_core.specs.Completed.{IsCompletedAt, IsExpired}
use Rattle.lifecycle_core.specs.Setting.{Setting}
use Rattle.lifecycle_core.specs.TimeRules.{PutsMark}

-- the entry puts a mark of the block, whatever its bytes, and the put has landed
abbrev pub PutsSomeMark : ℕ → Entry → Type 0
PutsSomeMark ulid e = (bytes : List ℕ) × (e.op ≡ Put (Mark ulid) bytes) × IsTrue (has_landed e.reply)

-- the entry deletes the object, and the delete has landed
abbrev pub LandsDelete : Key → Entry → Type 0
LandsDelete key e = (e.op ≡ Delete key) × IsTrue (has_landed e.reply)

-- The entry put the first mark of the block that landed, behind these entries, and it tells this second.
pub record IsFirstMark (ulid second : ℕ) (before : List Entry) (e : Entry) : Type 0 where
  pub marks : PutsMark ulid second e
  pub first : All (λ other. ¬ PutsSomeMark ulid other) before

-- One block holds all sources of the other, and no sample of either was dropped; and it has more sources, or as many and the smaller
-- ULID.
pub record IsBetter (one other : MetaFields) : Type 0 where
  pub whole : one.resolution ≡ pos 0
  pub also : other.resolution ≡ pos 0
  pub all : (source : ℕ) → Contains other.sources source → Contains one.sources source
  pub more : (length other.sources < length one.sources)
      ⊎ ((length other.sources ≡ length one.sources) × (one.ulid < other.ulid))

-- another block is better, and was complete before the entry of this number
pub record HasBetterBefore (journal : List Entry) (meta : MetaFields) (number : ℕ) : Type 0 where
  pub ulid : ℕ
  pub seq : ℕ
  pub better : MetaFields
  pub completed : IsCompletedAt journal ulid seq better
  pub earlier : seq < number
  pub is : IsBetter better meta

-- Why a mark of the block that tells this second was put at an entry: a look of the same seat before it that found no mark, in that
-- second; and by then the block, which was complete, had a better one, or had expired.
pub record IsMarkedFor (setting : Setting) (journal : List Entry) (ulid second : ℕ) (e : Entry) : Type 0 where
  pub look : Entry
  pub looked : Contains journal look
  pub same : look.seat ≡ e.seat
  pub before : look.seq < e.seq
  pub asks : look.op ≡ Get (Mark ulid)
  pub absent : look.reply ≡ Absent
  pub from : one_second * second ≤ look.moment.ms
  pub upto : look.moment.ms < one_second * second + one_second
  pub seq : ℕ
  pub meta : MetaFields
  pub completed : IsCompletedAt journal ulid seq meta
  pub earlier : seq < look.seq
  pub cause : HasBetterBefore journal meta look.seq ⊎ IsExpired setting.script.rules.retention meta look.moment
