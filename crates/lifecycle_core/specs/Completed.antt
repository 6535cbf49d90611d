-- Which uploads a journal shows to be complete, and which of them a sync has to see.
use Rattle.std.specs.Prelude.{◌≡◌, ◌<◌, ◌≤◌, ◌+◌, ◌+ℤ◌, ◌<ℤ◌, ◌≤ℤ◌, ℕ, pos, List, ◌∷◌, ◌++◌, All, IsTrue, IsSome, Option, Some, None}
use Rattle.block_keys.specs.declared.key.Key.TheVariants.{Meta}
use Rattle.block_meta.specs.MetaFields.{MetaFields}
use Rattle.block_meta.specs.MetaText.{IsMetaText}
use Rattle.moment_core.specs.declared.moment.Moment.{Moment}
use Rattle.moment_core.specs.declared.partition.Partition.{Partition}
use Rattle.moment_core.specs.declared.span.Span.{Span}
use Rattle.meta_fetcher.specs.declared.rules.SyncRules.{SyncRules}
use Rattle.world_core.specs.Standing.{has_landed}
use Rattle.world_core.specs.declared.op.Op.TheVariants.{Put}
use Rattle.world_core.specs.declared.entry.Entry.{Entry}
use Rattle.ulid_core.specs.Times.{time_of}
use Rattle.lifecycle_core.specs.Setting.{Setting}
use Rattle.lifecycle_core.specs.Held.{declared}
use Rattle.lifecycle_core.specs.Holdings.{Use}

-- the entry puts the meta of the block, and the put has landed
abbrev pub PutsMeta : ℕ → Entry → Type 0
PutsMeta ulid e = (bytes : List ℕ) × (e.op ≡ Put (Meta ulid) bytes) × IsTrue (has_landed e.reply)

-- The block was complete from the entry of this number on, with this meta: the block's meta, which is put last, landed there for
-- the first time.
pub record IsCompletedAt (journal : List Entry) (ulid seq : ℕ) (meta : MetaFields) : Type 0 where
  pub before : List Entry
  pub entry : Entry
  pub after : List Entry
  pub is : journal ≡ before ++ entry ∷ after
  pub number : entry.seq ≡ seq
  pub bytes : List ℕ
  pub puts : entry.op ≡ Put (Meta ulid) bytes
  pub landed : IsTrue (has_landed entry.reply)
  pub text : IsMetaText bytes meta
  pub first : All (λ e. ¬ PutsMeta ulid e) before

-- a block that the script declares, complete before the entry of this number
pub record IsUploadedBefore (setting : Setting) (journal : List Entry) (ulid last : ℕ) : Type 0 where
  pub is_declared : IsSome (declared setting.script ulid)
  pub seq : ℕ
  pub meta : MetaFields
  pub completed : IsCompletedAt journal ulid seq meta
  pub earlier : seq < last

-- Some of the times that a meta tells lie in the partition: both of its ends count, and so does the meta's end.
pub record Passes (partition : Partition) (meta : MetaFields) : Type 0 where
  pub from : partition.low ≤ℤ meta.max_time
  pub upto : meta.min_time ≤ℤ partition.high

-- A retention is set, no sample of the block was dropped, and the moment is more than the retention after the block's end.
abbrev pub IsExpired : Option Span → MetaFields → Moment → Type 0
IsExpired None meta moment = ⊥
IsExpired (Some retention) meta moment =
    (meta.resolution ≡ pos 0) × ((meta.max_time +ℤ pos retention.ms) <ℤ pos moment.ms)

-- By the rules of a view's sync: the block was complete before the sync began, its consistency delay was over by then, it had not
-- expired, and it passes the sync's partition.
pub record IsSettled (setting : Setting) (journal : List Entry) (rules : SyncRules) (used : Use) (ulid : ℕ) : Type 0 where
  pub uploaded : IsUploadedBefore setting journal ulid used.view.first
  pub old : time_of ulid + rules.consistency.ms ≤ used.view.begin.ms
  pub fresh : ¬ IsExpired setting.script.rules.retention uploaded.meta used.view.begin
  pub passes : Passes rules.partition uploaded.meta
