-- When a cleaning decides that a block is deleted, and what it may ask for, by its entries before.
use Rattle.std.specs.Prelude.{◌≡◌, ◌⊎◌, ℕ, ◌<◌, ◌^◌, true, List, ◌∷◌, ◌++◌, Contains, Some}
use Rattle.block_keys.specs.Keys.{key_ulid}
use Rattle.block_keys.specs.declared.key.Key.{Key}
use Rattle.block_keys.specs.declared.key.Key.TheVariants as key
use Rattle.block_meta.specs.MetaFields.{MarkFields}
use Rattle.block_meta.specs.OfBlocks.{block_mark}
use Rattle.moment_core.specs.declared.rules.Rules.{Rules}
use Rattle.world_core.specs.declared.op.Op.{Op}
use Rattle.world_core.specs.declared.op.Op.TheVariants as op
use Rattle.world_core.specs.declared.reply.Reply.TheVariants as reply
use Rattle.world_core.specs.declared.entry.Entry.{Entry}
use Rattle.cleaner.specs.Marks.{is_old_block, is_old_mark}

-- the entry read the block's mark, and found one that is old enough
pub record IsOldMarkRead (rules : Rules) (ulid : ℕ) (e : Entry) : Type 0 where
  pub bytes : List ℕ
  pub mark : MarkFields
  pub asks : e.op ≡ op.Get (key.Mark ulid)
  pub found : e.reply ≡ reply.Found bytes
  pub reads : block_mark ulid bytes ≡ Some mark
  pub old : is_old_mark mark e.moment rules.delete ≡ true

-- the entry read the block's meta, and found none, where the block is old enough
pub record IsOldPartialRead (rules : Rules) (ulid : ℕ) (e : Entry) : Type 0 where
  pub asks : e.op ≡ op.Get (key.Meta ulid)
  pub absent : e.reply ≡ reply.Absent
  pub old : is_old_block ulid e.moment rules.partial ≡ true

-- for one of these two a cleaning deletes the block
abbrev pub IsDecision : Rules → ℕ → Entry → Type 0
IsDecision rules ulid e = IsOldMarkRead rules ulid e ⊎ IsOldPartialRead rules ulid e

-- Behind these entries a cleaning deletes the object: it has decided to delete the block; and unless the object is the block's meta,
-- the meta was deleted.
pub record IsDeleting (rules : Rules) (own : List Entry) (k : Key) : Type 0 where
  pub front : List Entry
  pub decision : Entry
  pub later : List Entry
  pub parts : own ≡ front ++ decision ∷ later
  pub small : key_ulid k < 2 ^ 128
  pub decides : IsDecision rules (key_ulid k) decision
  pub meta_first : (k ≡ key.Meta (key_ulid k)) ⊎ ((d : Entry) × Contains later d × (d.op ≡ op.Delete (key.Meta (key_ulid k))) × (d.reply ≡ reply.Deleted))

-- What a cleaning may ask for behind these entries.
abbrev pub IsCleanOp : Rules → List Entry → Op → Type 0
IsCleanOp rules own (op.Clock moment) = ⊥
IsCleanOp rules own (op.Put k bytes) = ⊥
IsCleanOp rules own (op.Get k) = Unit {0}
IsCleanOp rules own (op.GetRange k from len) = ⊥
IsCleanOp rules own (op.Delete k) = IsDeleting rules own k
IsCleanOp rules own (op.RootPage after limit) = Unit {0}
IsCleanOp rules own (op.BlockPage ulid after limit) = Unit {0}
