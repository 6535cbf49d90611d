-- Which journals a record can be made of.
use Rattle.std.specs.Prelude.{List}
use Rattle.block_keys.specs.Keys.{IsLawfulKey}
use Rattle.world_core.specs.Journals.{Each, IsNumbered}
use Rattle.world_core.specs.Operations.{IsReplyTo}
use Rattle.world_core.specs.declared.op.Op.{Op}
use Rattle.world_core.specs.declared.op.Op.TheVariants.{Clock, Put, Get, GetRange, Delete, RootPage, BlockPage}
use Rattle.world_core.specs.declared.entry.Entry.{Entry}

-- the operation's key has a text
abbrev pub HasLawfulKey : Op → Type 0
HasLawfulKey (Put key blob) = IsLawfulKey key
HasLawfulKey (Get key) = IsLawfulKey key
HasLawfulKey (GetRange key from len) = IsLawfulKey key
HasLawfulKey (Delete key) = IsLawfulKey key
HasLawfulKey (Clock moment) = Unit {0}
HasLawfulKey (RootPage after limit) = Unit {0}
HasLawfulKey (BlockPage ulid after limit) = Unit {0}

-- entries are numbered from 1, keys have texts, and each reply is one that its operation may have
pub record IsWritable (journal : List Entry) : Type 0 where
  pub numbered : IsNumbered journal
  pub keys : Each (λ before e. HasLawfulKey e.op) journal
  pub kinds : Each (λ before e. IsReplyTo e.op e.reply) journal
