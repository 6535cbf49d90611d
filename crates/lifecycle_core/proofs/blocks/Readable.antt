-- The blocks of a lawful script are whole where they are shipped.
use Rattle.std.proofs.Common.{◌≡◌, List, refl}
use Rattle.block_keys.specs.declared.object.Object.{Object}
use Rattle.script_core.specs.Lawful.{IsLawfulBlock, IsLawfulScript}
use Rattle.script_core.specs.declared.block.Block.{Block}
use Rattle.script_core.specs.declared.body.Body.{Body}
use Rattle.script_core.specs.declared.body.Body.TheVariants.{Inline, OnShelf}
use Rattle.lifecycle_core.specs.Setting.{Setting}
use Rattle.lifecycle_core.specs.Shipped.{AreBuilt}
use Rattle.lifecycle_core.proofs.blocks.Declared.{blocks_are_small, declared_lawful}
use Rattle.lifecycle_core.proofs.blocks.InlineBlocks.{whole_inline}
use Rattle.lifecycle_core.proofs.blocks.OneShipped.{one_shipped}
use Rattle.lifecycle_core.proofs.blocks.ShelfBlocks.{whole_shelf}
use Rattle.lifecycle_core.proofs.blocks.Whole.{IsWholeBlock}
use Rattle.lifecycle_core.proofs.journals.Told.{IsReadable}

whole_block : (setting : Setting) (block : Block) (body : Body) (objects : List Object) → IsLawfulBlock block → block.body ≡ body → AreBuilt setting block body objects → IsWholeBlock setting block objects
whole_block setting block (Inline low high series) objects own body is =
    whole_inline setting block low high series objects body own.ulid own.labels.set own.labels.named own.labels.texts is
whole_block setting block OnShelf objects own body is = whole_shelf setting block objects is body own.ulid own.labels.set own.labels.named own.labels.texts

pub is_readable : (setting : Setting) → IsLawfulScript setting.script → IsReadable setting
is_readable setting lawful = record {
  small = λ ulid block is. blocks_are_small setting ulid block is lawful;
  whole = λ ulid block is objects shipped. whole_block setting block block.body objects (declared_lawful setting ulid block is lawful) refl shipped;
  once = λ ulid block is objects others shipped also. one_shipped setting block block.body objects others shipped also;
}
