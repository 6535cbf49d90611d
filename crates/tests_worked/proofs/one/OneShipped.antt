-- The block of the script of one block is shipped.
use Rattle.std.proofs.Common.{◌≡◌, subst}
use Rattle.script_core.specs.declared.block.Block.{Block}
use Rattle.lifecycle_core.specs.Shipped.{IsShipped}
use Rattle.tests_worked.specs.OneBlock as one
use Rattle.tests_worked.specs.SmallBlock as small
use Rattle.tests_worked.proofs.small.BuiltBlock.{shipped_objects}
use Rattle.tests_worked.proofs.small.SmallMeta.{meta_is}

pub is_shipped : (block : Block) → small.block ≡ block → IsShipped one.setting block (small.objects_with small.a small.meta)
is_shipped block is = subst (λ (b : Block). IsShipped one.setting b (small.objects_with small.a small.meta)) is (shipped_objects one.setting small.a small.meta meta_is)
