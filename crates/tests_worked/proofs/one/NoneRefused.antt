-- The block of the script of one block is not refused, as it is shipped.
use Rattle.std.proofs.Common.{◌≡◌, ◌==◌, Bool, true, false, cond, Some, None}
use Rattle.script_core.specs.declared.block.Block.{Block}
use Rattle.lifecycle_core.proofs.blocks.OneShipped.{not_refused}
use Rattle.call_verdicts.specs.Shippable.{RefusesNone}
use Rattle.tests_worked.specs.OneBlock as one
use Rattle.tests_worked.specs.SmallBlock as small
use Rattle.tests_worked.proofs.one.OneShipped.{is_shipped}

only_block : (found : Bool) (block : Block) → cond found (Some small.block) None ≡ Some block → small.block ≡ block
only_block true block is = cc (is)
only_block false block is = absurd (cc (is))

pub refuses_none : RefusesNone one.setting
refuses_none ulid block cause declares refused =
    not_refused one.setting block block.body (small.objects_with small.a small.meta) cause (is_shipped block (only_block (small.a == ulid) block declares)) refused
