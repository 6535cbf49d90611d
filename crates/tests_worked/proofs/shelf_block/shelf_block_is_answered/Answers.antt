use Rattle.tests_worked.proofs.ShelfBlock.{exact}
use Rattle.tests_worked.proofs.shelf_block.shelf_block_is_answered.Goals as goal

pub returns : goal.returns
returns c = exact
