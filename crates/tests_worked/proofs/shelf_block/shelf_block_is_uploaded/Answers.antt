use Rattle.tests_worked.proofs.ShelfBlock as row
use Rattle.tests_worked.proofs.shelf_block.shelf_block_is_uploaded.Goals as goal

pub returns : goal.returns
returns c = record { shipped = row.is_shipped; run = row.run; finished = row.finished }
