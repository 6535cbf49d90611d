use Rattle.tests_worked.proofs.ShelfBlock as row
use Rattle.tests_worked.proofs.shelf_block.shelf_block_is_refused.Goals as goal

pub returns : goal.returns
returns c = record { run = row.bare_run; finished = row.bare_finished; well = row.bare_well }
