use Rattle.std.proofs.Common.{◌∙◌}
use Rattle.block_merging.proofs.QueueSteps.{opened_index}
use Rattle.block_merging.proofs.queues.reader_and_numbers.Goals as goal

pub returns : goal.returns
returns c = λ bytes list is same. opened_index bytes list is c.in_ok-reader.reader c.in_ok-numbers.numbers (λ opened at begins. c.in_ok-reader.ensures opened (at ∙ same) begins) c.in_ok-numbers.ensures.rises c.in_ok-numbers.ensures.agrees

pub open_again-requires : goal.open_again-requires
open_again-requires c = let is = c.requires.1 in (is.opened, is.bytes_are, is.is_opened)

pub all_numbers-requires : goal.all_numbers-requires
all_numbers-requires c = let is = c.requires.1 in (c.args.index.now, c.requires.0, is, c.in_ok-reader.ensures is.opened is.bytes_are is.is_opened)
