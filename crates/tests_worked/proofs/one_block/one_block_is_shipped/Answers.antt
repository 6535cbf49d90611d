use Rattle.std.proofs.Common.{refl}
use Rattle.tests_worked.specs.SmallBlock.{block}
use Rattle.tests_worked.proofs.one.NoneRefused.{refuses_none}
use Rattle.tests_worked.proofs.one.OneShipped.{is_shipped}
use Rattle.tests_worked.proofs.one_block.one_block_is_shipped.Goals as goal

pub returns : goal.returns
returns c = record { shipped = is_shipped block refl; none_refused = refuses_none }
