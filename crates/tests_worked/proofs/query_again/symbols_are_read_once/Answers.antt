use Rattle.tests_worked.proofs.AskedTwice.{not_lawful}
use Rattle.tests_worked.proofs.query_again.symbols_are_read_once.Goals as goal

pub returns : goal.returns
returns c = not_lawful
