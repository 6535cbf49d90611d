use Rattle.std.proofs.Common.{arith}
use Rattle.vertical_merge.proofs.FirstsJoined.{none_first}
use Rattle.vertical_merge.proofs.sample_merge.first_of_last.Goals as goal

pub returns : goal.returns
returns c = none_first _ c.args.parts.items (omega (arith, c.in-None.ensures.cases.0, c.args.parts.ok)) c.new.ensures
