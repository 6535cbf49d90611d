use Rattle.cleaner.proofs.Steps.{opens}
use Rattle.cleaner.proofs.clean.CleanMachine.first.Goals as goal

pub returns : goal.returns
returns c = opens c.args.self.now c.ask_blocks.new.self c.ask_blocks.result c.requires c.ask_blocks.ensures.leads
