use Rattle.line_running.proofs.tasks.gathered_outcome.Goals as goal

pub returns-in-Ok-clause-whole : goal.returns-in-Ok-clause-whole
returns-in-Ok-clause-whole c = λ work all. c.in-Ok.ensures.whole work all c.requires.few
