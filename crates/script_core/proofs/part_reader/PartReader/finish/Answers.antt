use Rattle.script_core.proofs.FewMembers.{few_end}
use Rattle.script_core.proofs.PartLaws.{spelled_end, lawful_end, gives_end}
use Rattle.script_core.proofs.part_reader.PartReader.finish.Goals as goal

pub returns-clause-spelled : goal.returns-clause-spelled
returns-clause-spelled c = λ text has. spelled_end c.args.self c.finish.result c.finish.ensures text has

pub returns-clause-lawful : goal.returns-clause-lawful
returns-clause-lawful c = λ text has. lawful_end c.args.self c.finish.result c.finish.ensures text has

pub returns-clause-gives : goal.returns-clause-gives
returns-clause-gives c = λ text has. gives_end c.args.self c.finish.result c.finish.ensures text has

pub returns-clause-bounded : goal.returns-clause-bounded
returns-clause-bounded c = λ text has. few_end text c.finish.result (spelled_end c.args.self c.finish.result c.finish.ensures text has)
