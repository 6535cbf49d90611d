use Rattle.breach_finding.proofs.OneAnswer.{breach_is, no_breach, one_answer}
use Rattle.breach_finding.proofs.laws.answers_are_one.Goals as goal

pub returns-clause-one : goal.returns-clause-one
returns-clause-one c = one_answer

pub returns-clause-breach : goal.returns-clause-breach
returns-clause-breach c = breach_is

pub returns-clause-none : goal.returns-clause-none
returns-clause-none c = no_breach
