use Rattle.tests_worked.proofs.TwoGateways.{not_alone}
use Rattle.tests_worked.proofs.two_gateways.answer_of_one_gateway_is_refused.Goals as goal

pub returns : goal.returns
returns c = not_alone
