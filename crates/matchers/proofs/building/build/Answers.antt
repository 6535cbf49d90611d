use Rattle.matchers.proofs.Built.{made_lawful, made_is, unbuilt_in}
use Rattle.matchers.proofs.building.build.Goals as goal

pub returns-in_err-push_matchers-clause-refused : goal.returns-in_err-push_matchers-clause-refused
returns-in_err-push_matchers-clause-refused c = unbuilt_in c.from_residual-in_err-push_matchers.result c.in_err-push_matchers.field-0.0 c.members.result.now c.args.draft.now.listed c.from_residual-in_err-push_matchers.ensures.1 c.in_err-push_matchers.ensures.refused c.members.ensures

pub returns-clause-value : goal.returns-clause-value
returns-clause-value c = made_is _ c.in_ok-matchers.matchers.items c.members.result.now c.args.draft.now c.in_ok-push_matchers.ensures.value c.in_ok-matchers.ensures c.members.ensures

pub returns-clause-lawful : goal.returns-clause-lawful
returns-clause-lawful c = made_lawful _ c.in_ok-matchers.matchers.items c.members.result.now c.args.draft.now.metric c.in_ok-push_matchers.ensures.value c.in_ok-matchers.ensures c.in_ok-push_matchers.ensures.lawful
