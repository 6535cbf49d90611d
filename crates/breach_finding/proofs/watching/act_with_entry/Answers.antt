use Rattle.breach_finding.proofs.Steps.{step_ok}
use Rattle.breach_finding.proofs.watching.act_with_entry.Goals as goal

pub returns : goal.returns
returns c =
    step_ok c.args.machine.now c.step.new.self c.args.e.now c.in_ok-reply.reply c.in_ok-reply.ensures.told c.step.result (c.step.ensures.goes_on c.args.e.now.seat c.args.e.now.op c.requires.waits)
