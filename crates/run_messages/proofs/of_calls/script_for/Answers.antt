use Rattle.run_messages.proofs.of_calls.script_for.Goals as goal

pub returns-then-tells_breach : goal.returns-then-tells_breach
returns-then-tells_breach c = c.script_of.ensures c.args.told.now
