use Rattle.std.proofs.Common.{sym, ◌∙◌}
use Rattle.block_keys.proofs.KeyLaws.{IfOk-key_text, IfOk-lawful, IfOk-one_text, Ok-key_text, IsErr-key_text}
use Rattle.block_keys.proofs.key.Key.read.Goals as goal

pub returns-clause-found : goal.returns-clause-found
returns-clause-found c = IfOk-key_text c.args.text.now c.ok_or.result (sym c.ok_or.ensures.ok_part ∙ c.read_key.ensures)

pub returns-clause-only : goal.returns-clause-only
returns-clause-only c = Ok-key_text c.args.text.now c.ok_or.result (sym c.ok_or.ensures.ok_part ∙ c.read_key.ensures)

pub returns-clause-lawful : goal.returns-clause-lawful
returns-clause-lawful c = IfOk-lawful c.args.text.now c.ok_or.result (sym c.ok_or.ensures.ok_part ∙ c.read_key.ensures)

pub returns-clause-one_text : goal.returns-clause-one_text
returns-clause-one_text c = IfOk-one_text c.args.text.now c.ok_or.result (sym c.ok_or.ensures.ok_part ∙ c.read_key.ensures)

pub returns-clause-none : goal.returns-clause-none
returns-clause-none c = IsErr-key_text c.args.text.now c.ok_or.result (sym c.ok_or.ensures.ok_part ∙ c.read_key.ensures)
