use Rattle.std.proofs.Common.{sym, ◌∙◌}
use Rattle.block_keys.proofs.KeyLaws.{key_of-uncut}
use Rattle.block_keys.proofs.names.read_key.Goals as goal

pub returns-in_err-block : goal.returns-in_err-block
returns-in_err-block c = c.from_residual.ensures ∙ sym (key_of-uncut c.args.text.now c.in_err-block.ensures.cases)
