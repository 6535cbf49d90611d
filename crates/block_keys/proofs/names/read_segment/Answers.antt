use Rattle.std.proofs.Common.{sym, ◌∙◌}
use Rattle.block_keys.proofs.NameText.{segment_of-uncut}
use Rattle.block_keys.proofs.names.read_segment.Goals as goal

pub returns-in_err-folder : goal.returns-in_err-folder
returns-in_err-folder c = c.from_residual.ensures ∙ sym (segment_of-uncut c.args.name.now c.in_err-folder.ensures.cases)
