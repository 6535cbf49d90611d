use Rattle.std.proofs.Common.{sym, ◌∙◌}
use Rattle.sync_filters.proofs.HolderLaws.{no_cover}
use Rattle.sync_filters.proofs.coverage.is_covered.Goals as goal

pub returns-else-is_whole : goal.returns-else-is_whole
returns-else-is_whole c = c.if-is_whole.false ∙ sym (no_cover c.args.listed.now c.args.block.now (sym c.is_whole.ensures ∙ c.if-is_whole.false))
