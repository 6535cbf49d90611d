use Rattle.std.proofs.Common.{ap, ◌∙◌}
use Rattle.base.proofs.Binds.{refused_as_ok}
use Rattle.block_content.specs.ContentReading.{index_at, refused_index}
use Rattle.block_loading.specs.Loading.{last_segment}
use Rattle.block_loading.proofs.reading.last_named.Goals as goal

pub returns-in-Ok-clause-named : goal.returns-in-Ok-clause-named
returns-in-Ok-clause-named c = (c.in-Ok.indexed, refused_as_ok refused_index (index_at c.args.index.now) c.in-Ok.indexed c.in-Ok.ensures.exact, c.last_segment.ensures.value ∙ ap last_segment c.members.ensures)
