use Rattle.std.proofs.Common.{ap, ◌∙◌}
use Rattle.block_content.specs.ContentReading.{first_time}
use Rattle.block_content.proofs.FoundPlaces.{only_memory, one_text}
use Rattle.block_content.proofs.places.time_in.Goals as goal

pub returns-in_err-samples-clause-refused : goal.returns-in_err-samples-clause-refused
returns-in_err-samples-clause-refused c = only_memory c.from_residual.result c.in_err-samples.field-0.0 c.requires.0 c.from_residual.ensures.1 (c.in_err-samples.ensures.only c.requires.0 c.requires.1)

pub returns-clause-time : goal.returns-clause-time
returns-clause-time c = λ samples is. c.first_time.ensures.value ∙ ap (first_time c.args.meta.now) (c.members.ensures ∙ one_text c.args.content.now c.in_ok-samples.samples samples c.in_ok-samples.ensures.found is)
