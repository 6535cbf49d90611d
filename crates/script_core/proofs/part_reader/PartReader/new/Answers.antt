use Rattle.std.proofs.Common.{◌∙◌, ap, refl}
use Rattle.script_core.specs.State.{start}
use Rattle.script_core.proofs.PartLaws.{nothing_read}
use Rattle.script_core.proofs.part_reader.PartReader.new.Goals as goal

pub returns : goal.returns
returns c = nothing_read _ (c.new.ensures ∙ ap start c.standard.ensures) refl refl
