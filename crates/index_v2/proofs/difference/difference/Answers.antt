use Rattle.std.proofs.Common.{◌∙◌, ap}
use Rattle.index_v2.specs.WholeReading.{earlier_place}
use Rattle.index_v2.proofs.difference.difference.Goals as goal

pub returns : goal.returns
returns c = λ symbols told listed are its. c.earlier_place.ensures ∙ ap (earlier_place c.args.stray) (c.first_gap.ensures symbols told listed are its)
