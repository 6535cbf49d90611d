use Rattle.std.proofs.Common.{◌∙◌}
use Rattle.series_selection.proofs.Marks.{nothing_marked}
use Rattle.series_selection.proofs.marking.no_marks.Goals as goal

pub returns : goal.returns
returns c = c.in_ok-vec.ensures.items_if_clones_equal (λ y is. is) ∙ nothing_marked c.args.numbers.now
