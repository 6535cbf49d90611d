use Rattle.std.proofs.Common.{codes}
use Rattle.generated_day.specs.Day.{two_digits, labels_text}
use Rattle.generated_day.proofs.Parts.{three_parts}
use Rattle.generated_day.proofs.lines.put_labels.Goals as goal

pub returns : goal.returns
unfolding labels_text
returns c =
    three_parts _ _ _ _ (codes "{__name__=\"m\",inst=\"i") (two_digits c.args.series) (codes "\"}") c.in_ok-extend_from_slice.ensures.items c.in_ok-put_two_digits.ensures c.in_ok-extend_from_slice-2.ensures.items
