use Rattle.std.proofs.Common.{◌∙◌, sym}
use Rattle.label_sets.specs.Labels.{compare_sets}
use Rattle.label_sets.proofs.LabelValues.{same_set}
use Rattle.querier.proofs.alike.has_labels.Goals as goal
use Rattle.base.proofs.Bools.{Equal-from_is_eq}

pub returns : goal.returns
returns c e = same_set c.args.series.now.labels c.args.other.now.labels (Equal-from_is_eq (compare_sets c.args.series.now.labels c.args.other.now.labels) (sym c.eq.ensures ∙ e))
