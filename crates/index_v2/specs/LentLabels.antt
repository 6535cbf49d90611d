-- A label that lends its texts, as a label.
use Rattle.index_v2.specs.declared.lent_series.LentLabel.{LentLabel}
use Rattle.label_sets.specs.declared.label.Label.{Label}

abbrev pub as_label : LentLabel → Label
as_label label = record { name = label.name.now; value = label.value.now }
