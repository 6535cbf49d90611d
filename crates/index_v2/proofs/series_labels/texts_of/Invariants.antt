use Rattle.std.proofs.Common.{◌<◌, length, map}
use Rattle.std.specs.Prelude.{IfSome}
use Rattle.index_v2.specs.LentLabels.{as_label}
use Rattle.index_v2.specs.Ranks.{name_before}
use Rattle.index_v2.proofs.LabelTexts.{AreTextsSoFar}
use Rattle.index_v2.proofs.series_labels.texts_of.Given as goal

abbrev pub invariant-loop-place : goal.invariant-loop-place
invariant-loop-place l = AreTextsSoFar l.symbols l.count l.fn.cursor (name_before l.symbols l.before) l.place (map as_label l.labels.items) l.cursor × IfSome l.before (λ n. n < length l.symbols)
