use Rattle.std.proofs.Common.{refl, ◌∙◌, map, ap}
use Rattle.std.proofs.lemmas.List.{map_push}
use Rattle.index_v2.specs.LentLabels.{as_label}
use Rattle.index_v2.proofs.LabelReading.{gives_err, gives_answered}
use Rattle.index_v2.proofs.LabelTexts.{texts_step, texts_stop, texts_fault, texts_end}
use Rattle.index_v2.proofs.NameOrder.{number_within, step_named}
use Rattle.index_v2.proofs.series_labels.texts_of.Goals as goal

pub returns-in_err-label : goal.returns-in_err-label
returns-in_err-label c =
    gives_err _ _ _ _ _ c.from_residual-in_err-label.ensures.1
    (texts_stop _ _ _ _ _ _ _ _ c.loop-place.invariant.0 c.in_err-label.ensures c.loop-place-test.true)

pub returns-in-Err : goal.returns-in-Err
returns-in-Err c =
    gives_answered _ _ _ _ _
    (texts_fault _ _ _ _ _ _ _ _ _ _ _ c.loop-place.invariant.0 c.in_ok-label.ensures c.in-Err.ensures c.loop-place-test.true refl)
    c.after_fault.ensures

pub loop-place-preserved : goal.loop-place-preserved
loop-place-preserved c = (
  step_named _ _ _ _ _ _ _ _ _ c.in-Ok.ensures
      (texts_step _ _ _ _ _ _ _ _ _ _ _ _ c.loop-place.invariant.0 c.in_ok-label.ensures c.in-Ok.ensures c.loop-place-test.true refl
      (ap (map as_label) c.in_ok-push-in-Ok.ensures.items ∙ map_push as_label _ _)),
  number_within _ _ _ _ c.in-Ok.ensures,
)

pub returns : goal.returns
returns c = texts_end _ _ _ _ _ _ _ c.loop-place.invariant.0 c.loop-place-test.false
