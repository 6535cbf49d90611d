use Rattle.std.proofs.Common.{inr}
use Rattle.index_v2.proofs.LabelTexts.{texts_told}
use Rattle.index_v2.proofs.LabelLaws.{labels_lawful_read}
use Rattle.index_v2.proofs.LabelReading.{gives_err, gives_refused}
use Rattle.index_v2.proofs.LabelledSeries.{labelled_by, labelled_not_begun, labelled_no_labels, labelled_no_chunks}
use Rattle.index_v2.proofs.lent_series.LentSeries.read.Goals as goal

pub returns-in_err-count : goal.returns-in_err-count
returns-in_err-count c = gives_err _ _ _ _ _ c.from_residual.ensures.1 (labelled_not_begun _ _ _ _ c.in_err-count.ensures)

pub returns-in-Err : goal.returns-in-Err
returns-in-Err c = labelled_no_labels _ _ _ _ _ c.in_ok-count.ensures _ c.in-Err.ensures

pub returns-in_err-chunks : goal.returns-in_err-chunks
returns-in_err-chunks c = gives_refused _ _ _ _ _ c.from_residual-in_err-chunks.ensures.1 (labelled_no_chunks _ _ _ _ _ c.in_ok-count.ensures _ _ c.in-Ok.ensures _ c.in_err-chunks.ensures.exact)

pub invariant_of-result : goal.invariant_of-result
invariant_of-result c = labels_lawful_read _ _ _ _ _ (texts_told _ _ _ _ _ _ _ c.in-Ok.ensures c.in-Ok-texts.is)

pub returns-in-Ok-texts : goal.returns-in-Ok-texts
returns-in-Ok-texts c = labelled_by _ _ _ _ _ c.in_ok-count.ensures _ _ (texts_told _ _ _ _ _ _ _ c.in-Ok.ensures c.in-Ok-texts.is) _ c.in_ok-chunks.ensures.exact

pub returns-in-Err-texts : goal.returns-in-Err-texts
returns-in-Err-texts c = inr (labelled_by _ _ _ _ _ c.in_ok-count.ensures _ _ (texts_told _ _ _ _ _ _ _ c.in-Ok.ensures c.in-Err-texts.is) _ c.in_ok-chunks.ensures.exact)
