use Rattle.std.proofs.Common.{◌∙◌}
use Rattle.store_ranges.proofs.TextsKept.{texts_more}
use Rattle.store_ranges.proofs.symbol_texts.texts_of_table.Goals as goal

pub loop-number-preserved : goal.loop-number-preserved
loop-number-preserved c = (
  c.in_ok-add_text.ensures.texts,
  c.in_ok-add_text.ensures.value ∙ texts_more c.args.table.now _ c.loop-number.number c.text_in.result.now c.loop-number.invariant.1 c.text_in.ensures,
)
