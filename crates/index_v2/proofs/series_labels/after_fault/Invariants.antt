use Rattle.index_v2.proofs.LabelTexts.{WerePassed}
use Rattle.index_v2.proofs.series_labels.after_fault.Given as goal

abbrev pub invariant-loop : goal.invariant-loop
invariant-loop l = WerePassed l.refusal l.count l.fn.cursor l.counter l.cursor
