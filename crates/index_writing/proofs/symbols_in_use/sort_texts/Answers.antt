use Rattle.index_writing.proofs.SortedTexts.{texts_sorted}
use Rattle.index_writing.proofs.symbols_in_use.sort_texts.Goals as goal

pub returns : goal.returns
returns c = texts_sorted _ _ c.in_ok-sort.ensures.sorted c.in_ok-sort.ensures.stable
