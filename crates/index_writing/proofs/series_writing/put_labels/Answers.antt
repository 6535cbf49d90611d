use Rattle.std.proofs.lemmas.Slice.Zip.{Zip-more, either_empty_from_Zip}
use Rattle.index_parts.specs.SeriesEntry.{label_text}
use Rattle.index_writing.proofs.PairLists.{pairs_more, pairs_all}
use Rattle.index_writing.proofs.series_writing.put_labels.Goals as goal

pub loop-name-preserved : goal.loop-name-preserved
loop-name-preserved c = pairs_more label_text _ _ _ _ _ _ _ _ _ (Zip-more c.loop-name.name-iterator c.next.new.self _ _ c.in-Some.is c.next.ensures.steps) c.loop-name.invariant c.in_ok-put_label.ensures

pub returns-clause-ok : goal.returns-clause-ok
returns-clause-ok c = pairs_all label_text _ _ _ _ (either_empty_from_Zip c.loop-name.name-iterator c.next.new.self _ c.in-None.is c.next.ensures.steps) c.loop-name.invariant
