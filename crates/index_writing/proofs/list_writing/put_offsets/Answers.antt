use Rattle.std.proofs.lemmas.Slice.Zip.{Zip-more, either_empty_from_Zip}
use Rattle.index_parts.specs.LabelIndices.{offset_text}
use Rattle.index_writing.proofs.Offsets.{Fits}
use Rattle.index_writing.proofs.PairLists.{pairs_more, pairs_all, fit_more, fit_end}
use Rattle.index_writing.proofs.list_writing.put_offsets.Goals as goal

pub loop-name-preserved : goal.loop-name-preserved
loop-name-preserved c =
    let more = Zip-more c.loop-name.name-iterator c.next.new.self _ _ c.in-Some.is c.next.ensures.steps in (
      pairs_more offset_text _ _ _ _ _ _ _ _ _ more c.loop-name.invariant.0 c.in_ok-put_offset.ensures.ok,
      λ rest. c.loop-name.invariant.1 (fit_more Fits _ _ _ _ _ _ more c.in_ok-put_offset.ensures.fits rest),
    )

pub returns-clause-ok : goal.returns-clause-ok
returns-clause-ok c = pairs_all offset_text _ _ _ _ (either_empty_from_Zip c.loop-name.name-iterator c.next.new.self _ c.in-None.is c.next.ensures.steps) c.loop-name.invariant.0

pub returns-clause-fit : goal.returns-clause-fit
returns-clause-fit c = c.loop-name.invariant.1 (fit_end Fits _ _ (either_empty_from_Zip c.loop-name.name-iterator c.next.new.self _ c.in-None.is c.next.ensures.steps))
