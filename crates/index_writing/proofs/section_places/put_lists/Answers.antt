use Rattle.index_writing.proofs.AlignedTexts.{first_stop, first_end, first_places}
use Rattle.index_writing.proofs.section_places.put_lists.Goals as goal

pub returns-in_err-first-clause-makes : goal.returns-in_err-first-clause-makes
returns-in_err-first-clause-makes c =
    first_stop 4 _ _ _ _ _ _ _ c.in_err-first.ensures.makes c.from_residual.ensures.1

pub returns-clause-makes : goal.returns-clause-makes
returns-clause-makes c =
    first_end 4 _ _ _ _ _ _ c.in_ok-first.ensures.makes c.put_row_lists.ensures.makes

pub returns-clause-places : goal.returns-clause-places
returns-clause-places c =
    first_places 4 _ _ _ _ _ _ c.in_ok-first.ensures.makes c.in_ok-first.ensures.place c.put_row_lists.ensures.places
