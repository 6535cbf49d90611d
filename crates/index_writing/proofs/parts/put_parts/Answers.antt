use Rattle.std.proofs.Common.{ℕ, ◌∙◌}
use Rattle.index_writing.proofs.AlignedTexts.{makes_longer}
use Rattle.index_writing.proofs.PartsLaws.{front_as, storable, strict_as}
use Rattle.index_writing.proofs.Standing.{symbols_still}
use Rattle.index_writing.proofs.parts.put_parts.Goals as goal

pub raws_of-requires : goal.raws_of-requires
raws_of-requires c = strict_as _ _ _ c.in_ok-symbols.ensures.symbols c.members.ensures

pub returns-in_err-symbols_end-clause-makes : goal.returns-in_err-symbols_end-clause-makes
returns-in_err-symbols_end-clause-makes c =
    makes_longer ℕ _ _ _ _ _ _ c.from_residual-in_err-symbols_end.ensures.1 c.in_err-symbols_end.ensures.makes (front_as _ _ c.in_ok-symbols.ensures.symbols)

pub put_all_series-requires-clause-lawful : goal.put_all_series-requires-clause-lawful
put_all_series-requires-clause-lawful c = storable _ _ _ c.requires.lawful (c.as_slice.ensures.value ∙ c.in_ok-series.ensures)

pub returns-clause-symbols : goal.returns-clause-symbols
returns-clause-symbols c =
    symbols_still _ _ _ _ _ c.in_ok-symbols.ensures.symbols c.in_ok-numbers.ensures.makes.0 c.in_ok-symbols_end.ensures.stands
