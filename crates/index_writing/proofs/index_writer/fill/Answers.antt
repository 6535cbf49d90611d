use Rattle.std.proofs.Common.{ℕ, List}
use Rattle.index_writing.specs.declared.parts.Parts.{Parts}
use Rattle.index_writing.proofs.AlignedTexts.{makes_longer}
use Rattle.index_writing.proofs.IndexLaw.{fill_shown, fill_index, fill_label_indices}
use Rattle.index_writing.proofs.PartsLaws.{lists_written, end_is, small_as}
use Rattle.index_writing.proofs.Standing.{longer}
use Rattle.index_writing.proofs.WrittenIndex.{written_series}
use Rattle.index_writing.proofs.index_writer.fill.Goals as goal

pub returns-in_err-parts-clause-makes : goal.returns-in_err-parts-clause-makes
returns-in_err-parts-clause-makes c =
    makes_longer Parts _ _ _ _ _ _ c.from_residual.ensures.1 c.in_err-parts.ensures.makes (longer (written_series _))

pub put_all_lists-requires-clause-small : goal.put_all_lists-requires-clause-small
put_all_lists-requires-clause-small c = small_as _ _ c.in_ok-parts.ensures.parts c.in_ok-parts.ensures.makes.1

pub returns-in_err-label_indices-clause-makes : goal.returns-in_err-label_indices-clause-makes
returns-in_err-label_indices-clause-makes c =
    makes_longer (List ℕ × List ℕ) _ _ _ _ _ _ c.from_residual-in_err-label_indices.ensures.1 c.in_err-label_indices.ensures.makes (lists_written _ _ c.in_ok-parts.ensures.parts)

pub toc_of-requires-clause-small : goal.toc_of-requires-clause-small
toc_of-requires-clause-small c = (small_as _ _ c.in_ok-parts.ensures.parts c.in_ok-parts.ensures.makes.1).numbers

pub toc_of-requires-clause-end : goal.toc_of-requires-clause-end
toc_of-requires-clause-end c = end_is _ _ c.in_ok-parts.ensures.parts

pub returns-clause-index : goal.returns-clause-index
returns-clause-index c =
    let parts = c.in_ok-parts.ensures in
    let tables = c.in_ok-places.ensures in
    fill_index _ _ _ c.requires.lawful
    (fill_shown _ _ _ _ _ _ _ parts.parts parts.makes.0 parts.labels parts.symbols c.put_toc.ensures.makes c.put_toc.ensures.stands parts.series tables.makes.0 tables.stands tables.offsets_stand c.toc_of.ensures)

pub returns-clause-label_indices : goal.returns-clause-label_indices
returns-clause-label_indices c =
    let parts = c.in_ok-parts.ensures in
    let tables = c.in_ok-places.ensures in
    fill_label_indices _ _ _
    (fill_shown _ _ _ _ _ _ _ parts.parts parts.makes.0 parts.labels parts.symbols c.put_toc.ensures.makes c.put_toc.ensures.stands parts.series tables.makes.0 tables.stands tables.offsets_stand c.toc_of.ensures)
