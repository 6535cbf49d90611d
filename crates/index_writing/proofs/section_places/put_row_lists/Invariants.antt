use Rattle.std.proofs.Common.{[], ◌∷◌}
use Rattle.index_parts.specs.Postings.{postings_text}
use Rattle.index_writing.proofs.AlignedTexts.{SoFar}
use Rattle.index_writing.proofs.section_places.put_row_lists.Given as goal

abbrev pub invariant-loop-row : goal.invariant-loop-row
invariant-loop-row l = SoFar 4 (λ row. postings_text row.series) (λ place. place) l.initial.out.items (l.first ∷ []) l.rows l.row-index l.out.items l.places
