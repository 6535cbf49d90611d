use Rattle.std.proofs.Common.{[]}
use Rattle.index_parts.specs.LabelIndices.{label_index_text}
use Rattle.index_writing.proofs.AlignedTexts.{SoFar}
use Rattle.index_writing.proofs.section_places.put_label_indices.Given as goal

abbrev pub invariant-loop-name : goal.invariant-loop-name
invariant-loop-name l = SoFar 4 (λ name. label_index_text name.values) (λ place. place) l.initial.out.items [] l.names l.name-index l.out.items l.places
