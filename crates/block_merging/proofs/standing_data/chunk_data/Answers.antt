use Rattle.std.proofs.Common.{ℕ, List, [], ◌∷◌, sym, ap, subst, ◌∙◌}
use Rattle.std.specs.Prelude.{Option, unwrap_or}
use Rattle.wire_bytes.specs.Crc.{crc}
use Rattle.chunk_files.specs.Chunk.{IsPlace}
use Rattle.chunk_files.specs.Layout.{xor}
use Rattle.block_merging.proofs.StoredInputs.{data_there}
use Rattle.block_merging.proofs.standing_data.chunk_data.Goals as goal

pub returns-clause-data : goal.returns-clause-data
returns-clause-data c =
    let (content, at) = c.requires in
    c.segment_data.ensures.data content (subst (λ s. IsPlace s c.args.place.now.offset content) (sym (c.segment_of.ensures ∙ ap (λ (o : Option (List ℕ)). unwrap_or o []) at.named)) at.stands)
    ∙ sym (data_there c.args.segments.now c.args.place.now content at)

pub returns-clause-sum : goal.returns-clause-sum
returns-clause-sum c =
    let (content, at) = c.requires in
    let there = subst (λ s. IsPlace s c.args.place.now.offset content) (sym (c.segment_of.ensures ∙ ap (λ (o : Option (List ℕ)). unwrap_or o []) at.named)) at.stands in
    c.segment_data.ensures.sum content there ∙ ap (λ (lent : List ℕ). crc (xor ∷ lent)) (sym (c.segment_data.ensures.data content there))
