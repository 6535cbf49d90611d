use Rattle.std.proofs.Common.{◌∙◌, ◌++◌, ◌∷◌, [], List, ap}
use Rattle.label_sets.specs.declared.sample.Sample.{Sample}
use Rattle.store_chunks.specs.ChunkReads.{read}
use Rattle.store_chunks.specs.declared.chunk_row.RowChunk.{RowChunk}
use Rattle.store_chunks.proofs.Rows.{row_alone}
use Rattle.store_chunks.proofs.chunk_rows.row_of_one.Goals as goal

pub returns : goal.returns
returns c =
    let one : RowChunk = record { reference = c.args.reference; count = c.len-count.result } in
    row_alone c.into_vec-samples.result.items c.push.new.self.items one
    (c.in_ok-push.ensures.items ∙ ap (λ (l : List RowChunk). l ++ one ∷ []) c.new-chunks.ensures.items)
    (c.len-count.ensures ∙ c.into_vec-samples.result.ok.0)
    ∙ ap (λ (l : List Sample). read c.args.reference l ∷ []) c.into_vec-samples.ensures
