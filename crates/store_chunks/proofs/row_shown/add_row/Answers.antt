use Rattle.std.proofs.Common.{◌≡◌, ◌∙◌, ◌++◌, List, ap, length, subst, sym}
use Rattle.std.specs.Prelude.{OnOk}
use Rattle.label_sets.specs.declared.sample.Sample.{Sample}
use Rattle.store_chunks.specs.RowCounts.{counted}
use Rattle.store_chunks.specs.ChunksRead.{reads_from, reads_apart}
use Rattle.store_chunks.specs.declared.chunk_row.RowChunk.{RowChunk}
use Rattle.store_chunks.proofs.row_shown.add_row.Goals as goal

pub add_chunks-requires : goal.add_chunks-requires
add_chunks-requires c = ap counted c.as_slice.ensures.value ∙ c.args.row.now.whole ∙ sym (ap length c.as_slice-2.ensures.value)

pub returns : goal.returns
returns c =
    subst (λ (l : List RowChunk). OnOk c.add_chunks.result (reads_apart c.add_chunks.new.apart.items ≡ reads_apart c.args.apart.now.items ++ reads_from c.args.row.now.samples.items l)) c.as_slice.ensures.value
    (subst (λ (s : List Sample). OnOk c.add_chunks.result (reads_apart c.add_chunks.new.apart.items ≡ reads_apart c.args.apart.now.items ++ reads_from s c.as_slice.result.now)) c.as_slice-2.ensures.value
    c.add_chunks.ensures)
