use Rattle.std.proofs.Common.{◌∙◌, ◌<◌, List, map, filter, length, ap, sym, arith}
use Rattle.std.specs.Prelude.{not}
use Rattle.std.specs.List.{list_all}
use Rattle.index_parts.specs.declared.chunk_place.ChunkPlace.{ChunkPlace}
use Rattle.index_parts.specs.SeriesEntry.{reference_of}
use Rattle.store_ranges.specs.Asking.{query_asked}
use Rattle.store_ranges.specs.ChunkRanges.{meets}
use Rattle.store_chunks.specs.RowsFit.{references_taken, row_names}
use Rattle.store_chunks.proofs.RowSamples.{begins_with, begins_not, none_named, some_named, first_row_and}
use Rattle.store_chunks.proofs.row_shown.behind_row.Goals as goal

pub returns-then-takes_none : goal.returns-then-takes_none
returns-then-takes_none c = begins_not (references_taken (query_asked c.args.asked.now) c.args.series.now) c.args.rows.now
    (none_named (meets c.args.asked.now.low c.args.asked.now.high) c.args.series.now.chunks
    (ap (list_all (λ (place : ChunkPlace). not (meets c.args.asked.now.low c.args.asked.now.high place))) (sym c.members-chunks.ensures) ∙ sym c.takes_none.ensures ∙ c.if-takes_none.true))

pub returns-then-are_chunks : goal.returns-then-are_chunks
returns-then-are_chunks c =
    let some : 0 < length c.args.rows.now = omega (arith, c.in-len1-up.len_at_least) in
    begins_with (references_taken (query_asked c.args.asked.now) c.args.series.now) c.args.rows.now _ c.row-item.result (first_row_and c.args.rows.now c.row-item.result some c.row-item.is)
    (ap (λ (l : List ChunkPlace). map reference_of (filter (meets c.args.asked.now.low c.args.asked.now.high) l)) (sym c.members-chunks.ensures) ∙ c.are_chunks.ensures c.if-are_chunks.true ∙ ap row_names c.as_slice.ensures.value)
    (some_named (meets c.args.asked.now.low c.args.asked.now.high) c.args.series.now.chunks
    (ap (list_all (λ (place : ChunkPlace). not (meets c.args.asked.now.low c.args.asked.now.high place))) (sym c.members-chunks.ensures) ∙ sym c.takes_none.ensures ∙ c.if-takes_none.false))
