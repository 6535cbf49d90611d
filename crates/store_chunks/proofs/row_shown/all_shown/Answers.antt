use Rattle.std.proofs.Common.{◌≡◌, ◌∙◌, List, ap, sym, subst}
use Rattle.std.specs.Prelude.{IfOk}
use Rattle.std.specs.List.{flat_map}
use Rattle.std.specs.List.Sorted.{IsStrictlyIncreasing}
use Rattle.label_sets.specs.Triples.{triples_of}
use Rattle.store_ranges.specs.Asking.{query_asked, block_asked}
use Rattle.store_chunks.specs.Taken.{shown}
use Rattle.store_chunks.specs.ChunkReads.{Read}
use Rattle.store_chunks.specs.ChunksRead.{reads_of, reads_apart, references_in, references_apart}
use Rattle.store_chunks.specs.RowsFit.{HaveRows}
use Rattle.store_chunks.specs.declared.chunk_row.ChunkRow.{ChunkRow}
use Rattle.store_chunks.specs.declared.shown.ChunkRead.{ChunkRead}
use Rattle.store_chunks.proofs.RowsApart.{apart_shown}
use Rattle.store_chunks.proofs.row_shown.all_shown.Goals as goal

-- what was tested is what the queue has
pub rows_shown-requires : goal.rows_shown-requires
rows_shown-requires c = subst (HaveRows (query_asked c.args.asked.now) c.args.series.now) (sym c.from.ensures.0)
    (subst (HaveRows (query_asked c.args.asked.now) c.args.series.now) c.deref.ensures.value (c.have_rows.ensures c.if-have_rows.true))

pub returns-then-have_rows : goal.returns-then-have_rows
returns-then-have_rows c =
    subst (λ (l : List ChunkRow). IsStrictlyIncreasing (references_in l) → IfOk c.rows_shown.result (λ made. triples_of made ≡ flat_map (shown (query_asked c.args.asked.now) (block_asked c.args.asked.now) (reads_of l)) c.args.series.now)) c.from.ensures.0
    c.rows_shown.ensures

pub returns : goal.returns
returns c =
    apart_shown (λ (l : List Read). IfOk c.shown_apart.result (λ made. triples_of made ≡ flat_map (shown (query_asked c.args.asked.now) (block_asked c.args.asked.now) l) c.args.series.now))
    c.in_ok-apart.apart.items c.args.found.items (c.in_ok-apart.ensures ∙ ap reads_of c.deref-2.ensures.value)
    (subst (λ (l : List ChunkRead). IsStrictlyIncreasing (references_apart l) → IfOk c.shown_apart.result (λ made. triples_of made ≡ flat_map (shown (query_asked c.args.asked.now) (block_asked c.args.asked.now) (reads_apart l)) c.args.series.now)) c.deref-3.ensures.value
    c.shown_apart.ensures)
