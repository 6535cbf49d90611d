use Rattle.std.proofs.Common.{◌∙◌, List, ap}
use Rattle.std.specs.List.{flat_map}
use Rattle.std.proofs.lemmas.List.{take_all}
use Rattle.label_sets.specs.Triples.{triples_of}
use Rattle.index_parts.specs.declared.index_series.IndexSeries.{IndexSeries}
use Rattle.store_ranges.specs.Asking.{query_asked, block_asked}
use Rattle.store_chunks.specs.Taken.{shown}
use Rattle.store_chunks.specs.ChunksRead.{reads_of}
use Rattle.store_chunks.proofs.RowSamples.{rows_begun, row_more}
use Rattle.store_chunks.proofs.row_shown.rows_shown.Goals as goal

pub loop-one-init : goal.loop-one-init
loop-one-init c = rows_begun (query_asked c.args.asked.now) (block_asked c.args.asked.now) c.args.rows.items c.args.series.now c.new-made.result.items c.new-made.ensures.items c.requires

pub loop-one-preserved : goal.loop-one-preserved
loop-one-preserved c = row_more (query_asked c.args.asked.now) (block_asked c.args.asked.now) c.args.rows.items c.loop-one.left.items c.first_row-samples.new.left.items c.args.series.now c.loop-one.one-index _ _ c.loop-one.made.items c.push.new.self.items c.in_ok-series_of.field-0 c.first_row-samples.result.items
    c.loop-one-test.true c.one-item.is c.loop-one.invariant c.first_row-samples.ensures c.in_ok-series_of.ensures.0 c.in_ok-series_of.ensures.1 c.in_ok-push.ensures.items

pub returns : goal.returns
returns c = λ up. ap triples_of c.from_vec.ensures ∙ c.loop-one.invariant.triples up
    ∙ ap (λ (l : List IndexSeries). flat_map (shown (query_asked c.args.asked.now) (block_asked c.args.asked.now) (reads_of c.args.rows.items)) l) (take_all c.loop-one.one-index c.args.series.now c.loop-one-test.false)
