use Rattle.store_ranges.specs.ChunkRanges.{meets}
use Rattle.store_chunks.specs.RowsFit.{row_names}
use Rattle.store_chunks.proofs.RowSamples.{no_chunks, place_more, places_all}
use Rattle.store_chunks.proofs.row_shown.are_chunks.Goals as goal

pub loop-place-preserved : goal.loop-place-preserved
loop-place-preserved c = place_more (meets c.args.asked.now.low c.args.asked.now.high) row_names c.args.row.now c.loop-place.left.now c.in-Some.others.now c.args.places.now c.loop-place.place-index _
    c.loop-place-test.true c.loop-place.invariant c.in-Some.ensures

pub returns : goal.returns
returns c = λ none. places_all (meets c.args.asked.now.low c.args.asked.now.high) c.args.row.now c.loop-place.left.now c.args.places.now c.loop-place.place-index c.loop-place-test.false (no_chunks c.loop-place.left.now c.is_empty.result c.is_empty.ensures none) c.loop-place.invariant
