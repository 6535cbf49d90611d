use Rattle.std.proofs.Common.{◌∙◌, List, ap, filter}
use Rattle.std.specs.List.{flat_map}
use Rattle.std.proofs.lemmas.List.{take_all}
use Rattle.index_parts.specs.declared.chunk_place.ChunkPlace.{ChunkPlace}
use Rattle.store_ranges.specs.ChunkRanges.{meets}
use Rattle.store_chunks.specs.Taken.{samples_of}
use Rattle.store_chunks.specs.ChunksRead.{reads_apart}
use Rattle.store_chunks.proofs.ShownSamples.{met_more}
use Rattle.store_chunks.proofs.shown.samples_read.Goals as goal

pub loop-place-preserved : goal.loop-place-preserved
loop-place-preserved c = λ up. met_more (samples_of (reads_apart c.args.found.now)) (meets c.args.asked.now.low c.args.asked.now.high) c.args.chunks.now c.loop-place.place-index _ c.loop-place.samples.items c.add_samples.new.samples.items
    c.loop-place-test.true (c.loop-place.invariant up) (c.in_ok-add_samples.ensures up)

pub returns : goal.returns
returns c = λ up. c.from_vec.ensures ∙ c.loop-place.invariant up
    ∙ ap (λ (l : List ChunkPlace). flat_map (samples_of (reads_apart c.args.found.now)) (filter (meets c.args.asked.now.low c.args.asked.now.high) l)) (take_all c.loop-place.place-index c.args.chunks.now c.loop-place-test.false)
