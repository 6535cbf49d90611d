use Rattle.std.proofs.Common.{◌∙◌, List, ap, filter}
use Rattle.std.specs.List.{flat_map}
use Rattle.index_parts.specs.declared.chunk_place.ChunkPlace.{ChunkPlace}
use Rattle.store_ranges.specs.ChunkRanges.{meets}
use Rattle.store_chunks.specs.Taken.{samples_of}
use Rattle.store_ranges.specs.Asking.{query_asked, block_asked}
use Rattle.store_chunks.specs.ChunksRead.{reads_apart}
use Rattle.store_chunks.proofs.ShownSamples.{shown_is}
use Rattle.store_chunks.proofs.shown.shown.Goals as goal

pub returns : goal.returns
returns c = λ up. shown_is (query_asked c.args.asked.now) (block_asked c.args.asked.now) (reads_apart c.args.found.now) c.args.series.now _ _ c.in_ok-labels.ensures
    (c.in_ok-samples.ensures up ∙ ap (λ (l : List ChunkPlace). flat_map (samples_of (reads_apart c.args.found.now)) (filter (meets c.args.asked.now.low c.args.asked.now.high) l)) c.members.ensures)
