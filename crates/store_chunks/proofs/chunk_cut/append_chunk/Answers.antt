use Rattle.std.proofs.Common.{◌++◌, ◌∙◌, List, ap}
use Rattle.label_sets.specs.declared.sample.Sample.{Sample}
use Rattle.store_ranges.specs.Asking.{query_asked, block_asked}
use Rattle.store_chunks.proofs.ChunkBehind.{some_behind, none_behind}
use Rattle.store_chunks.proofs.CutSamples.{cut_stops, cut_behind, inside_behind}
use Rattle.store_chunks.proofs.chunk_cut.append_chunk.Goals as goal

pub returns-then-lies_inside : goal.returns-then-lies_inside
returns-then-lies_inside c = inside_behind (λ all. all.items) c.args.samples.items (query_asked c.args.asked.now) (block_asked c.args.asked.now) c.args.places.now c.args.bytes.now c.append_tested.result
    c.append_tested.ensures.bytes (c.lies_inside.ensures c.if-lies_inside.true) c.append_tested.ensures.read

pub returns-in-None : goal.returns-in-None
returns-in-None c = cut_stops (query_asked c.args.asked.now) (block_asked c.args.asked.now) c.args.places.now c.args.bytes.now
    (none_behind (λ all. all.items) c.new.result.items _ c.in_ok-whole.field-0 c.in-None.is c.in_ok-whole.ensures.read)

pub returns : goal.returns
returns c = cut_behind (query_asked c.args.asked.now) (block_asked c.args.asked.now) c.args.places.now c.args.bytes.now c.args.samples.items c.extend_from_slice.new.self.items c.in-Some.whole.items c.in_range-cut.result.items c.new.result.items
    c.new.ensures.items (some_behind (λ all. all.items) c.new.result.items _ c.in_ok-whole.field-0 c.in-Some.whole c.in-Some.is c.in_ok-whole.ensures.read)
    c.in_range-cut.ensures (c.in_ok-extend_from_slice.ensures.items ∙ ap (λ (l : List Sample). c.args.samples.items ++ l) c.as_slice.ensures.value)
