use Rattle.std.proofs.Common.{◌∙◌, List, ap, drop, sym}
use Rattle.label_sets.specs.declared.sample.Sample.{Sample}
use Rattle.store_ranges.specs.Asking.{block_asked}
use Rattle.store_chunks.proofs.ChunkBehind.{chunk_stops, chunk_behind, chunk_fails, some_behind, none_behind}
use Rattle.store_chunks.proofs.chunks.append_tested.Goals as goal

pub returns-in-None-clause-read : goal.returns-in-None-clause-read
returns-in-None-clause-read c = chunk_stops (block_asked c.args.asked.now) c.args.places.now c.args.bytes.now
    (none_behind (λ all. all.items) c.args.samples.items _ c.in_ok-all.field-0 c.in-None.is c.in_ok-all.ensures)

pub returns-then-not-are_chunks_of-clause-read : goal.returns-then-not-are_chunks_of-clause-read
returns-then-not-are_chunks_of-clause-read c = chunk_fails (block_asked c.args.asked.now) c.args.places.now c.args.bytes.now c.args.samples.items c.in-Some.all.items c.members_behind.result.now c.len-before.result
    (some_behind (λ all. all.items) c.args.samples.items _ c.in_ok-all.field-0 c.in-Some.all c.in-Some.is c.in_ok-all.ensures)
    (c.len-before.ensures ∙ c.args.samples.ok.0) (c.members_behind.ensures ∙ ap (λ (xs : List Sample). drop c.len-before.result xs) c.as_slice.ensures.value)
    (sym c.are_chunks_of.ensures ∙ c.if-not-are_chunks_of.true)

pub returns-clause-read : goal.returns-clause-read
returns-clause-read c = chunk_behind (block_asked c.args.asked.now) c.args.places.now c.args.bytes.now c.args.samples.items c.in-Some.all.items c.members_behind.result.now c.len-before.result
    (some_behind (λ all. all.items) c.args.samples.items _ c.in_ok-all.field-0 c.in-Some.all c.in-Some.is c.in_ok-all.ensures)
    (c.len-before.ensures ∙ c.args.samples.ok.0) (c.members_behind.ensures ∙ ap (λ (xs : List Sample). drop c.len-before.result xs) c.as_slice.ensures.value)
    (sym c.are_chunks_of.ensures ∙ c.if-not-are_chunks_of.false)
