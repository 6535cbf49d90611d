use Rattle.store_chunks.proofs.ChunkBehind.{some_behind, none_behind, alone_as}
use Rattle.store_chunks.proofs.chunk_cut.chunk_samples.Goals as goal

pub returns-in-Some : goal.returns-in-Some
returns-in-Some c = alone_as (λ all. all.items) c.new.result.items _ c.in-Some.samples c.from_vec.result c.new.ensures.items c.from_vec.ensures
    (some_behind (λ all. all.items) c.new.result.items _ c.in_ok-samples.field-0 c.in-Some.samples c.in-Some.is c.in_ok-samples.ensures)

pub returns-in-None : goal.returns-in-None
returns-in-None c = none_behind (λ all. all.items) c.new.result.items _ c.in_ok-samples.field-0 c.in-None.is c.in_ok-samples.ensures
