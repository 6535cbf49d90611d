use Rattle.std.proofs.Common.{refl}
use Rattle.store_calls.proofs.PartReaders.{over_holds, over_reads, memory_alone}
use Rattle.store_calls.proofs.run_steps.lists_reader.Goals as goal

pub returns-in-Ok-clause-rows : goal.returns-in-Ok-clause-rows
returns-in-Ok-clause-rows c = (over_holds _ c.in-Ok.reader c.in-Ok.ensures.exact).rows

pub returns-in-Ok-clause-lists : goal.returns-in-Ok-clause-lists
returns-in-Ok-clause-lists c = (over_holds _ c.in-Ok.reader c.in-Ok.ensures.exact).lists

pub only_memory-requires : goal.only_memory-requires
only_memory-requires c = memory_alone c.in-Err.refusal _ (over_reads _ refl c.requires.tested) c.in-Err.ensures.exact
