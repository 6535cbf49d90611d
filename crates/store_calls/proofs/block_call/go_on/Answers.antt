use Rattle.store_ranges.specs.Caches.{held}
use Rattle.world_core.specs.Operations.{entry_of}
use Rattle.store_calls.specs.WorkStates.{count_at}
use Rattle.store_calls.proofs.CallSteps.{found_leads, absent_ends, failed_ends}
use Rattle.store_calls.proofs.block_call.go_on.Goals as goal

pub returns-in-Found : goal.returns-in-Found
returns-in-Found c = λ seat op is.
    found_leads c.args.asked.now c.args.work (held c.args.cache.now) (held c.take_bytes.new.cache) (count_at c.args.work) op (entry_of seat op c.args.seen) c.in-Found.bytes c.take_bytes.result is c.in-Found.is c.take_bytes.ensures

pub returns-in-Absent : goal.returns-in-Absent
returns-in-Absent c = λ seat op is. absent_ends c.args.asked.now c.args.work (held c.args.cache.now) op (entry_of seat op c.args.seen) is c.in-Absent.is

pub returns-in-Failed : goal.returns-in-Failed
returns-in-Failed c = λ seat op is. failed_ends c.args.asked.now c.args.work (held c.args.cache.now) op (entry_of seat op c.args.seen) _ is c.in-Failed.is
