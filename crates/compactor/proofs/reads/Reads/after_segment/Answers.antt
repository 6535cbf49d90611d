use Rattle.std.proofs.Common.{refl}
use Rattle.world_core.specs.Operations.{entry_of}
use Rattle.compactor.specs.Named.{named_segments}
use Rattle.compactor.proofs.ReadRooms.{one_came}
use Rattle.compactor.proofs.ReadSteps.{segment_came}
use Rattle.compactor.proofs.reads.Reads.after_segment.Goals as goal

pub next_segment-requires-clause-named : goal.next_segment-requires-clause-named
next_segment-requires-clause-named c =
    one_came (named_segments c.args.input.index.bytes) c.args.input.segments c.push.new.self _ c.args.more c.in_ok-push-in-Found.ensures.ok c.requires.named

pub returns-in_ok-push-in-Found-clause-leads : goal.returns-in_ok-push-in-Found-clause-leads
returns-in_ok-push-in-Found-clause-leads c = λ seat op.
    segment_came c.next_segment.new.self c.next_segment.result c.args.self.now.inputs c.args.self.now.waiting.items (entry_of seat op c.args.seen) c.in-Found.bytes c.in-Found.is
    c.args.input c.args.more c.push.new.self c.in_ok-push-in-Found.ensures.ok
    (c.next_segment.ensures.leads (entry_of seat op c.args.seen) refl refl)
