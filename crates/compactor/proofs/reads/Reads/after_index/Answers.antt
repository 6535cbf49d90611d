use Rattle.std.proofs.Common.{◌∙◌, sym, ap, refl}
use Rattle.world_core.specs.Operations.{entry_of}
use Rattle.compactor.specs.Named.{named_segments}
use Rattle.compactor.proofs.ReadRooms.{all_come}
use Rattle.compactor.proofs.ReadSteps.{index_came}
use Rattle.compactor.proofs.reads.Reads.after_index.Goals as goal

pub next_segment-requires-clause-named : goal.next_segment-requires-clause-named
next_segment-requires-clause-named c =
    all_come (named_segments c.in-Found.bytes) c.in-Some.count c.new.result (sym (c.in_ok-count-in-Found.ensures.named ∙ ap named_segments c.bytes-in-Found.ensures) ∙ c.in-Some.is) c.new.ensures

pub returns-in-Some-clause-leads : goal.returns-in-Some-clause-leads
returns-in-Some-clause-leads c = λ seat op.
    index_came c.next_segment.new.self c.next_segment.result c.args.self.now.inputs c.args.self.now.waiting.items (entry_of seat op c.args.seen) c.in-Found.bytes c.in-Found.is
    c.args.meta c.in-Some.count c.new.result (sym (c.in_ok-count-in-Found.ensures.named ∙ ap named_segments c.bytes-in-Found.ensures) ∙ c.in-Some.is) c.new.ensures
    (c.next_segment.ensures.leads (entry_of seat op c.args.seen) refl refl)
