use Rattle.std.proofs.Common.{◌∙◌, arith}
use Rattle.std.proofs.lemmas.Iterator.Adapters.{YieldsList-from_vec}
use Rattle.std.proofs.lemmas.Iterator.Consumers.{YieldsList-end}
use Rattle.compactor.proofs.PutTogether.{no_segments, segments_more, segments_all}
use Rattle.compactor.proofs.input_files.segment_files.Goals as goal

pub loop-segment-init : goal.loop-segment-init
loop-segment-init c = no_segments c.new-files.result c.new-entries.result c.new-files.ensures c.new-entries.ensures

pub loop-segment-preserved : goal.loop-segment-preserved
loop-segment-preserved c =
    segments_more c.loop-segment.yielded c.loop-segment.files _ c.loop-segment.entries _ c.in-Some.segment c.loop-segment.invariant
    c.in_ok-add_segment.ensures.added c.in_ok-add_segment.ensures.numbered c.add_segment.ensures.bytes

pub returns : goal.returns
returns c =
    let road = YieldsList-from_vec c.into_vec-segment-items.result.items c.into_iter-segment-iterator.ensures.into_iter_gives.0 (omega (arith, c.into_iter-segment-iterator.ensures.into_iter_gives.1, c.into_vec-segment-items.result.ok)) in
    let end = YieldsList-end road c.loop-segment.yielded c.loop-segment.segment-iterator c.loop-segment.yielded_by c.next.result c.next.new.self c.in-None.is c.next.ensures.steps in
    segments_all c.args.segments c.loop-segment.yielded c.loop-segment.files c.loop-segment.entries (end.0 ∙ c.into_vec-segment-items.ensures) c.loop-segment.invariant
