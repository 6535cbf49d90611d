use Rattle.std.proofs.lemmas.Result.{IfOk-weaker}
use Rattle.std.proofs.Common.{◌∙◌}
use Rattle.block_merging.proofs.QueueSteps.{places_are}
use Rattle.block_merging.proofs.WholeListing.{keep_order}
use Rattle.block_merging.proofs.listing.ordered_places.Goals as goal

pub returns-then-keep_all : goal.returns-then-keep_all
returns-then-keep_all c =
    IfOk-weaker c.places_as_listed.result _ _ (λ places listed. listed ∙ keep_order c.args.external.now c.args.replicas.now c.args.numbers.now c.args.indexed.now (c.keep_all.ensures c.if-keep_all.true) c.requires.ascend) c.places_as_listed.ensures

pub returns : goal.returns
returns c =
    IfOk-weaker c.places_of.result _ _
    (λ places placed. places_are c.args.external.now c.args.replicas.now c.args.numbers.now c.args.indexed.now c.in_ok-series.series.items c.sort_by_labels.new.series.items c.as_slice.result.now places.items c.in_ok-series.ensures c.in_ok-sort_by_labels.ensures c.as_slice.ensures.value placed) c.places_of.ensures
