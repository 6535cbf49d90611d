use Rattle.std.proofs.Common.{List, map, sym, subst}
use Rattle.std.specs.List.{AllByRecursion}
use Rattle.base.proofs.StableSorts.{Rises}
use Rattle.base.specs.Lists.{joined}
use Rattle.index_v2.specs.LentLabels.{as_label}
use Rattle.block_writing.specs.Put.{IsStored}
use Rattle.block_merging.specs.declared.input_chunk.InputChunk.{InputChunk}
use Rattle.block_merging.specs.declared.series_queue.SeriesQueue.{SeriesQueue}
use Rattle.block_merging.specs.Placed.{chunk_of}
use Rattle.block_merging.specs.MergeSteps.{HasGroup}
use Rattle.block_merging.specs.Queues.{IsQueue, have_lesser_labels, lefts_in}
use Rattle.block_merging.proofs.AllQueues.{copied, group_least, none_here}
use Rattle.block_merging.proofs.GroupsTaken.{walk_begins, walk_on, walk_lessens, walk_stored, walk_greater, walk_times, walk_counted, walk_ends}
use Rattle.block_merging.proofs.block_merge.put_groups.Goals as goal

pub loop-labels-init : goal.loop-labels-init
loop-labels-init c = (c.requires.queues, walk_begins (lefts_in c.args.external.now c.args.replicas.now c.args.queues.now.items) c.args.writer.now c.requires.rise c.requires.nothing)

pub next_group-requires-clause-queues : goal.next_group-requires-clause-queues
next_group-requires-clause-queues c = subst (AllByRecursion (IsQueue c.args.external.now c.args.replicas.now)) (sym c.as_slice.ensures.value) c.loop-labels.invariant.0

pub next_group-requires-clause-rise : goal.next_group-requires-clause-rise
next_group-requires-clause-rise c = subst (λ (l : List SeriesQueue). AllByRecursion (Rises have_lesser_labels) (lefts_in c.args.external.now c.args.replicas.now l)) (sym c.as_slice.ensures.value) c.loop-labels.invariant.1.rise

pub take_group-requires : goal.take_group-requires
take_group-requires c = c.loop-labels.invariant.0

pub put_group-requires-clause-lawful : goal.put_group-requires-clause-lawful
put_group-requires-clause-lawful c =
    (group_least c.args.external.now c.args.replicas.now c.as_slice.result.now c.loop-labels.queues.items c.in_ok-labels.field-0 c.in-Some.labels c.as_slice-lent.result.now c.as_slice.ensures.value c.in-Some.is c.as_slice-lent.ensures.value c.in_ok-labels.ensures).lawful

pub put_group-requires-clause-stored : goal.put_group-requires-clause-stored
put_group-requires-clause-stored c =
    subst (λ (l : List InputChunk). AllByRecursion (IsStored c.loop-labels.writer.plan) (map chunk_of l)) (sym c.as_slice-taken.ensures.value)
    (walk_stored c.args.writer.now.plan (joined (lefts_in c.args.external.now c.args.replicas.now c.args.queues.now.items)) (lefts_in c.args.external.now c.args.replicas.now c.loop-labels.queues.items) (lefts_in c.args.external.now c.args.replicas.now c.take_group.new.queues.items) (map as_label c.as_slice-lent.result.now) (map chunk_of c.in_ok-chunks.chunks.items) c.loop-labels.writer c.loop-labels.invariant.1
    (group_least c.args.external.now c.args.replicas.now c.as_slice.result.now c.loop-labels.queues.items c.in_ok-labels.field-0 c.in-Some.labels c.as_slice-lent.result.now c.as_slice.ensures.value c.in-Some.is c.as_slice-lent.ensures.value c.in_ok-labels.ensures) c.in_ok-chunks.ensures.taken c.requires.stored)

pub put_group-requires-clause-times : goal.put_group-requires-clause-times
put_group-requires-clause-times c = walk_times c.args.writer.now.plan (joined (lefts_in c.args.external.now c.args.replicas.now c.args.queues.now.items)) (lefts_in c.args.external.now c.args.replicas.now c.loop-labels.queues.items) c.loop-labels.writer c.requires.times c.loop-labels.invariant.1

pub put_group-requires-clause-nothing_left : goal.put_group-requires-clause-nothing_left
put_group-requires-clause-nothing_left c = c.loop-labels.invariant.1.has.nothing_left

pub put_group-requires-clause-greater : goal.put_group-requires-clause-greater
put_group-requires-clause-greater c =
    walk_greater c.args.writer.now.plan (joined (lefts_in c.args.external.now c.args.replicas.now c.args.queues.now.items)) (lefts_in c.args.external.now c.args.replicas.now c.loop-labels.queues.items) (lefts_in c.args.external.now c.args.replicas.now c.take_group.new.queues.items) (map as_label c.as_slice-lent.result.now) (map chunk_of c.in_ok-chunks.chunks.items) c.loop-labels.writer c.loop-labels.invariant.1
    (group_least c.args.external.now c.args.replicas.now c.as_slice.result.now c.loop-labels.queues.items c.in_ok-labels.field-0 c.in-Some.labels c.as_slice-lent.result.now c.as_slice.ensures.value c.in-Some.is c.as_slice-lent.ensures.value c.in_ok-labels.ensures) c.in_ok-chunks.ensures.taken

pub put_group-requires-clause-counted : goal.put_group-requires-clause-counted
put_group-requires-clause-counted c = walk_counted c.args.writer.now.plan (joined (lefts_in c.args.external.now c.args.replicas.now c.args.queues.now.items)) (lefts_in c.args.external.now c.args.replicas.now c.loop-labels.queues.items) c.loop-labels.writer c.loop-labels.invariant.1

pub loop-labels-preserved : goal.loop-labels-preserved
loop-labels-preserved c = (
  c.in_ok-chunks.ensures.queues,
  walk_on c.args.writer.now.plan (joined (lefts_in c.args.external.now c.args.replicas.now c.args.queues.now.items)) (lefts_in c.args.external.now c.args.replicas.now c.loop-labels.queues.items) (lefts_in c.args.external.now c.args.replicas.now c.take_group.new.queues.items) (map as_label c.as_slice-lent.result.now) (map chunk_of c.in_ok-chunks.chunks.items) c.loop-labels.writer c.loop-labels.invariant.1
      (group_least c.args.external.now c.args.replicas.now c.as_slice.result.now c.loop-labels.queues.items c.in_ok-labels.field-0 c.in-Some.labels c.as_slice-lent.result.now c.as_slice.ensures.value c.in-Some.is c.as_slice-lent.ensures.value c.in_ok-labels.ensures) c.in_ok-chunks.ensures.taken c.put_group.new.writer
      (subst (λ (l : List InputChunk). HasGroup c.loop-labels.writer (map as_label c.as_slice-lent.result.now) (map chunk_of l) c.put_group.new.writer) c.as_slice-taken.ensures.value c.in_ok-put_group.ensures),
)

pub loop-labels-smaller : goal.loop-labels-smaller
loop-labels-smaller c =
    walk_lessens c.args.writer.now.plan (joined (lefts_in c.args.external.now c.args.replicas.now c.args.queues.now.items)) (lefts_in c.args.external.now c.args.replicas.now c.loop-labels.queues.items) (lefts_in c.args.external.now c.args.replicas.now c.take_group.new.queues.items) (map as_label c.as_slice-lent.result.now) (map chunk_of c.in_ok-chunks.chunks.items) c.loop-labels.writer c.loop-labels.invariant.1
    (group_least c.args.external.now c.args.replicas.now c.as_slice.result.now c.loop-labels.queues.items c.in_ok-labels.field-0 c.in-Some.labels c.as_slice-lent.result.now c.as_slice.ensures.value c.in-Some.is c.as_slice-lent.ensures.value c.in_ok-labels.ensures) c.in_ok-chunks.ensures.taken

pub returns : goal.returns
returns c =
    walk_ends c.args.writer.now.plan (joined (lefts_in c.args.external.now c.args.replicas.now c.args.queues.now.items)) (lefts_in c.args.external.now c.args.replicas.now c.loop-labels.queues.items) c.loop-labels.writer (none_here copied c.in_ok-labels.field-0 c.args.external.now c.args.replicas.now c.as_slice.result.now c.loop-labels.queues.items c.as_slice.ensures.value c.in_default.not-Some c.in_ok-labels.ensures) c.loop-labels.invariant.1
