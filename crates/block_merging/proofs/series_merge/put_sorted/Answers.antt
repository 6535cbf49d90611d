use Rattle.std.proofs.Common.{◌-◌, length, drop, take, map, List, sym, subst}
use Rattle.std.specs.List.{AllByRecursion}
use Rattle.block_writing.specs.Put.{IsStored, IsAfterChunks}
use Rattle.block_merging.specs.declared.placed_chunk.PlacedChunk.{PlacedChunk}
use Rattle.block_merging.specs.Placed.{placed_chunk, AreByBegin, IsFirstRun}
use Rattle.block_merging.specs.Steps.{run_in, HasRun}
use Rattle.block_merging.proofs.Sweeping.{left_is, by_drop, none_swept, run_some, run_stored, run_after, run_times, run_counted, sweep_more, all_swept}
use Rattle.block_merging.proofs.series_merge.put_sorted.Goals as goal

pub loop-start-init : goal.loop-start-init
loop-start-init c = none_swept c.args.writer.now c.args.labels.now c.args.sorted.now c.requires.nothing_left c.requires.counted

pub first_run-count-requires-clause-sorted : goal.first_run-count-requires-clause-sorted
first_run-count-requires-clause-sorted c = subst AreByBegin (sym (left_is c.loop-start.start c.args.sorted.now)) (by_drop c.loop-start.start c.args.sorted.now c.requires.by)

pub put_run-requires-clause-some : goal.put_run-requires-clause-some
put_run-requires-clause-some c = run_some (take (length c.args.sorted.now - c.loop-start.start) (drop c.loop-start.start c.args.sorted.now)) c.first_run-count.result c.first_run-count.ensures

pub put_run-requires-clause-stored : goal.put_run-requires-clause-stored
put_run-requires-clause-stored c =
    subst (λ (l : List PlacedChunk). AllByRecursion (IsStored c.loop-start.writer.plan) (map placed_chunk (take c.first_run-count.result l))) (sym (left_is c.loop-start.start c.args.sorted.now))
    (run_stored c.args.writer.now c.args.labels.now c.args.sorted.now c.loop-start.start c.first_run-count.result c.loop-start.writer c.requires.stored c.loop-start.invariant)

pub put_run-requires-clause-after : goal.put_run-requires-clause-after
put_run-requires-clause-after c =
    subst (λ (l : List PlacedChunk). AllByRecursion (λ d. IsAfterChunks c.loop-start.writer.chunks d.min) (map placed_chunk (take c.first_run-count.result l))) (sym (left_is c.loop-start.start c.args.sorted.now))
    (run_after c.args.writer.now c.args.labels.now c.args.sorted.now c.loop-start.start c.first_run-count.result c.loop-start.writer c.loop-start.invariant)

pub put_run-requires-clause-times : goal.put_run-requires-clause-times
put_run-requires-clause-times c = run_times c.args.writer.now c.args.labels.now c.args.sorted.now c.loop-start.start c.loop-start.writer c.requires.times c.loop-start.invariant

pub put_run-requires-clause-counted : goal.put_run-requires-clause-counted
put_run-requires-clause-counted c = run_counted c.args.writer.now c.args.labels.now c.args.sorted.now c.loop-start.start c.loop-start.writer c.loop-start.invariant

pub loop-start-preserved : goal.loop-start-preserved
loop-start-preserved c =
    sweep_more c.args.writer.now c.loop-start.writer c.put_run.new.writer c.args.labels.now c.args.sorted.now c.loop-start.start c.first_run-count.result c.requires.by c.loop-start.invariant
    (subst (λ (l : List PlacedChunk). IsFirstRun l c.first_run-count.result) (left_is c.loop-start.start c.args.sorted.now) c.first_run-count.ensures)
    (subst (λ (l : List PlacedChunk). HasRun c.loop-start.writer c.args.labels.now (run_in (take c.first_run-count.result l)) c.put_run.new.writer) (left_is c.loop-start.start c.args.sorted.now) c.in_ok-put_run.ensures)

pub returns : goal.returns
returns c = all_swept c.args.writer.now c.args.labels.now c.args.sorted.now c.loop-start.start c.loop-start.writer c.loop-start-test.false c.loop-start.invariant
