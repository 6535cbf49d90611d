use Rattle.std.proofs.Common.{◌≡◌, rules}
use Rattle.base.specs.Ordered.{in_order}
use Rattle.block_writing.specs.Put.{IsStored}
use Rattle.block_merging.specs.Placed.{begins_before, placed_from}
use Rattle.block_merging.proofs.Sweeping.{sorted_stored, sorted_by, runs_told}
use Rattle.block_merging.proofs.series_merge.put_runs.Goals as goal

pub put_sorted-requires-clause-stored : goal.put_sorted-requires-clause-stored
put_sorted-requires-clause-stored c =
    let is : c.as_slice.result.now ≡ in_order begins_before (placed_from 0 c.args.chunks.now) = search rules in
    sorted_stored (IsStored c.args.writer.now.plan) c.args.chunks.now c.as_slice.result.now is c.requires.stored

pub put_sorted-requires-clause-by : goal.put_sorted-requires-clause-by
put_sorted-requires-clause-by c =
    let is : c.as_slice.result.now ≡ in_order begins_before (placed_from 0 c.args.chunks.now) = search rules in
    sorted_by c.args.writer.now.plan c.args.chunks.now c.as_slice.result.now is c.requires.stored

pub returns : goal.returns
returns c =
    let is : c.as_slice.result.now ≡ in_order begins_before (placed_from 0 c.args.chunks.now) = search rules in
    runs_told c.put_sorted.result c.args.writer.now c.put_sorted.new.writer c.args.labels.now c.args.chunks.now c.as_slice.result.now is c.requires.stored c.put_sorted.ensures
