use Rattle.std.proofs.Common.{map, subst, sym}
use Rattle.block_writing.specs.Built.{AreOfBlock, BeginAfter}
use Rattle.block_merging.specs.Steps.{IsReadable}
use Rattle.block_merging.specs.Placed.{placed_chunk}
use Rattle.block_merging.proofs.Putting.{all_readable}
use Rattle.block_merging.proofs.Merged.{in_run, samples_some, kept_of_block, kept_after, merged_told}
use Rattle.block_merging.proofs.series_merge.put_merged.Goals as goal

pub run_samples-requires : goal.run_samples-requires
run_samples-requires c = in_run IsReadable c.args.run.now (all_readable c.args.writer.now.plan (map placed_chunk c.args.run.now) c.requires.stored)

pub first_of_each-requires : goal.first_of_each-requires
first_of_each-requires c = samples_some c.args.writer.now.plan c.args.run.now c.in_ok-samples.samples.items c.requires.many c.requires.stored c.in_ok-samples.ensures

pub put_parts-requires-clause-samples : goal.put_parts-requires-clause-samples
put_parts-requires-clause-samples c =
    subst (AreOfBlock c.args.writer.now.plan) (sym c.members.ensures)
    (kept_of_block c.args.writer.now.plan c.args.labels.now c.args.run.now c.in_ok-samples.samples.items c.in_ok-kept.kept c.requires.stored c.in_ok-samples.ensures c.in_ok-kept.ensures)

pub put_parts-requires-clause-after : goal.put_parts-requires-clause-after
put_parts-requires-clause-after c =
    subst (BeginAfter c.args.writer.now.chunks) (sym c.members.ensures)
    (kept_after c.args.writer.now.plan c.args.writer.now.chunks c.args.labels.now c.args.run.now c.in_ok-samples.samples.items c.in_ok-kept.kept c.requires.stored c.requires.after c.in_ok-samples.ensures c.in_ok-kept.ensures)

pub returns : goal.returns
returns c =
    merged_told c.put_parts.result c.args.writer.now c.put_parts.new.writer c.args.labels.now c.args.run.now c.in_ok-samples.samples.items c.members.result.now c.in_ok-kept.kept c.requires.many c.requires.stored c.in_ok-samples.ensures c.in_ok-kept.ensures
    c.members.ensures c.put_parts.ensures.ok
