use Rattle.std.proofs.Common.{◌≡◌, ◌<◌, length, rules, subst, sym}
use Rattle.std.specs.Prelude.{min}
use Rattle.std.specs.List.{AllByRecursion}
use Rattle.label_sets.specs.Times.{IsWithin}
use Rattle.xor_chunks.specs.Written.{AreOfChunk}
use Rattle.block_writing.proofs.Parts.{none_yet, of_chunk, part_within, part_more, all_parts, front_put}
use Rattle.block_writing.proofs.builder.put_parts.Goals as goal

pub loop-left-init : goal.loop-left-init
loop-left-init c = none_yet c.args.writer.now c.args.samples.now c.requires.samples c.requires.after c.requires.counted

pub put_part-requires-clause-fits : goal.put_part-requires-clause-fits
put_part-requires-clause-fits c =
    let some : 0 < length c.loop-left.left.now = search rules in
    let few : c.min.result ≡ min (length c.loop-left.left.now) 120 = search rules in
    subst AreOfChunk (sym c.split_at.ensures.front) (of_chunk c.args.writer.now c.args.samples.now c.loop-left.left.now c.loop-left.writer c.min.result c.requires.times c.loop-left.invariant some few)

pub put_part-requires-clause-within : goal.put_part-requires-clause-within
put_part-requires-clause-within c =
    subst (AllByRecursion (IsWithin c.loop-left.writer.plan.min_time c.loop-left.writer.plan.max_time)) (sym c.split_at.ensures.front) (part_within c.args.writer.now c.args.samples.now c.loop-left.left.now c.loop-left.writer c.min.result c.loop-left.invariant)

pub loop-left-preserved : goal.loop-left-preserved
loop-left-preserved c =
    let some : 0 < length c.loop-left.left.now = search rules in
    let few : c.min.result ≡ min (length c.loop-left.left.now) 120 = search rules in
    part_more c.args.writer.now c.args.samples.now c.loop-left.left.now c.split_at.result.0.now c.split_at.result.1.now c.loop-left.writer c.put_part.new.writer c.min.result c.loop-left.invariant some few c.split_at.ensures.front c.split_at.ensures.back c.in_ok-put_part.ensures.ok

pub returns-clause-ok : goal.returns-clause-ok
returns-clause-ok c =
    let none : length c.loop-left.left.now ≡ 0 = search rules in
    all_parts c.args.writer.now c.args.samples.now c.loop-left.left.now c.loop-left.writer c.requires.samples c.loop-left.invariant none

pub returns-in_err-put_part-clause-err : goal.returns-in_err-put_part-clause-err
returns-in_err-put_part-clause-err c = front_put c.from_residual.result c.args.writer.now c.args.samples.now c.loop-left.left.now c.loop-left.writer c.put_part.new.writer c.loop-left.invariant c.in_err-put_part.ensures.err
