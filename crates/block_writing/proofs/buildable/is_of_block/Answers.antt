use Rattle.std.proofs.Common.{rules, ◌≡◌}
use Rattle.label_sets.proofs.TimesWithin.{within_told}
use Rattle.label_sets.specs.Times.{is_within}
use Rattle.block_writing.proofs.buildable.is_of_block.Goals as goal

pub returns : goal.returns
returns c =
    let told : c.is_within.result ≡ is_within c.args.plan.now.min_time c.args.plan.now.max_time c.args.sample.now = search rules in
    within_told _ _ c.args.sample.now _ told
