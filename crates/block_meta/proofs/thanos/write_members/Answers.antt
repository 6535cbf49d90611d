use Rattle.std.proofs.Common.{rules, ◌≡◌, ◌<◌, length, get_or, arith}
use Rattle.block_meta.proofs.LabelMembers.{members_none, members_more}
use Rattle.block_meta.proofs.thanos.write_members.Goals as goal

pub loop-label-init : goal.loop-label-init
loop-label-init c = rw c.new-members.ensures.empty members_none

pub loop-label-preserved : goal.loop-label-preserved
loop-label-preserved c =
    let ls = c.args.labels.now in
    let i = c.loop-label.label-index in
    let l = c.label-item.result in
    let lt : i < length ls = omega arith in
    let at : l ≡ get_or ls i l = search rules in
    members_more _ i l _ _ c.in_ok-value.value c.requires lt at c.loop-label.invariant (search rules) (search rules)
