use Rattle.std.proofs.Common.{sym, inl, inr, rules}
use Rattle.vertical_merge.proofs.TimesMerged.{one_more, other_more, both_more, all_put}
use Rattle.vertical_merge.proofs.sample_merge.with_merged.Goals as goal
use Rattle.vertical_merge.proofs.sample_merge.with_merged.Goals.{then-loop-here-test+else-there-others, else-loop-here-test}

pub loop-here-preserved-then-is_before : goal.loop-here-preserved-then-is_before
loop-here-preserved-then-is_before c = (
  search rules,
  c.loop-here.invariant.1,
  one_more _ _ _ _ _ _ _ _ _ c.requires.ascend c.requires.others
      c.loop-here-test.true c.if-there-others.true (sym c.if-is_before.ensures) c.in_ok-push.ensures.items c.loop-here.invariant.2,
)

pub loop-here-preserved-then-is_before-2 : goal.loop-here-preserved-then-is_before-2
loop-here-preserved-then-is_before-2 c = (
  c.loop-here.invariant.0,
  search rules,
  other_more _ _ _ _ _ _ _ _ _ c.requires.ascend c.requires.others
      c.loop-here-test.true c.if-there-others.true (sym c.if-is_before-2.ensures) c.in_ok-push-2.ensures.items c.loop-here.invariant.2,
)

pub loop-here-preserved : goal.loop-here-preserved
loop-here-preserved c = (
  search rules,
  search rules,
  both_more _ _ _ _ _ _ _ _ _ c.requires.ascend c.requires.others
      c.loop-here-test.true c.if-there-others.true (sym c.if-is_before.ensures) (sym c.if-is_before-2.ensures) c.in_ok-push-3.ensures.items c.loop-here.invariant.2,
)

pub returns : goal.returns
returns c = all_put _ _ _ _ _ _ _ _ c.requires.ascend c.requires.others
    (elim c.loop-here-test.branch [
      | then-loop-here-test+else-there-others w ↦ inr w.if-there-others.false
      | else-loop-here-test w ↦ inl w.loop-here-test.false
    ])
    c.in_ok-extend_from_slice.ensures.items c.in_ok-extend_from_slice-2.ensures.items c.loop-here.invariant.2
