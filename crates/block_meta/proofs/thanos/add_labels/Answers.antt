use Rattle.std.proofs.Common.{rules, ◌∙◌}
use Rattle.block_meta.proofs.LabelMembers.{labels_done, labels_step, labels_stop}
use Rattle.block_meta.proofs.thanos.add_labels.Goals as goal

pub loop-name-preserved : goal.loop-name-preserved
loop-name-preserved c =
    c.loop-name.invariant ∙ labels_step _ _ _ _ _ _ c.in-Some.ensures.steps (search rules) _ c.in_ok-add_label.ensures

pub returns-in_err-add_label : goal.returns-in_err-add_label
returns-in_err-add_label c =
    let h = labels_stop _ _ _ _ _ _ c.in-Some.ensures.steps (search rules) _ c.in_err-add_label.ensures in
    rw c.loop-name.invariant (search rules)

pub returns : goal.returns
returns c = c.loop-name.invariant ∙ labels_done _ _ c.in-None.ensures.steps.0
