use Rattle.std.proofs.Common.{List, refl, ap, get_or, map, arith, ◌∙◌}
use Rattle.std.proofs.lemmas.List.{length-map, take_all}
use Rattle.label_sets.specs.Finals.{reduced_of}
use Rattle.label_sets.specs.declared.label.Label.{Label}
use Rattle.index_v2.specs.LentLabels.{as_label}
use Rattle.block_merging.proofs.LentOrder.{no_label_kept, lent_kept, lent_left_out}
use Rattle.block_merging.proofs.lent_labels.reduced_lent.Goals as goal
use Rattle.block_merging.proofs.lent_labels.reduced_lent.Goals.{then-is_kept+in_ok-push, else-is_kept}

pub loop-label-init : goal.loop-label-init
loop-label-init c = no_label_kept (map as_label c.args.labels.now) c.in_ok-kept.kept.items c.args.external.now c.args.replicas.now c.in_ok-kept.ensures.items

pub loop-label-preserved : goal.loop-label-preserved
loop-label-preserved c =
    elim c.if-is_kept.branch [
      | then-is_kept+in_ok-push w ↦ lent_kept c.args.labels.now c.loop-label.kept.items _ c.loop-label.label-index (get_or c.args.labels.now c.loop-label.label-index _) _ c.args.external.now c.args.replicas.now c.loop-label-test.true refl c.loop-label.invariant w.if-is_kept.ensures (ap (λ v. v.items) w.kept-is ∙ w.in_ok-push.ensures.items)
      | else-is_kept w ↦ lent_left_out c.args.labels.now c.loop-label.kept.items _ c.loop-label.label-index (get_or c.args.labels.now c.loop-label.label-index _) _ c.args.external.now c.args.replicas.now c.loop-label-test.true refl c.loop-label.invariant w.if-is_kept.ensures (ap (λ v. v.items) w.kept-is)
    ]

pub returns : goal.returns
returns c = c.loop-label.invariant ∙ ap (λ (l : List Label). reduced_of l c.args.external.now c.args.replicas.now) (take_all c.loop-label.label-index (map as_label c.args.labels.now) (omega (arith, length-map c.args.labels.now as_label)))
