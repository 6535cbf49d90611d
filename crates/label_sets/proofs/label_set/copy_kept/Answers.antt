use Rattle.std.proofs.Common.{◌++◌, [], ◌∷◌, take, sym, ap, ◌∙◌, append-nil}
use Rattle.std.proofs.lemmas.List.{take_more}
use Rattle.label_sets.proofs.FinalLabels.{reduced-nil, reduced_more}
use Rattle.label_sets.proofs.label_set.copy_kept.Goals as goal
use Rattle.label_sets.proofs.label_set.copy_kept.Goals.{then-is_kept+in_ok-copy+in_ok-push, else-is_kept}

pub loop-label-init : goal.loop-label-init
loop-label-init c = sym (ap (λ ws. c.args.kept.now.items ++ ws) (reduced-nil _ _) ∙ append-nil c.args.kept.now.items)

pub loop-label-preserved : goal.loop-label-preserved
loop-label-preserved c =
    let done = take c.loop-label.label-index c.args.labels.now in
    let more = take_more _ _ _ c.loop-label-test.true ∙ ap (λ l. done ++ l ∷ []) (sym c.label-item.is) in
    elim c.if-is_kept.branch [
      | then-is_kept+in_ok-copy+in_ok-push w ↦ reduced_more _ _ _ _ _ _ _ _ _ c.loop-label.invariant more w.if-is_kept.ensures
          (ap (λ v. v.items) w.kept-is ∙ w.in_ok-push.ensures.items ∙ ap (λ l. c.loop-label.kept.items ++ l ∷ []) w.in_ok-copy.ensures)
      | else-is_kept w ↦ reduced_more _ _ _ _ _ _ _ _ _ c.loop-label.invariant more w.if-is_kept.ensures
          (ap (λ v. v.items) w.kept-is ∙ sym (append-nil c.loop-label.kept.items))
    ]
