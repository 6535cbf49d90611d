use Rattle.std.proofs.Common.{◌<◌, length, slice_index_or, slice_set, sym, subst, ◌∙◌, arith, below_more}
use Rattle.std.proofs.lemmas.List.{get_or-set_same, get_or-set_other, get_or_default}
use Rattle.call_verdicts.specs.Stages.{IsCheckedAs}
use Rattle.call_verdicts.specs.declared.check_way.Stage.{Stage}
use Rattle.call_verdicts.proofs.check_way.check_in_turn.Goals as goal

pub loop-place-preserved : goal.loop-place-preserved
loop-place-preserved c =
    let k = c.loop-place.place in
    let xs = c.args.stages.now in
    let ys = c.loop-place.stages in
    let y = c.check.new.self in
    let l : k < length ys = omega arith in (
      λ j d h. get_or-set_other ys k j y d (λ e. omega arith) ∙ c.loop-place.invariant.0 j d (omega arith),
      λ j d h. below_more (λ i. IsCheckedAs (slice_index_or xs i d) (slice_index_or (slice_set ys k y) i d)) k
          (λ i u. subst (λ (s : Stage). IsCheckedAs (slice_index_or xs i d) s) (sym (get_or-set_other ys k i y d (λ e. omega arith))) (c.loop-place.invariant.1 i d u))
          (subst (λ (s : Stage). IsCheckedAs (slice_index_or xs k d) s) (sym (get_or-set_same ys k y d l))
          (subst (λ (s : Stage). IsCheckedAs s y) (get_or_default ys k _ d l ∙ c.loop-place.invariant.0 k d (omega arith)) c.check.ensures))
          j h,
    )
