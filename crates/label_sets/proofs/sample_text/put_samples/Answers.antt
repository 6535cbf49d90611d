use Rattle.std.proofs.Common.{◌≡◌, length, refl, rules, ap, ◌++◌, ◌∙◌}
use Rattle.label_sets.proofs.SampleParts.{none_put, part_put, all_put, begun_kept, tail_whole}
use Rattle.label_sets.proofs.sample_text.put_samples.Goals as goal

pub loop-left-init : goal.loop-left-init
loop-left-init c = record { size = refl; so_far = none_put _ _ }

pub loop-left-preserved : goal.loop-left-preserved
loop-left-preserved c = record {
  size = c.write_samples-start.array_long;
  so_far = part_put _ _ _ _ _ _ _ _ c.loop-left.invariant.so_far c.split_at.ensures.front c.split_at.ensures.back
      (c.in_ok-extend_from_slice.ensures.items ∙ ap (λ t. c.loop-left.out.items ++ t) (tail_whole _ _ c.write_samples-start.array_long ∙ c.write_samples-start.ensures.written));
}

pub returns-clause-ok : goal.returns-clause-ok
returns-clause-ok c = let none : length c.loop-left.left.now ≡ 0 = search rules in all_put _ _ _ _ none c.loop-left.invariant.so_far

pub returns-clause-kept : goal.returns-clause-kept
returns-clause-kept c = begun_kept _ _ _ _ c.loop-left.invariant.so_far
