use Rattle.std.proofs.Common.{◌+◌, ◌*◌, ◌-◌, ◌++◌, refl, arith, rules, drop, ◌∙◌}
use Rattle.std.proofs.lemmas.List.{length-set}
use Rattle.label_sets.specs.SampleText.{pattern_text}
use Rattle.label_sets.proofs.Signs.{two_before, none_stand, all_stand}
use Rattle.label_sets.proofs.sample_text.write_pattern.Goals as goal

pub loop-pair-init : goal.loop-pair-init
loop-pair-init c = record { size = search rules; few = omega arith; whole = none_stand _ c.args.place c.args.field.now }

pub loop-pair-preserved : goal.loop-pair-preserved
loop-pair-preserved c =
    let l = c.loop-pair in
    let from = c.args.place in
    record {
      size = length-set _ _ _ ∙ (length-set l.field (from + 2 * (l.pair - 1) + 1) c.sign_pair-high.result.1 ∙ l.invariant.size);
      few = omega (arith, l.invariant.few);
      whole = two_before (pattern_text c.args.pattern ++ drop (from + 16) c.args.field.now) l.field from l.pair l.rest c.sign_pair-high.result.0 c.sign_pair-high.result.1 (from + 2 * (l.pair - 1)) (from + 2 * (l.pair - 1) + 1)
          c.loop-pair-test.true (omega (arith, l.invariant.size)) l.invariant.few refl refl c.sign_pair-high.ensures.high c.sign_pair-high.ensures.low l.invariant.whole;
    }

pub returns : goal.returns
returns c = all_stand _ _ _ _ _ c.loop-pair-test.false c.loop-pair.invariant.whole
