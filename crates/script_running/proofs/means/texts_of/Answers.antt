use Rattle.std.proofs.Common.{arith}
use Rattle.script_running.proofs.Texts.{all_kept, none_kept, one_kept}
use Rattle.script_running.proofs.means.texts_of.Goals as goal

pub loop-selector-init : goal.loop-selector-init
loop-selector-init c = none_kept c.new-texts.result c.new-texts.ensures

pub loop-selector-preserved : goal.loop-selector-preserved
loop-selector-preserved c =
    one_kept c.args.selectors.now c.loop-selector.selector-index c.selector-item.result c.loop-selector.texts c.push.new.self c.text.result.now c.in_ok-own.own c.loop-selector-test.true c.selector-item.is c.text.ensures c.in_ok-own.ensures
    c.in_ok-push.ensures.ok c.loop-selector.invariant

pub returns : goal.returns
returns c = all_kept c.args.selectors.now c.loop-selector.selector-index c.loop-selector.texts (omega (arith, c.loop-selector-test.false)) c.loop-selector.invariant
