use Rattle.std.proofs.Common.{arith}
use Rattle.matchers.proofs.Built.{text_there, made_more, lawful_more, unbuilt_there}
use Rattle.matchers.proofs.building.push_matchers.Goals as goal

pub build_matcher-requires-clause-name : goal.build_matcher-requires-clause-name
build_matcher-requires-clause-name c = (text_there c.args.listed.now c.loop-asked.asked-index c.asked-item.result c.requires (omega (arith, c.loop-asked-test.true)) c.asked-item.is).0

pub build_matcher-requires-clause-value : goal.build_matcher-requires-clause-value
build_matcher-requires-clause-value c = (text_there c.args.listed.now c.loop-asked.asked-index c.asked-item.result c.requires (omega (arith, c.loop-asked-test.true)) c.asked-item.is).1

pub returns-in_err-matcher-clause-refused : goal.returns-in_err-matcher-clause-refused
returns-in_err-matcher-clause-refused c =
    unbuilt_there c.from_residual.result c.in_err-matcher.field-0.0 c.args.listed.now c.loop-asked.asked-index c.asked-item.result c.from_residual.ensures.1 c.in_err-matcher.ensures.refused
    c.loop-asked.invariant.lawful (omega (arith, c.loop-asked-test.true)) c.asked-item.is

pub loop-asked-preserved : goal.loop-asked-preserved
loop-asked-preserved c = record {
  made = made_more _ c.loop-asked.matchers.items _ c.args.listed.now c.loop-asked.asked-index c.asked-item.result c.in_ok-matcher.matcher c.in_ok-push.ensures.items c.loop-asked.invariant.made c.in_ok-matcher.ensures.value
      (omega (arith, c.loop-asked-test.true)) c.asked-item.is;
  lawful = lawful_more c.args.listed.now c.loop-asked.asked-index c.asked-item.result c.in_ok-matcher.matcher c.loop-asked.invariant.lawful c.in_ok-matcher.ensures.lawful c.in_ok-matcher.ensures.value
      (omega (arith, c.loop-asked-test.true)) c.asked-item.is;
}
