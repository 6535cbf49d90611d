use Rattle.std.proofs.Common.{arith, refl}
use Rattle.matchers.proofs.ReadLoops.{byte_more, byte_stops, bytes_end}
use Rattle.matchers.proofs.ReadTexts.{texts_of}
use Rattle.matchers.proofs.draft.read_draft.Goals as goal

pub returns-in_err-step-clause-gives : goal.returns-in_err-step-clause-gives
returns-in_err-step-clause-gives c = byte_stops (λ x. x) c.from_residual.result c.loop-place.draft c.loop-place.place c.args.text.now _ _ (omega (arith, c.loop-place-test.true)) refl c.loop-place.invariant c.from_residual.ensures.1 c.in_err-step.ensures

pub loop-place-preserved : goal.loop-place-preserved
loop-place-preserved c = byte_more c.loop-place.draft _ c.loop-place.place c.args.text.now _ (omega (arith, c.loop-place-test.true)) refl c.loop-place.invariant c.in_ok-step.ensures

pub returns-clause-gives : goal.returns-clause-gives
returns-clause-gives c = bytes_end (λ x. x) c.ended_draft.result c.loop-place.draft c.loop-place.place c.args.text.now (omega (arith, c.loop-place-test.false)) c.loop-place.invariant c.ended_draft.ensures (omega (arith, c.loop-place-test.false, c.loop-place.auto.place-end))

pub returns-clause-texts : goal.returns-clause-texts
returns-clause-texts c = texts_of c.ended_draft.result c.args.text.now
    (bytes_end (λ x. x) c.ended_draft.result c.loop-place.draft c.loop-place.place c.args.text.now (omega (arith, c.loop-place-test.false)) c.loop-place.invariant c.ended_draft.ensures (omega (arith, c.loop-place-test.false, c.loop-place.auto.place-end)))
    c.requires
