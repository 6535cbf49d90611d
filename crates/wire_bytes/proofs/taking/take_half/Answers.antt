use Rattle.std.proofs.Common.{refl, sym, ◌∙◌}
use Rattle.wire_bytes.proofs.Crossings.{lacks, never_short}
use Rattle.wire_bytes.proofs.taking.take_half.Goals as goal

pub returns-then-count-need-clause-short : goal.returns-then-count-need-clause-short
returns-then-count-need-clause-short c =
    let r = c.refill_word-word in
    (λ _. lacks r.result.0 r.result.1 c.args.need r.result.2.now _ r.ensures.same r.ensures.ready c.if-count-need.true, λ _. refl)

pub returns-clause-short : goal.returns-clause-short
returns-clause-short c =
    let r = c.refill_word-word in
    never_short _ _ _ _ (sym r.ensures.same ∙ c.take_waiting.ensures.taken)
