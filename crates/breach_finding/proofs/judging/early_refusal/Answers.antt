use Rattle.lifecycle_core.specs.Breaches.{Refuses}
use Rattle.breach_finding.proofs.Judged.{early_three, early_two}
use Rattle.breach_finding.proofs.judging.early_refusal.Goals as goal

pub returns-then-is_some-2 : goal.returns-then-is_some-2
returns-then-is_some-2 c setting all before same held =
    early_two (λ rule. Refuses setting all rule before c.args.entry.now) c.in_ok-lie.field-0 c.refusal_by-lied.result (c.in_ok-lie.ensures before held) c.refusal_by-lied.ensures (cc (c.is_some.ensures, c.if-is_some.false))
    c.upload_breach.result c.refusal_by-untimely.result (c.upload_breach.ensures setting all before same) c.refusal_by-untimely.ensures (cc (c.is_some-2.ensures, c.if-is_some-2.true))

pub returns : goal.returns
returns c setting all before same held =
    early_three (λ rule. Refuses setting all rule before c.args.entry.now) c.in_ok-lie.field-0 c.refusal_by-lied.result (c.in_ok-lie.ensures before held) c.refusal_by-lied.ensures (cc (c.is_some.ensures, c.if-is_some.false))
    c.upload_breach.result c.refusal_by-untimely.result (c.upload_breach.ensures setting all before same) c.refusal_by-untimely.ensures (cc (c.is_some-2.ensures, c.if-is_some-2.false))
    c.in_ok-late.late c.refusal_by.result (c.in_ok-late.ensures setting all before same) c.refusal_by.ensures
