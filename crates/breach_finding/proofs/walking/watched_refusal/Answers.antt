use Rattle.std.proofs.Common.{inl, inr, refl, sym}
use Rattle.breach_finding.specs.Entries.{IsWatchedTold}
use Rattle.breach_finding.specs.Judging.{IsLateTold}
use Rattle.breach_finding.proofs.Waits.{late_waits}
use Rattle.breach_finding.proofs.walking.watched_refusal.Goals as goal
use Rattle.base.proofs.Options.{if_ok}

pub returns-in-Some-clause-told : goal.returns-in-Some-clause-told
returns-in-Some-clause-told c kind =
    if_ok (IsLateTold c.args.script.now c.args.tables.now.lasts c.args.followed.now c.late_refusal.new.followed c.in-Some.gateway.now c.args.entry.now)
    (IsWatchedTold c.args.script.now c.args.tables.now c.args.followed.now c.late_refusal.new.followed c.args.entry.now)
    c.late_refusal.result c.late_refusal.ensures
    (λ told late. inr (record { gateway = c.in-Some.gateway.now; whose = sym c.in-Some.ensures.value; late = late }))

pub returns-in-Some-clause-waits : goal.returns-in-Some-clause-waits
returns-in-Some-clause-waits c =
    late_waits c.args.script.now c.args.tables.now.lasts c.args.followed.now c.late_refusal.new.followed c.in-Some.gateway.now c.args.entry.now
    c.late_refusal.result c.late_refusal.ensures c.requires.waits

pub returns-in-None-clause-told : goal.returns-in-None-clause-told
returns-in-None-clause-told c kind = inl (record { nobody = sym c.in-None.ensures.value; same = refl; none = refl })
