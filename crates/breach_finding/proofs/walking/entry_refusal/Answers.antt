use Rattle.std.proofs.Common.{inl, inr, ◌∙◌, ap}
use Rattle.breach_finding.specs.Judging.{first_of}
use Rattle.breach_finding.proofs.EntriesTold.{not_early, refused_early}
use Rattle.breach_finding.proofs.walking.entry_refusal.Goals as goal

pub returns-then-is_some-clause-told : goal.returns-then-is_some-clause-told
returns-then-is_some-clause-told c kind =
    inl (refused_early c.args.script.now c.args.journal.now c.args.followed.now.standing c.args.entry.now c.in_ok-early.early c.in_ok-early.ensures (cc (c.is_some.ensures, c.if-is_some.true)))

pub returns-clause-told : goal.returns-clause-told
returns-clause-told c kind = inr (record {
  early = not_early c.args.script.now c.args.journal.now c.args.followed.now.standing c.args.entry.now c.in_ok-early.early c.in_ok-early.ensures (cc (c.is_some.ensures, c.if-is_some.false));
  late = c.in_ok-late.late;
  watched = c.in_ok-late.ensures.told kind;
  slow = c.compaction_lateness-slow.result;
  slow_is = c.compaction_lateness-slow.ensures;
  answer = c.first_of.ensures ∙ ap (first_of c.in_ok-late.late) c.refusal_by.ensures;
})
