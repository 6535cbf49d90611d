use Rattle.std.proofs.Common.{Some, refl, sym, ◌∙◌, ap, subst}
use Rattle.world_core.specs.Asking.{IsAllAsked}
use Rattle.world_core.specs.Worlds.{IsJournal, IsOfBytes}
use Rattle.call_verdicts.specs.Noted.{met}
use Rattle.call_verdicts.proofs.BucketAsked.{run_asked}
use Rattle.call_verdicts.proofs.Noted.{noted_as, noted_world, short_by}
use Rattle.call_verdicts.proofs.ShelfReads.{none_at_hand}
use Rattle.replay_cli.proofs.DayRuns.{day_by, day_full_told, day_over, ends_over, never_failed, true_parts}
use Rattle.replay_cli.proofs.Runs.{kept_by, kept_of}
use Rattle.replay_cli.proofs.day.run_script.Goals as goal

pub do_in_line-came-requires-clause-at_hand : goal.do_in_line-came-requires-clause-at_hand
do_in_line-came-requires-clause-at_hand g c = none_at_hand c.args.script.now

pub verdict_on-verdict-requires-clause-kept : goal.verdict_on-verdict-requires-clause-kept
verdict_on-verdict-requires-clause-kept g c =
    let ticks = c.do_in_line-came.ensures.keeps.goes_on.tick ∙ c.requires.tick in
    let kept = kept_by _ c.args.script.now.rules.tick.ms c.do_in_line-came.result.2.world.journal ticks (kept_of c.world-world.result.now c.do_in_line-came.result.2.world c.world-world.ensures c.journal-journal.ensures.holds.journal) in
    subst (IsJournal c.args.script.now.rules.tick.ms) (sym (c.entries.ensures ∙ c.journal-journal.ensures.journal ∙ ap (λ w. w.journal) c.world-world.ensures)) kept

pub verdict_on-verdict-requires-clause-bytes : goal.verdict_on-verdict-requires-clause-bytes
verdict_on-verdict-requires-clause-bytes g c = subst IsOfBytes (sym (c.entries.ensures ∙ c.journal-journal.ensures.journal)) c.journal-journal.ensures.holds.bytes

pub of_hand-requires : goal.of_hand-requires
of_hand-requires g c = record { fresh = ap (λ w. w.journal) c.do_in_line-came.ensures.keeps.same ∙ c.requires.fresh }

pub returns-clause-came : goal.returns-clause-came
returns-clause-came g c =
    let ticks = c.do_in_line-came.ensures.keeps.goes_on.tick ∙ c.requires.tick in
    let kept = kept_by _ c.args.script.now.rules.tick.ms c.do_in_line-came.result.2.world.journal ticks (kept_of c.world-world.result.now c.do_in_line-came.result.2.world c.world-world.ensures c.journal-journal.ensures.holds.journal) in
    let bytes = subst IsOfBytes (ap (λ w. w.journal) c.world-world.ensures) c.journal-journal.ensures.holds.bytes in
    day_over c.args.script.now c.do_in_line-came.result.2.world.journal c.into_parts-note.result.1 c.verdict_on-verdict.result (c.into_parts-note.ensures.journal ∙ ap (λ w. w.journal) c.of_hand.ensures.world)
    (day_by c.args.script.now c.requires.lawful c.do_in_line-came.ensures.came.0 c.do_in_line-came.result.2.world.journal kept bytes c.do_in_line-came.result.1 c.do_in_line-came.result.0 c.verdict_on-verdict.result c.do_in_line-came.ensures.full c.do_in_line-came.ensures.came.1
    (ends_over c.args.script.now c.entries.result.now c.do_in_line-came.result.2.world.journal c.do_in_line-came.result.1 c.verdict_on-verdict.result (c.entries.ensures ∙ c.journal-journal.ensures.journal ∙ ap (λ w. w.journal) c.world-world.ensures) c.verdict_on-verdict.ensures.whole)
    c.verdict_on-verdict.ensures.full c.verdict_on-verdict.ensures.none)

pub returns-clause-back : goal.returns-clause-back
returns-clause-back g c = true_parts g.B.Bucket.told c.of_hand.result.world c.into_parts-note.result.1 c.into_parts-note.result.2 c.into_parts-note.ensures.journal c.into_parts-note.ensures.bucket c.into_parts-note.ensures.holds

pub returns-clause-unfailed : goal.returns-clause-unfailed
returns-clause-unfailed g c =
    never_failed g.B.Bucket.told c.args.world c.do_in_line-came.result.2.world c.into_parts-note.result.1 c.requires.fresh (c.into_parts-note.ensures.journal ∙ ap (λ w. w.journal) c.of_hand.ensures.world) c.do_in_line-came.ensures.keeps.goes_on

pub returns-clause-noted : goal.returns-clause-noted
returns-clause-noted g c =
    let hand = c.do_in_line-came.result.2 in
    let v = c.verdict_on-verdict.result in
    noted_as met g.B.Bucket.told v v c.of_hand.result.world (Some c.into_parts-note.result.1) (Some c.into_parts-note.result.2) c.of_hand.result.note c.into_parts-note.result.0
    refl (ap (λ j. Some j) c.into_parts-note.ensures.journal) (ap (λ b. Some b) c.into_parts-note.ensures.bucket) c.into_parts-note.ensures.note
    (noted_world met g.B.Bucket.told v c.of_hand.result.world hand.refused hand.wanted c.of_hand.result.note c.of_hand.ensures.note
    (c.do_in_line-came.ensures.refused ∙ day_full_told c.args.script.now c.entries.result.now c.do_in_line-came.result.1 c.do_in_line-came.result.0 v c.verdict_on-verdict.ensures.whole c.verdict_on-verdict.ensures.full c.verdict_on-verdict.ensures.none)
    (short_by hand.wanted v (λ so. c.verdict_on-verdict.ensures.none (c.do_in_line-came.ensures.wanted so)))
    (λ never. run_asked g.B.Bucket.told c.args.world c.of_hand.result.world c.requires.fresh c.requires.asked
    (λ before was. subst (IsAllAsked g.B.Bucket.told before) (sym c.of_hand.ensures.world) (c.do_in_line-came.ensures.keeps.asks.all never before was))))
