use Rattle.std.proofs.Common.{Some, sym, ◌∙◌, ap, subst}
use Rattle.world_core.specs.Asking.{IsAllAsked}
use Rattle.world_core.specs.Worlds.{IsJournal, IsOfBytes, failed_count}
use Rattle.call_verdicts.specs.script_running.specs.Shelves.{setting_by}
use Rattle.call_verdicts.specs.Noted.{met}
use Rattle.call_verdicts.proofs.BucketAsked.{run_asked}
use Rattle.call_verdicts.proofs.Noted.{noted_world, short_by, unwanted_by}
use Rattle.call_verdicts.proofs.Unfailed.{unfailed_run}
use Rattle.replay_cli.proofs.Runs.{ends_over, full_told, kept_by, kept_of, run_told}
use Rattle.replay_cli.proofs.runner.run_in_line.Goals as goal

pub do_in_line-came-requires-clause-lawful : goal.do_in_line-came-requires-clause-lawful
do_in_line-came-requires-clause-lawful g c = c.requires.lawful

pub do_in_line-came-requires-clause-at_hand : goal.do_in_line-came-requires-clause-at_hand
do_in_line-came-requires-clause-at_hand g c = c.requires.at_hand

pub do_in_line-came-requires-clause-fresh : goal.do_in_line-came-requires-clause-fresh
do_in_line-came-requires-clause-fresh g c = c.requires.fresh

pub verdict_of-verdict-requires-clause-lawful : goal.verdict_of-verdict-requires-clause-lawful
verdict_of-verdict-requires-clause-lawful g c = c.requires.lawful

pub verdict_of-verdict-requires-clause-kept : goal.verdict_of-verdict-requires-clause-kept
verdict_of-verdict-requires-clause-kept g c =
    let ticks = c.do_in_line-came.ensures.keeps.goes_on.tick ∙ c.requires.tick in
    let kept = kept_by _ c.args.script.now.rules.tick.ms c.do_in_line-came.result.2.world.journal ticks (kept_of c.world-world.result.now c.do_in_line-came.result.2.world c.world-world.ensures c.journal-journal.ensures.holds.journal) in
    subst (IsJournal c.args.script.now.rules.tick.ms) (sym (c.entries.ensures ∙ c.journal-journal.ensures.journal ∙ ap (λ w. w.journal) c.world-world.ensures)) kept

pub verdict_of-verdict-requires-clause-bytes : goal.verdict_of-verdict-requires-clause-bytes
verdict_of-verdict-requires-clause-bytes g c = subst IsOfBytes (sym (c.entries.ensures ∙ c.journal-journal.ensures.journal)) c.journal-journal.ensures.holds.bytes

pub of_hand-requires : goal.of_hand-requires
of_hand-requires g c = record { fresh = ap (λ w. w.journal) c.do_in_line-came.ensures.keeps.same ∙ c.requires.fresh }

pub returns : goal.returns
returns g c =
    let hand = c.do_in_line-came.result.2 in
    let v = c.verdict_of-verdict.result in
    let world = c.of_hand.result.world in
    let over = c.of_hand.ensures.world in
    let ticks = c.do_in_line-came.ensures.keeps.goes_on.tick ∙ c.requires.tick in
    let kept = kept_by _ c.args.script.now.rules.tick.ms c.do_in_line-came.result.2.world.journal ticks (kept_of c.world-world.result.now c.do_in_line-came.result.2.world c.world-world.ensures c.journal-journal.ensures.holds.journal) in
    let bytes = subst IsOfBytes (ap (λ w. w.journal) c.world-world.ensures) c.journal-journal.ensures.holds.bytes in
    let asks = c.do_in_line-came.ensures.keeps.asks.all in
    record {
      cause = run_told (setting_by c.args.script.now c.args.shelf.now) c.do_in_line-came.ensures.came.0 c.do_in_line-came.result.2.world.journal c.do_in_line-came.result.1 c.do_in_line-came.result.0 v (Some world.journal)
          (ap (λ w. Some w.journal) over) c.requires.lawful kept bytes c.do_in_line-came.ensures.full c.do_in_line-came.ensures.came.1
          (ends_over c.args.script.now c.entries.result.now c.do_in_line-came.result.2.world.journal c.do_in_line-came.result.1 v (c.entries.ensures ∙ c.journal-journal.ensures.journal ∙ ap (λ w. w.journal) c.world-world.ensures) c.verdict_of-verdict.ensures.whole)
          c.verdict_of-verdict.ensures.full c.verdict_of-verdict.ensures.none;
      unfailed = λ none. ap (λ w. (g.B.Bucket.told w.bucket).faults) over
          ∙ unfailed_run g.B.Bucket.told c.args.world c.do_in_line-came.result.2.world c.requires.fresh c.do_in_line-came.ensures.keeps.goes_on (sym (ap (λ w. failed_count w.journal) over) ∙ none);
      all = λ never before was. subst (IsAllAsked g.B.Bucket.told before) (sym over)
          (asks (unwanted_by hand.wanted v never (λ so. c.verdict_of-verdict.ensures.none (c.do_in_line-came.ensures.wanted so))) before was);
      noted = noted_world met g.B.Bucket.told v world hand.refused hand.wanted c.of_hand.result.note c.of_hand.ensures.note
          (c.do_in_line-came.ensures.refused ∙ full_told c.args.script.now c.entries.result.now c.do_in_line-came.result.1 c.do_in_line-came.result.0 v c.verdict_of-verdict.ensures.whole c.verdict_of-verdict.ensures.full c.verdict_of-verdict.ensures.none)
          (short_by hand.wanted v (λ so. c.verdict_of-verdict.ensures.none (c.do_in_line-came.ensures.wanted so)))
          (λ never. run_asked g.B.Bucket.told c.args.world world c.requires.fresh c.requires.asked (λ before was. subst (IsAllAsked g.B.Bucket.told before) (sym over) (asks never before was)));
    }
