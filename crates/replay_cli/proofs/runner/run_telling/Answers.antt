use Rattle.std.proofs.Common.{inr, List, Some, refl, sym, ◌∙◌, ap, subst}
use Rattle.world_core.specs.Asking.{IsAllAsked}
use Rattle.world_core.specs.Worlds.{IsJournal, IsOfBytes, failed_count}
use Rattle.world_core.specs.declared.entry.Entry.{Entry}
use Rattle.phase_runner.specs.Passes.{view_of}
use Rattle.call_verdicts.specs.script_running.specs.Shelves.{setting_by}
use Rattle.call_verdicts.specs.script_running.specs.Beside.{HasRunBeside}
use Rattle.call_verdicts.specs.declared.verdict.Verdict.TheVariants as verdict
use Rattle.call_verdicts.specs.Asked.{calls_asked, WasAsked, for_opening}
use Rattle.call_verdicts.specs.Noted.{met_alone}
use Rattle.call_verdicts.proofs.BucketAsked.{run_asked}
use Rattle.call_verdicts.proofs.Noted.{noted_world, unnoted, unwanted_by}
use Rattle.replay_cli.proofs.Runs.{ends_over, full_told}
use Rattle.replay_cli.proofs.RunsBeside.{beside_told, none_beside, told_by}
use Rattle.call_verdicts.specs.report_lines.proofs.ToldLines.{no_lines}
use Rattle.replay_cli.proofs.Wanted.{alone_told, short_told, told_as}
use Rattle.replay_cli.proofs.runner.run_telling.Goals as goal

pub run_beside-requires-clause-untold : goal.run_beside-requires-clause-untold
run_beside-requires-clause-untold g c = λ κs lives. no_lines c.new-report.result.lines c.args.script.now c.new-report.ensures

pub verdict_of-verdict-requires-clause-bytes : goal.verdict_of-verdict-requires-clause-bytes
verdict_of-verdict-requires-clause-bytes g c = subst IsOfBytes (sym (c.entries.ensures ∙ c.journal-journal.ensures.journal)) c.journal-journal.ensures.holds.bytes

pub verdict_of-verdict-requires-clause-kept : goal.verdict_of-verdict-requires-clause-kept
verdict_of-verdict-requires-clause-kept g c = subst (IsJournal c.args.script.now.rules.tick.ms) (sym (c.entries.ensures ∙ c.journal-journal.ensures.journal ∙ ap (λ w. w.journal) c.world-world.ensures)) ((c.in-Ok.ensures.ran.1).run).kept

pub returns-in-Ok : goal.returns-in-Ok
returns-in-Ok g c =
    let known = view_of c.in-Ok.closed.root.value in
    let v = c.verdict_of-verdict.result in
    let came = c.with_wanted-came.result in
    let world = c.of_closed.result.world in
    let over = c.of_closed.ensures.world in
    let is = told_as c.wanted_memory.result known.wanted c.in-Ok.end.came came c.wanted_memory.ensures c.with_wanted-came.ensures in
    let short = short_told known.wanted c.in-Ok.end.came came v is c.verdict_of-verdict.ensures.none in
    let bytes = subst IsOfBytes (ap (λ w. w.journal) (c.world-world.ensures ∙ sym over)) c.journal-journal.ensures.holds.bytes in
    record {
      cause = beside_told (setting_by c.args.script.now c.args.shelf.now) c.requires.may.lawful world.journal bytes c.in-Ok.ensures.ran.0 c.in-Ok.end.report.lines known.wanted c.in-Ok.end.came came v is
          (told_by (λ report. report.lines) c.args.script.now c.in-Ok.end.report c.in-Ok.ensures.ran.0 c.in-Ok.end.came c.in-Ok.ensures.ran.2)
          (subst (λ (es : List Entry). HasRunBeside (setting_by c.args.script.now c.args.shelf.now) es c.in-Ok.ensures.ran.0 c.in-Ok.end.came) (sym (ap (λ w. w.journal) over)) c.in-Ok.ensures.ran.1)
          (ends_over c.args.script.now c.entries.result.now world.journal c.in-Ok.end.report.lines v (c.entries.ensures ∙ c.journal-journal.ensures.journal ∙ ap (λ w. w.journal) c.world-world.ensures ∙ sym (ap (λ w. w.journal) over)) c.verdict_of-verdict.ensures.whole)
          c.verdict_of-verdict.ensures.full c.verdict_of-verdict.ensures.none;
      unfailed = λ none. ap (λ w. (g.B.Bucket.told w.bucket).faults) over ∙ c.in-Ok.ensures.unfailed (sym (ap (λ w. failed_count w.journal) over) ∙ none);
      all = λ never before was. subst (IsAllAsked g.B.Bucket.told before) (sym over) (c.in-Ok.ensures.all (unwanted_by known.wanted v never short) before was);
      noted = noted_world met_alone g.B.Bucket.told v world known.refused known.wanted c.of_closed.result.note c.of_closed.ensures.note
          (alone_told known.refused known.wanted c.in-Ok.end.came came v c.in-Ok.ensures.refused is (full_told c.args.script.now c.entries.result.now c.in-Ok.end.report.lines came v c.verdict_of-verdict.ensures.whole c.verdict_of-verdict.ensures.full c.verdict_of-verdict.ensures.none))
          short
          (λ never. run_asked g.B.Bucket.told c.args.world world c.requires.may.fresh c.requires.may.asked (λ before was. subst (IsAllAsked g.B.Bucket.told before) (sym over) (c.in-Ok.ensures.all never before was)));
    }

-- ---- nothing was begun

pub unbegun-requires : goal.unbegun-requires
unbegun-requires g c = record { fresh = ap (λ w. w.journal) c.in-Err.ensures.unbegun ∙ c.requires.may.fresh }

pub returns-in-Err : goal.returns-in-Err
returns-in-Err g c =
    let same = c.unbegun.ensures.world ∙ c.in-Err.ensures.unbegun in
    let none = ap (λ w. w.journal) same ∙ c.requires.may.fresh in
    record {
      cause = none_beside (setting_by c.args.script.now c.args.shelf.now) c.unbegun.result.world.journal none;
      unfailed = λ _. ap (λ w. (g.B.Bucket.told w.bucket).faults) same;
      all = λ never before was. absurd (never refl);
      noted = unnoted met_alone g.B.Bucket.told verdict.NoMemory (Some c.unbegun.result.world.journal) (Some c.unbegun.result.world.bucket) c.unbegun.result.note c.unbegun.ensures.note none refl
          (inr (subst (WasAsked (calls_asked g.B.Bucket.told) for_opening) (sym (ap (λ w. w.bucket) same)) c.requires.may.asked));
    }
