use Rattle.std.proofs.Common.{[], ◌||◌, ap, ◌∙◌, subst}
use Rattle.report_lines.specs.script_running.specs.Tasks.{is_full_came}
use Rattle.report_lines.specs.script_running.specs.Shelves.{setting_by}
use Rattle.report_lines.specs.script_running.specs.declared.shelf.ShelfBlock.{ShelfBlock}
use Rattle.line_running.specs.Progress.{RunCame}
use Rattle.line_running.proofs.Turns.{kept_since, kept_still, wanted_by}
use Rattle.line_running.proofs.PhaseLists.{no_run, no_seats, reached_none}
use Rattle.line_running.proofs.in_line.do_in_line.Goals as goal
use Rattle.std.specs.Prelude.{List}

pub returns-in_default-clause-came : goal.returns-in_default-clause-came
returns-in_default-clause-came g c = ([], (0, no_run g.R.Report.tells (setting_by c.args.script.now c.args.shelf.now) c.new-hand.result.world.journal c.empty.result (ap (λ w. w.journal) c.new-hand.ensures.world ∙ c.requires.fresh) (c.empty.ensures c.args.script.now)))

pub returns-in_default-new-clause-came : goal.returns-in_default-new-clause-came
returns-in_default-new-clause-came g c = ([], (0, no_run g.R.Report.tells (setting_by c.args.script.now c.args.shelf.now) c.new-hand.result.world.journal c.empty-in_default-new.result (ap (λ w. w.journal) c.new-hand.ensures.world ∙ c.requires.fresh) (c.empty-in_default-new.ensures c.args.script.now)))

pub returns-in_default-clause-keeps : goal.returns-in_default-clause-keeps
returns-in_default-clause-keeps g c = kept_still g.B.Bucket.told c.args.world c.new-hand.result.world c.new-hand.result.opened.value c.new-hand.result.wanted c.new-hand.ensures.world c.new-hand.ensures.opened c.new-hand.ensures.wanted

pub returns-in_default-new-clause-keeps : goal.returns-in_default-new-clause-keeps
returns-in_default-new-clause-keeps g c = kept_still g.B.Bucket.told c.args.world c.new-hand.result.world c.new-hand.result.opened.value c.new-hand.result.wanted c.new-hand.ensures.world c.new-hand.ensures.opened c.new-hand.ensures.wanted

pub run_phases-came-requires-clause-workers : goal.run_phases-came-requires-clause-workers
run_phases-came-requires-clause-workers g c = no_seats (setting_by c.args.script.now c.lend-means.result.shelf) c.in-Ok-new.progress.workers c.in-Ok-new.ensures.workers

pub run_phases-came-requires-clause-reached : goal.run_phases-came-requires-clause-reached
run_phases-came-requires-clause-reached g c =
    reached_none g.R.Report.tells (setting_by c.args.script.now c.lend-means.result.shelf) c.in-Ok-new.progress.gateways.items c.new-gated.result.world.journal c.in-Ok-new.progress.report c.in-Ok-new.ensures.unseen
    (ap (λ h. h.world.journal) c.new-gated.ensures ∙ ap (λ w. w.journal) c.new-hand.ensures.world ∙ c.requires.fresh) c.in-Ok-new.ensures.empty

pub returns-clause-came : goal.returns-clause-came
returns-clause-came g c = (
  c.run_phases-came.new.progress.gateways.items,
  rw c.into_hand.ensures (rw c.into_report.ensures (subst (λ (s : List ShelfBlock). RunCame g.R.Report.tells (setting_by c.args.script.now s) c.run_phases-came.new.progress.gateways.items c.run_phases-came.new.hand.world.journal c.run_phases-came.new.progress.report c.run_phases-came.result) c.lend-means.ensures.shelf c.run_phases-came.ensures.came)),
)

pub returns-clause-keeps : goal.returns-clause-keeps
returns-clause-keeps g c = rw c.into_hand.ensures
    (kept_since g.B.Bucket.told c.args.world c.new-gated.result.world c.new-gated.result.opened.value c.run_phases-came.new.hand.opened.value c.new-gated.result.wanted c.run_phases-came.new.hand.wanted c.run_phases-came.new.hand.world
    (ap (λ h. h.world) c.new-gated.ensures ∙ c.new-hand.ensures.world) (ap (λ h. h.opened.value) c.new-gated.ensures ∙ c.new-hand.ensures.opened) (ap (λ h. h.wanted) c.new-gated.ensures ∙ c.new-hand.ensures.wanted) c.run_phases-came.ensures.hand.kept)

pub returns-clause-full : goal.returns-clause-full
returns-clause-full g c = λ is. rw c.into_hand.ensures (c.run_phases-came.ensures.hand.is_full (ap is_full_came is))

pub returns-clause-refused : goal.returns-clause-refused
returns-clause-refused g c =
    ap (λ h. h.refused) c.into_hand.ensures ∙ c.run_phases-came.ensures.hand.was_refused
    ∙ ap (λ b. b || is_full_came c.run_phases-came.result) (ap (λ h. h.refused) c.new-gated.ensures ∙ c.new-hand.ensures.refused)

pub returns-clause-wanted : goal.returns-clause-wanted
returns-clause-wanted g c = rw c.into_hand.ensures
    (wanted_by c.new-gated.result.wanted c.run_phases-came.new.hand.wanted c.run_phases-came.result (ap (λ h. h.wanted) c.new-gated.ensures ∙ c.new-hand.ensures.wanted) c.run_phases-came.ensures.hand.was_wanted)
