use Rattle.std.proofs.Common.{◌∙◌, ◌||◌, ℕ, List, [], refl, sym, ap, subst}
use Rattle.script_running.specs.Lending.{AreTextsOf}
use Rattle.script_running.specs.Shelves.{setting_by}
use Rattle.world_core.specs.Asking.{IsAllAsked}
use Rattle.world_core.specs.Worlds.{IsJournal}
use Rattle.world_core.specs.declared.entry.Entry.{Entry}
use Rattle.world_turn.specs.Opening.{opening_of}
use Rattle.world_turn.specs.Passes.{view_of}
use Rattle.world_turn.specs.declared.pass.Pass.{Pass}
use Rattle.script_running.specs.Tasks.{is_full_came}
use Rattle.script_running.specs.declared.shelf.ShelfBlock.{ShelfBlock}
use Rattle.script_running.proofs.Running.{HasRunAndTold, first_gone, none_before, run_came}
use Rattle.script_running.proofs.beside.run_beside.Goals as goal

pub run_phases-came-requires-clause-seats : goal.run_phases-came-requires-clause-seats
run_phases-came-requires-clause-seats g c = λ κs lives. c.in-Ok-open.ensures.pass.2 ∙ sym (none_before c.args.lent.now.script.now)

pub run_phases-came-requires-clause-reached : goal.run_phases-came-requires-clause-reached
run_phases-came-requires-clause-reached g c = λ κs lives. record {
  outcomes = [];
  gone = first_gone (setting_by c.args.lent.now.script.now c.lend-means.result.shelf) (opening_of g.B.Bucket.told c.args.world) (view_of c.in-Ok-open.root) c.in-Ok.progress.sights.items [] c.in-Ok-open.ensures.pass.3 c.in-Ok.ensures.each c.in-Ok.ensures.unseen refl;
  told = subst (λ report. g.P.Report.tells report c.args.lent.now.script.now [] []) (sym c.in-Ok.ensures.report) c.requires.untold;
}

pub returns-in-Ok-open-clause-tick : goal.returns-in-Ok-open-clause-tick
returns-in-Ok-open-clause-tick g c = c.close-closed.ensures.closes.ticks ∙ c.run_phases-came.ensures.tick ∙ ap (λ v. v.tick) c.in-Ok-open.ensures.pass.3

pub returns-in-Ok-open-clause-ran : goal.returns-in-Ok-open-clause-ran
returns-in-Ok-open-clause-ran g c =
    let tick = c.close-closed.ensures.closes.ticks ∙ c.run_phases-came.ensures.tick ∙ ap (λ v. v.tick) c.in-Ok-open.ensures.pass.3 ∙ c.requires.tick in
    let kept : IsJournal c.close-closed.result.world.tick c.close-closed.result.world.journal =
    subst (λ (n : ℕ). IsJournal n c.close-closed.result.world.journal) (ap (λ w. w.tick) c.world-kept.ensures)
    (subst (λ (es : List Entry). IsJournal c.world-kept.result.now.tick es) (ap (λ w. w.journal) c.world-kept.ensures) c.journal-after.ensures.holds.journal) in
    subst (λ (s : List ShelfBlock). HasRunAndTold g.P.Report.tells (setting_by c.args.lent.now.script.now s) c.close-closed.result.world.journal c.run_phases-came.new.progress.report c.run_phases-came.result.0) c.lend-means.ensures.shelf
    (run_came g.P.Report.tells (setting_by c.args.lent.now.script.now c.lend-means.result.shelf) (view_of c.run_phases-came.result.1) c.close-closed.result.world.tick c.close-closed.result.world.journal c.run_phases-came.new.progress c.run_phases-came.result.0 c.requires.lawful c.close-closed.ensures.closes c.run_phases-came.ensures.all
    kept tick c.run_phases-came.ensures.came)

pub returns-in-Ok-open-clause-refused : goal.returns-in-Ok-open-clause-refused
returns-in-Ok-open-clause-refused g c =
    ap (λ (p : Pass). (view_of p).refused) c.close-closed.ensures.root ∙ c.run_phases-came.ensures.refused ∙ ap (λ v. v.refused || is_full_came c.run_phases-came.result.0) c.in-Ok-open.ensures.pass.3

pub returns-in-Ok-open-clause-unfailed : goal.returns-in-Ok-open-clause-unfailed
returns-in-Ok-open-clause-unfailed g c = λ none. c.close-closed.ensures.comes.unfailed none ∙ ap (λ w. (g.B.Bucket.told w.bucket).faults) c.in-Ok-open.ensures.opened

pub run_phases-came-requires-clause-unwanted : goal.run_phases-came-requires-clause-unwanted
run_phases-came-requires-clause-unwanted g c = λ κs lives. ap (λ v. v.wanted) c.in-Ok-open.ensures.pass.3

pub returns-in-Ok-open-clause-all : goal.returns-in-Ok-open-clause-all
returns-in-Ok-open-clause-all g c = λ never before was.
    c.close-closed.ensures.all (sym (ap (λ (p : Pass). (view_of p).wanted) c.close-closed.ensures.root) ∙ never) before (subst (IsAllAsked g.B.Bucket.told before) (sym c.in-Ok-open.ensures.opened) was)

pub returns-in-Ok-open-clause-unwanted : goal.returns-in-Ok-open-clause-unwanted
returns-in-Ok-open-clause-unwanted g c = λ done. ap (λ (p : Pass). (view_of p).wanted) c.close-closed.ensures.root ∙ c.run_phases-came.ensures.unwanted done

pub lend-means-requires-clause-texts : goal.lend-means-requires-clause-texts
lend-means-requires-clause-texts g c = subst (AreTextsOf c.args.lent.now.script.now.selectors) (sym c.members.ensures) c.in-Ok-selector_texts.ensures
