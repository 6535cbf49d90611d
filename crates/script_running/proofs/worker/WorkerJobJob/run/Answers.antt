use Rattle.std.proofs.Common.{◌≡◌, ◌++◌, ◌<◌, ℕ, List, length, sym, ap, subst}
use Rattle.std.specs.List.{All}
use Rattle.world_core.specs.declared.entry.Entry.{Entry}
use Rattle.script_workers.specs.declared.task.Task.{Task}
use Rattle.lifecycle_core.specs.Conducts.{TasksAt}
use Rattle.script_running.specs.Lending.{setting_in}
use Rattle.script_running.specs.Tasks.{is_full_came}
use Rattle.script_running.specs.Workers.{HasWorked, MayWork, Post, OwnRun}
use Rattle.script_running.proofs.JobSteps.{allows_all, may_work}
use Rattle.script_running.proofs.worker.WorkerJobJob.run.Goals as goal

pub do_tasks-requires-clause-lawful : goal.do_tasks-requires-clause-lawful
do_tasks-requires-clause-lawful g c = c.self.invariant.lawful

pub do_tasks-requires-clause-tasks : goal.do_tasks-requires-clause-tasks
do_tasks-requires-clause-tasks g c =
    let i = c.self.inside in
    allows_all i.means.now.script i.phase i.worker i.tasks.now c.self.invariant

pub do_tasks-requires-clause-places : goal.do_tasks-requires-clause-places
do_tasks-requires-clause-places g c =
    let i = c.self.inside in
    subst (All (λ place. place < length i.tasks.now)) (sym c.members-places.ensures) c.self.invariant.within

pub returns-clause-run : goal.returns-clause-run
returns-clause-run g c =
    let i = c.self.inside in
    let a = c.self.invariant in
    subst (λ (post : Post). (made : List Entry) × ((g.H.Hand.told c.do_tasks.new.hand).entries ≡ (g.H.Hand.told c.args.hand.now).entries ++ made) × MayWork post (g.H.Hand.told c.args.hand.now).seat made (g.H.Hand.told c.do_tasks.new.hand).front c.do_tasks.result) c.self.view_is
    (may_work (record { loan = i.means.now; phase = i.phase; worker = i.worker; sight = i.sight }) a.phase a.at
    (g.H.Hand.told c.args.hand.now).seat (g.H.Hand.told c.args.hand.now).entries (g.H.Hand.told c.do_tasks.new.hand).entries (g.H.Hand.told c.do_tasks.new.hand).front c.do_tasks.result
    (λ who held by sees.
    subst (λ (ts : List Task). HasWorked (TasksAt ts i.worker.tasks) (OwnRun (setting_in i.means.now) who held) (g.H.Hand.told c.args.hand.now).seat (g.H.Hand.told c.args.hand.now).entries (g.H.Hand.told c.do_tasks.new.hand).entries c.do_tasks.result) a.own
    (subst (λ (ps : List ℕ). HasWorked (TasksAt i.tasks.now ps) (OwnRun (setting_in i.means.now) who held) (g.H.Hand.told c.args.hand.now).seat (g.H.Hand.told c.args.hand.now).entries (g.H.Hand.told c.do_tasks.new.hand).entries c.do_tasks.result) c.members-places.ensures
    (c.do_tasks.ensures.worked who held by sees)))
    (λ is. c.do_tasks.ensures.hand.is_full (ap is_full_came is)))

pub returns-clause-hand : goal.returns-clause-hand
returns-clause-hand g c = c.do_tasks.ensures.hand
