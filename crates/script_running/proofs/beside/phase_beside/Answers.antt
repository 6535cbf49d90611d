use Rattle.std.proofs.Common.{◌≡◌, ◌∙◌, ◌+◌, ℕ, List, length, [], refl, ap, sym, subst, vec_len, arith}
use Rattle.std.specs.Prelude.{Err}
use Rattle.world_core.specs.declared.entry.Entry.{Entry}
use Rattle.world_turn.specs.Passes.{view_of}
use Rattle.world_turn.specs.declared.pass.Pass.{Pass}
use Rattle.phase_runner.specs.Phases.{HasRun, Runs}
use Rattle.script_running.specs.Shelves.{setting_by}
use Rattle.script_running.specs.Ended.{IsPostOf}
use Rattle.script_running.specs.Gathering.{HaveOwnGateways}
use Rattle.script_running.specs.Going.{HasStopped, IsClockSet}
use Rattle.script_running.specs.Workers.{MayWork, Post}
use Rattle.script_running.specs.declared.came.Broken.TheVariants as broken
use Rattle.script_running.specs.declared.worker.WorkerEnd.{WorkerEnd}
use denote.Param.Send.{sendable}
use Rattle.script_running.proofs.Crossing.{job_send}
use Rattle.script_running.proofs.Gathers.{gateways_counted}
use Rattle.script_running.proofs.Phasing.{always, at_work, clock_refused, ends_long, few_seats, idled, if_false, if_true, joined_on, moment_lawful, next_seats, no_room, phase_apart, phase_comes, within_gateways, within_tasks, workers_here}
use Rattle.script_running.proofs.Reporting.{broke_so}
use Rattle.script_running.proofs.Refused.{clock_done, clock_tells, clock_unwanted, come_tells, come_unwanted, phase_tells, phase_unwanted}
use Rattle.script_running.proofs.beside.phase_beside.Goals as goal
use Rattle.base.proofs.Bools.{or_false}
use Rattle.base.proofs.Pairs.{AllZip-as_long}

pub returns-in_default-clause-came : goal.returns-in_default-clause-came
returns-in_default-clause-came g c =
    let r = c.requires.reached in
    broke_so g.P.Report.tells (setting_by c.args.run.now.script.now c.args.run.now.means.now.shelf) c.args.place (view_of c.args.root) (view_of c.args.root) c.args.progress.now c.args.progress.now.report broken.NoMemory r
    (no_room c.args.run.now.script.now c.args.run.now.means.now.shelf c.args.place c.args.phase.now c.requires.at (view_of c.args.root) c.args.progress.now.sights.items r.outcomes r.gone) (λ never. refl)

pub jobs_of-requires-clause-work : goal.jobs_of-requires-clause-work
jobs_of-requires-clause-work g c =
    let are = workers_here c.args.run.now.script.now c.args.place c.splits.result c.in-Ok.staff c.members-workers.result.now c.members-workers.ensures c.in-Ok.ensures (c.splits.ensures ∙ c.requires.seats) in
    at_work c.args.run.now.script.now c.requires.lawful c.args.place c.args.phase.now c.requires.at c.members-workers.result.now c.args.run.now.means.now c.requires.lent are

pub jobs_of-requires-clause-gateways : goal.jobs_of-requires-clause-gateways
jobs_of-requires-clause-gateways g c =
    let are = workers_here c.args.run.now.script.now c.args.place c.splits.result c.in-Ok.staff c.members-workers.result.now c.members-workers.ensures c.in-Ok.ensures (c.splits.ensures ∙ c.requires.seats) in
    within_gateways c.args.run.now.script.now c.requires.lawful c.args.place c.args.phase.now c.requires.at c.members-workers.result.now (length c.args.progress.now.sights.items) are c.requires.reached.gone.each

pub jobs_of-requires-clause-apart : goal.jobs_of-requires-clause-apart
jobs_of-requires-clause-apart g c =
    let are = workers_here c.args.run.now.script.now c.args.place c.splits.result c.in-Ok.staff c.members-workers.result.now c.members-workers.ensures c.in-Ok.ensures (c.splits.ensures ∙ c.requires.seats) in
    subst HaveOwnGateways (sym are) (phase_apart (setting_by c.args.run.now.script.now c.args.run.now.means.now.shelf) c.args.place)

pub returns-in_default-jobs_of-clause-came : goal.returns-in_default-jobs_of-clause-came
returns-in_default-jobs_of-clause-came g c =
    let r = c.requires.reached in
    broke_so g.P.Report.tells (setting_by c.args.run.now.script.now c.args.run.now.means.now.shelf) c.args.place (view_of c.args.root) (view_of c.args.root) c.args.progress.now c.args.progress.now.report broken.NoMemory r
    (no_room c.args.run.now.script.now c.args.run.now.means.now.shelf c.args.place c.args.phase.now c.requires.at (view_of c.args.root) c.args.progress.now.sights.items r.outcomes r.gone) (λ never. refl)

pub begin_phase-begun-requires-clause-moment : goal.begin_phase-begun-requires-clause-moment
begin_phase-begun-requires-clause-moment g c = moment_lawful c.args.run.now.script.now c.requires.lawful c.args.place c.args.phase.now c.requires.at

pub returns-in-Err-clause-came : goal.returns-in-Err-clause-came
returns-in-Err-clause-came g c =
    let r = c.requires.reached in
    broke_so g.P.Report.tells (setting_by c.args.run.now.script.now c.args.run.now.means.now.shelf) c.args.place (view_of c.args.root) (view_of c.begin_phase-begun.result.1) c.args.progress.now c.args.progress.now.report c.in-Err.broken r
    (clock_refused c.args.run.now.script.now c.args.run.now.means.now.shelf c.args.place c.args.phase.now c.requires.at (view_of c.args.root) c.args.progress.now.sights.items r.outcomes r.gone (view_of c.begin_phase-begun.result.1) c.in-Err.broken
    (subst (IsClockSet c.args.phase.now (view_of c.args.root) (view_of c.begin_phase-begun.result.1)) c.in-Err.is c.begin_phase-begun.ensures.clock) c.begin_phase-begun.ensures.later) (λ never. refl)

pub returns-in-Err-clause-all : goal.returns-in-Err-clause-all
returns-in-Err-clause-all g c = joined_on (view_of c.args.root) (view_of c.begin_phase-begun.result.1) c.begin_phase-begun.ensures.same c.requires.all

pub run_phase-end-requires-clause-few : goal.run_phase-end-requires-clause-few
run_phase-end-requires-clause-few g c = λ κs lives.
    let are = workers_here c.args.run.now.script.now c.args.place c.splits.result c.in-Ok.staff c.members-workers.result.now c.members-workers.ensures c.in-Ok.ensures (c.splits.ensures ∙ c.requires.seats) in
    let sent = c.in-Ok-jobs_of.ensures.sent c.requires.reached.gone.held c.requires.reached.gone.seen in
    let zipped = AllZip-as_long (IsPostOf c.args.run.now.means.now c.args.place c.requires.reached.gone.held) c.members-workers.result.now c.in-Ok-jobs_of.jobs.items sent in
    let counted : vec_len c.in-Ok-jobs_of.jobs ≡ length c.members-workers.result.now = (let ok = c.in-Ok-jobs_of.jobs.ok in omega (arith, zipped)) in
    few_seats c.args.run.now.script.now c.requires.lawful c.args.place c.args.phase.now c.requires.at c.begin_phase-begun.result.1.splits (vec_len c.in-Ok-jobs_of.jobs) (c.begin_phase-begun.ensures.pass.2 ∙ c.requires.seats) (counted ∙ ap length are)

pub returns-then-end-clause-all : goal.returns-then-end-clause-all
returns-then-end-clause-all g c = c.run_phase-end.ensures.all (joined_on (view_of c.args.root) (view_of c.begin_phase-begun.result.1) c.begin_phase-begun.ensures.same c.requires.all)

pub returns-then-end-clause-came : goal.returns-then-end-clause-came
returns-then-end-clause-came g c =
    let clock = subst (IsClockSet c.args.phase.now (view_of c.args.root) (view_of c.begin_phase-begun.result.1)) c.in_default-begun.is c.begin_phase-begun.ensures.clock in
    let same = if_true {P = ((c.run_phase-end.result.root ≡ c.begin_phase-begun.result.1) × (c.run_phase-end.result.ends.items ≡ []))}
    ((kept : List (ℕ × List Entry)) × HasRun c.begin_phase-begun.result.1 c.run_phase-end.result.root (vec_len c.in-Ok-jobs_of.jobs) kept × Runs {J = Post} {E = WorkerEnd} MayWork (view_of c.begin_phase-begun.result.1).known (view_of c.run_phase-end.result.root).front (c.begin_phase-begun.result.1.splits + 1) c.in-Ok-jobs_of.jobs.items c.run_phase-end.result.ends.items kept) c.run_phase-end.result.memory c.if-end.true c.run_phase-end.ensures.run in
    let r = c.requires.reached in
    broke_so g.P.Report.tells (setting_by c.args.run.now.script.now c.args.run.now.means.now.shelf) c.args.place (view_of c.args.root) (view_of c.run_phase-end.result.root) c.args.progress.now c.args.progress.now.report broken.NoMemory r
    (subst (λ (p : Pass). HasStopped (setting_by c.args.run.now.script.now c.args.run.now.means.now.shelf) (view_of p) r.outcomes broken.NoMemory) (sym same.0)
    (idled c.args.run.now.script.now c.args.run.now.means.now.shelf c.args.place c.args.phase.now c.requires.at c.args.root c.args.progress.now.sights.items r.outcomes r.gone c.requires.own.1 c.begin_phase-begun.result.1 clock.0 clock.1 (c.begin_phase-begun.ensures.pass.1 ∙ c.requires.own.1))) (λ never. refl)

pub gather-came-requires-clause-many : goal.gather-came-requires-clause-many
gather-came-requires-clause-many g c =
    let sent = c.in-Ok-jobs_of.ensures.sent c.requires.reached.gone.held c.requires.reached.gone.seen in
    let run = if_false {Q = ((kept : List (ℕ × List Entry)) × HasRun c.begin_phase-begun.result.1 c.run_phase-end.result.root (vec_len c.in-Ok-jobs_of.jobs) kept × Runs {J = Post} {E = WorkerEnd} MayWork (view_of c.begin_phase-begun.result.1).known (view_of c.run_phase-end.result.root).front (c.begin_phase-begun.result.1.splits + 1) c.in-Ok-jobs_of.jobs.items c.run_phase-end.result.ends.items kept)}
    ((c.run_phase-end.result.root ≡ c.begin_phase-begun.result.1) × (c.run_phase-end.result.ends.items ≡ [])) c.run_phase-end.result.memory c.if-end.false c.run_phase-end.ensures.run in
    ends_long c.args.run.now.means.now c.args.place c.requires.reached.gone.held c.members-workers.result.now (view_of c.begin_phase-begun.result.1).known (view_of c.run_phase-end.result.root).front (c.begin_phase-begun.result.1.splits + 1) c.in-Ok-jobs_of.jobs.items c.run_phase-end.result.ends.items run.0 sent run.2

pub gather-came-requires-clause-gateways : goal.gather-came-requires-clause-gateways
gather-came-requires-clause-gateways g c =
    let are = workers_here c.args.run.now.script.now c.args.place c.splits.result c.in-Ok.staff c.members-workers.result.now c.members-workers.ensures c.in-Ok.ensures (c.splits.ensures ∙ c.requires.seats) in
    within_gateways c.args.run.now.script.now c.requires.lawful c.args.place c.args.phase.now c.requires.at c.members-workers.result.now (length c.jobs_of.new.sights.items) are (c.jobs_of.ensures.each ∙ c.requires.reached.gone.each)

pub gather-came-requires-clause-places : goal.gather-came-requires-clause-places
gather-came-requires-clause-places g c =
    let are = workers_here c.args.run.now.script.now c.args.place c.splits.result c.in-Ok.staff c.members-workers.result.now c.members-workers.ensures c.in-Ok.ensures (c.splits.ensures ∙ c.requires.seats) in
    within_tasks c.args.run.now.script.now c.requires.lawful c.args.place c.args.phase.now c.requires.at c.members-workers.result.now c.members.result.now are c.members.ensures

pub returns-clause-seats : goal.returns-clause-seats
returns-clause-seats g c =
    let are = workers_here c.args.run.now.script.now c.args.place c.splits.result c.in-Ok.staff c.members-workers.result.now c.members-workers.ensures c.in-Ok.ensures (c.splits.ensures ∙ c.requires.seats) in
    let sent = c.in-Ok-jobs_of.ensures.sent c.requires.reached.gone.held c.requires.reached.gone.seen in
    let run = if_false {Q = ((kept : List (ℕ × List Entry)) × HasRun c.begin_phase-begun.result.1 c.run_phase-end.result.root (vec_len c.in-Ok-jobs_of.jobs) kept × Runs {J = Post} {E = WorkerEnd} MayWork (view_of c.begin_phase-begun.result.1).known (view_of c.run_phase-end.result.root).front (c.begin_phase-begun.result.1.splits + 1) c.in-Ok-jobs_of.jobs.items c.run_phase-end.result.ends.items kept)}
    ((c.run_phase-end.result.root ≡ c.begin_phase-begun.result.1) × (c.run_phase-end.result.ends.items ≡ [])) c.run_phase-end.result.memory c.if-end.false c.run_phase-end.ensures.run in
    let zipped = AllZip-as_long (IsPostOf c.args.run.now.means.now c.args.place c.requires.reached.gone.held) c.members-workers.result.now c.in-Ok-jobs_of.jobs.items sent in
    let counted : vec_len c.in-Ok-jobs_of.jobs ≡ length c.members-workers.result.now = (let ok = c.in-Ok-jobs_of.jobs.ok in omega (arith, zipped)) in
    always c.gather-came.result
    (next_seats c.args.run.now.script.now c.requires.lawful c.args.place c.args.phase.now c.requires.at c.begin_phase-begun.result.1.splits c.run_phase-end.result.root.splits (vec_len c.in-Ok-jobs_of.jobs) (c.begin_phase-begun.ensures.pass.2 ∙ c.requires.seats) (counted ∙ ap length are) (run.1).splits)

pub returns-clause-all : goal.returns-clause-all
returns-clause-all g c = c.run_phase-end.ensures.all (joined_on (view_of c.args.root) (view_of c.begin_phase-begun.result.1) c.begin_phase-begun.ensures.same c.requires.all)

pub returns-clause-came : goal.returns-clause-came
returns-clause-came g c =
    let are = workers_here c.args.run.now.script.now c.args.place c.splits.result c.in-Ok.staff c.members-workers.result.now c.members-workers.ensures c.in-Ok.ensures (c.splits.ensures ∙ c.requires.seats) in
    let sent = c.in-Ok-jobs_of.ensures.sent c.requires.reached.gone.held c.requires.reached.gone.seen in
    let clock = subst (IsClockSet c.args.phase.now (view_of c.args.root) (view_of c.begin_phase-begun.result.1)) c.in_default-begun.is c.begin_phase-begun.ensures.clock in
    let run = if_false {Q = ((kept : List (ℕ × List Entry)) × HasRun c.begin_phase-begun.result.1 c.run_phase-end.result.root (vec_len c.in-Ok-jobs_of.jobs) kept × Runs {J = Post} {E = WorkerEnd} MayWork (view_of c.begin_phase-begun.result.1).known (view_of c.run_phase-end.result.root).front (c.begin_phase-begun.result.1.splits + 1) c.in-Ok-jobs_of.jobs.items c.run_phase-end.result.ends.items kept)}
    ((c.run_phase-end.result.root ≡ c.begin_phase-begun.result.1) × (c.run_phase-end.result.ends.items ≡ [])) c.run_phase-end.result.memory c.if-end.false c.run_phase-end.ensures.run in
    let r = c.requires.reached in
    phase_comes c.args.run.now.script.now c.args.run.now.means.now.shelf c.args.place c.args.phase.now c.requires.at c.args.root c.args.progress.now.sights.items r.outcomes r.gone c.requires.own.1 c.begin_phase-begun.result.1 clock.0 clock.1
    c.args.run.now.means.now c.requires.lent refl c.requires.lawful c.begin_phase-begun.result.1.splits (c.begin_phase-begun.ensures.pass.2 ∙ c.requires.seats) c.members-workers.result.now are c.in-Ok-jobs_of.jobs.items sent
    c.run_phase-end.result.root (vec_len c.in-Ok-jobs_of.jobs) run.0 run.1 c.run_phase-end.result.ends.items run.2
    g.P.Report.tells c.args.progress.now.report r.told (record { sights = c.jobs_of.new.sights; report = c.args.progress.now.report }) c.gather-came.new.progress refl (c.gather-came.ensures.each ∙ c.jobs_of.ensures.each)
    c.gather-came.result c.gather-came.ensures.came c.gather-came.ensures.unreported
    (λ after made staff have left. c.gather-came.ensures.gathers (setting_by c.args.run.now.script.now c.args.run.now.means.now.shelf)
    (record { number = c.args.place; phase = c.args.phase.now; before = r.gone.held; after = after; front = (view_of c.run_phase-end.result.root).front; made = made })
    (record {
      lawful = c.requires.lawful;
      script_is = refl;
      at = c.requires.at;
      tasks = c.members.ensures;
      workers = staff;
      staff = are;
      counted = gateways_counted c.args.run.now.script.now c.requires.lawful c.jobs_of.new.sights.items (c.jobs_of.ensures.each ∙ r.gone.each);
      have = have;
      left = left;
      beside = c.in-Ok-jobs_of.ensures.left r.gone.held r.gone.seen;
    }))

-- ---- whether the full journal was met

pub returns-in_default-clause-refused : goal.returns-in_default-clause-refused
returns-in_default-clause-refused g c = sym (or_false (view_of c.args.root).refused)

pub returns-in_default-jobs_of-clause-refused : goal.returns-in_default-jobs_of-clause-refused
returns-in_default-jobs_of-clause-refused g c = sym (or_false (view_of c.args.root).refused)

pub returns-in-Err-clause-refused : goal.returns-in-Err-clause-refused
returns-in-Err-clause-refused g c =
    clock_tells c.args.phase.now (view_of c.args.root) (view_of c.begin_phase-begun.result.1) (Err c.in-Err.broken) (subst (IsClockSet c.args.phase.now (view_of c.args.root) (view_of c.begin_phase-begun.result.1)) c.in-Err.is c.begin_phase-begun.ensures.clock)

pub returns-then-end-clause-refused : goal.returns-then-end-clause-refused
returns-then-end-clause-refused g c =
    let same = if_true {P = ((c.run_phase-end.result.root ≡ c.begin_phase-begun.result.1) × (c.run_phase-end.result.ends.items ≡ []))}
    ((kept : List (ℕ × List Entry)) × HasRun c.begin_phase-begun.result.1 c.run_phase-end.result.root (vec_len c.in-Ok-jobs_of.jobs) kept × Runs {J = Post} {E = WorkerEnd} MayWork (view_of c.begin_phase-begun.result.1).known (view_of c.run_phase-end.result.root).front (c.begin_phase-begun.result.1.splits + 1) c.in-Ok-jobs_of.jobs.items c.run_phase-end.result.ends.items kept) c.run_phase-end.result.memory c.if-end.true c.run_phase-end.ensures.run in
    ap (λ (p : Pass). (view_of p).refused) same.0 ∙ clock_done c.args.phase.now (view_of c.args.root) (view_of c.begin_phase-begun.result.1) c.begin_phase-begun.result.0 c.in_default-begun.is c.begin_phase-begun.ensures.clock

pub returns-clause-refused : goal.returns-clause-refused
returns-clause-refused g c =
    phase_tells (view_of c.args.root).refused (view_of c.begin_phase-begun.result.1).refused (view_of c.run_phase-end.result.root).refused _ c.gather-came.result
    (clock_done c.args.phase.now (view_of c.args.root) (view_of c.begin_phase-begun.result.1) c.begin_phase-begun.result.0 c.in_default-begun.is c.begin_phase-begun.ensures.clock) c.run_phase-end.ensures.refused
    (come_tells c.run_phase-end.result.ends.items c.gather-came.result c.gather-came.ensures.came)

-- ---- whether memory was wanted

pub returns-in_default-clause-unwanted : goal.returns-in_default-clause-unwanted
returns-in_default-clause-unwanted g c = λ done. absurd (cc done)

pub returns-in_default-jobs_of-clause-unwanted : goal.returns-in_default-jobs_of-clause-unwanted
returns-in_default-jobs_of-clause-unwanted g c = λ done. absurd (cc done)

pub returns-in-Err-clause-unwanted : goal.returns-in-Err-clause-unwanted
returns-in-Err-clause-unwanted g c = λ done. absurd (cc done)

pub returns-then-end-clause-unwanted : goal.returns-then-end-clause-unwanted
returns-then-end-clause-unwanted g c = λ done. absurd (cc done)

pub returns-clause-unwanted : goal.returns-clause-unwanted
returns-clause-unwanted g c = λ done.
    phase_unwanted (view_of c.run_phase-end.result.root).wanted (view_of c.begin_phase-begun.result.1).wanted _
    (clock_unwanted c.args.phase.now (view_of c.args.root) (view_of c.begin_phase-begun.result.1) c.begin_phase-begun.result.0 c.begin_phase-begun.ensures.clock c.in_default-begun.is c.requires.unwanted)
    (come_unwanted c.run_phase-end.result.ends.items c.gather-came.result c.gather-came.ensures.came done) c.run_phase-end.ensures.wanted

-- ---- jobs cross threads

pub run_phase-end-requires-send-J : goal.run_phase-end-requires-send-J
run_phase-end-requires-send-J g c κs within = search (sendable, job_send)
