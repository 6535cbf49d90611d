-- The workers of a phase that was run have made the runs of their tasks.
use Rattle.std.proofs.Common.{◌≡◌, ◌≢◌, ℕ, suc, ◌+◌, ◌<◌, List, [], ◌∷◌, length, map, Contains, Some, refl, sym, ◌∙◌, ap, subst, arith}
use Rattle.std.specs.Prelude.{slice_get}
use Rattle.std.specs.List.{All, AllByRecursion, AllZip}
use Rattle.std.proofs.lemmas.List.{length-map}
use Rattle.std.proofs.lemmas.List.Elements.{All-head, All-nil, All-weaker}
use Rattle.std.proofs.lemmas.Option.{slice_get_within}
use Rattle.base.proofs.Membership.{no_member}
use Rattle.world_core.specs.declared.entry.Entry.{Entry}
use Rattle.phase_runner.specs.Phases.{RanTo, Runs}
use Rattle.script_core.proofs.SeatLaws.{are_seated}
use Rattle.script_core.specs.Lawful.{IsLawfulScript}
use Rattle.script_core.specs.Workers.{workers_before, workers_of}
use Rattle.script_core.specs.declared.script.Script.{Script}
use Rattle.script_workers.specs.Hands.{gateway_count, hands_of}
use Rattle.script_workers.specs.Staff.{IsWorkerOf}
use Rattle.script_workers.specs.Whose.{IsTaskOf}
use Rattle.script_workers.specs.declared.hand.Hand.{Hand}
use Rattle.script_workers.specs.declared.phase.Phase.{Phase}
use Rattle.script_workers.specs.declared.task.Task.{Task}
use Rattle.script_workers.specs.declared.worker.Worker.{Worker}
use Rattle.world_core.specs.Journals.{of_seat}
use Rattle.lifecycle_core.specs.Conducts.{PhaseRun, who_of, TasksAt}
use Rattle.lifecycle_core.specs.Holdings.{Holding, Holdings, holding_of}
use Rattle.lifecycle_core.specs.Phases.{by_script}
use Rattle.lifecycle_core.specs.Setting.{Setting}
use Rattle.lifecycle_core.specs.Tasks.{End}
use Rattle.lifecycle_core.specs.Ways.{BeginsPhase}
use Rattle.lifecycle_core.proofs.phases.Fronts.{IsCutWell}
use Rattle.lifecycle_core.proofs.phases.RunsInLine.{lawful_tasks, may_begin}
use Rattle.lifecycle_core.proofs.phases.TaskRuns.{MayBegin}
use Rattle.script_running.specs.Begun.{AreLeft, Made, WasBegun, WereKept, ends_in, kept_in, workers_in}
use Rattle.script_running.specs.Cutting.{Passed}
use Rattle.script_running.specs.Ended.{AreInRow, HasEnded, HaveEnded, IsPostOf}
use Rattle.script_running.specs.Lending.{Loan, setting_in}
use Rattle.script_running.specs.Shelves.{setting_by}
use Rattle.script_running.specs.Workers.{HasWorked, IsBrokenOff, MayWork, OwnRun, Post}
use Rattle.script_running.specs.declared.shelf.ShelfBlock.{ShelfBlock}
use Rattle.script_running.specs.declared.worker.WorkerEnd.{WorkerEnd}
use Rattle.script_running.proofs.Begun.{phase_runs}
use Rattle.script_running.proofs.WorkerSteps.{assigned, none_run, tasks_begin}

abbrev Kept : Type 0
Kept = ℕ × List Entry

module _ (script : Script) (shelf : List ShelfBlock) (loan : Loan) (lent : loan.script ≡ script) (its : loan.shelf ≡ shelf) (number : ℕ) (phase : Phase) (before : Holdings) (at : slice_get script.phases number ≡ Some phase) (above : ℕ) (front : List Entry) where
  abbrev own_setting : Setting
  own_setting = setting_by script shelf

  has_worked : (worker : Worker) (post : Post) (seat : ℕ) (made : List Entry) (seen : List Entry) (end : WorkerEnd) → IsPostOf loan number before worker post → MayWork post seat made (Some seen) end
      → HasWorked (TasksAt phase.tasks worker.tasks) (OwnRun own_setting (who_of worker) (holding_of before worker.gateway)) seat [] made end
  has_worked worker post seat made seen end p may =
      let found : slice_get post.loan.script.phases post.phase ≡ Some phase = ap (λ (l : Loan). slice_get l.script.phases post.phase) p.loan_is ∙ ap (λ (s : Script). slice_get s.phases post.phase) lent ∙ ap (slice_get script.phases) p.phase_is ∙ at in
      subst (λ (s : Script). HasWorked (TasksAt phase.tasks worker.tasks) (OwnRun (setting_by s shelf) (who_of worker) (holding_of before worker.gateway)) seat [] made end) lent
      (subst (λ (s : List ShelfBlock). HasWorked (TasksAt phase.tasks worker.tasks) (OwnRun (setting_by loan.script s) (who_of worker) (holding_of before worker.gateway)) seat [] made end) its
      (subst (λ (l : Loan). HasWorked (TasksAt phase.tasks worker.tasks) (OwnRun (setting_in l) (who_of worker) (holding_of before worker.gateway)) seat [] made end) p.loan_is
      (subst (λ (w : Worker). HasWorked (TasksAt phase.tasks w.tasks) (OwnRun (setting_in post.loan) (who_of w) (holding_of before worker.gateway)) seat [] made end) p.worker_is
      (may.worked phase (holding_of before worker.gateway) found p.sees))))

  has_ended : (worker : Worker) (post : Post) (seat : ℕ) (kept : Kept) (end : WorkerEnd) → worker.seat ≡ seat → IsPostOf loan number before worker post → RanTo MayWork above front seat post end kept
      → (ends : List End) × (last : Holding) × HasEnded own_setting phase.tasks before front (record { worker = worker; kept = kept; ends = ends; last = last }) end
  has_ended worker post seat kept end sits p ran =
      let w = has_worked worker post seat kept.1 ran.seen end p ran.run in
      let run : List Entry → List End → Holding → Type 0 = OwnRun own_setting (who_of worker) (holding_of before worker.gateway) w.own in (
        w.ends,
        w.last,
        record {
          was = record {
            seat = ran.seated ∙ sym sits;
            own = w.own;
            are = w.are;
            run = subst (λ (es : List Entry). run es w.ends w.last) (sym w.entries) w.run;
          };
          parts = w.parts;
          sees = w.sees;
          cut = subst (λ (s : ℕ). IsBrokenOff run (length w.own) s kept.1 w.ends end.came) (sym sits) (subst (λ (es : List Entry). IsBrokenOff run (length w.own) seat es w.ends end.came) (sym w.entries) w.broken);
          full = λ came. (ran.seen, ran.within, ran.run.full came);
        },
      )

  pub have_ended : (seat : ℕ) (workers : List Worker) (posts : List Post) (others : List WorkerEnd) (kept : List Kept) → AllZip (IsPostOf loan number before) workers posts → AreInRow seat workers → Runs MayWork above front seat posts others kept
      → (made : List Made) × (workers_in made ≡ workers) × (kept_in made ≡ kept) × HaveEnded own_setting phase.tasks before front made others
  have_ended seat [] [] [] [] posts row runs = ([], refl, refl, tt)
  have_ended seat [] [] [] (k ∷ kept) posts row runs = absurd runs
  have_ended seat [] [] (end ∷ others) kept posts row runs = absurd runs
  have_ended seat [] (p ∷ ps) others kept posts row runs = absurd posts
  have_ended seat (w ∷ workers) [] others kept posts row runs = absurd posts
  have_ended seat (w ∷ workers) (p ∷ ps) [] kept posts row runs = absurd runs
  have_ended seat (w ∷ workers) (p ∷ ps) (end ∷ others) [] posts row runs = absurd runs
  have_ended seat (w ∷ workers) (p ∷ ps) (end ∷ others) (k ∷ kept) posts row runs =
      let first = has_ended w p seat k end row.0 posts.0 runs.0 in
      let rest = have_ended (seat + 1) workers ps others kept posts.1 row.1 runs.1 in
      (record { worker = w; kept = k; ends = first.0; last = first.1 } ∷ rest.0, ap (λ (ws : List Worker). w ∷ ws) rest.1, ap (λ (ks : List Kept). k ∷ ks) rest.2, (first.2, rest.3))

-- ---- the phase as a whole

pub were_kept : (setting : Setting) (tasks : List Task) (before : Holdings) (front : List Entry) (made : List Made) (others : List WorkerEnd) → HaveEnded setting tasks before front made others → WereKept setting tasks before made
were_kept setting tasks before front [] others have = tt
were_kept setting tasks before front (one ∷ made) [] have = absurd have
were_kept setting tasks before front (one ∷ made) (end ∷ others) have = ((have.0).was, were_kept setting tasks before front made others have.1)

-- what each worker leaves
abbrev LeavesTo : Holdings → Worker → Holding → Type 0
LeavesTo after worker last = (gateway : ℕ) → worker.gateway ≡ Some gateway → after gateway ≡ last

each_leaves : (after : Holdings) (made : List Made) → AllZip (LeavesTo after) (workers_in made) (map (λ (one : Made). one.last) made) → AllByRecursion (λ (one : Made). LeavesTo after one.worker one.last) made
each_leaves after [] all = tt
each_leaves after (one ∷ made) all = (all.0, each_leaves after made all.1)

-- whatever workers hold last, there are holdings after the phase
are_left : (setting : Setting) → IsCutWell (by_script setting) → (number : ℕ) (before : Holdings) (made : List Made) → workers_in made ≡ workers_of setting.script number → (after : Holdings) × AreLeft before made after
are_left setting well number before made staff =
    let lasts = map (λ (one : Made). one.last) made in
    let long : length lasts ≡ length (workers_of setting.script number) = length-map made (λ (one : Made). one.last) ∙ sym (length-map made (λ (one : Made). one.worker)) ∙ ap length staff in
    let joins = well.joins number before lasts long in (
      joins.0,
      record {
        own = each_leaves joins.0 made (subst (λ (ws : List Worker). AllZip (LeavesTo joins.0) ws lasts) (sym staff) joins.1);
        others = λ gateway none. joins.2 gateway (subst (All (λ (w : Worker). w.gateway ≢ Some gateway)) staff none);
      },
    )

pub was_begun : (setting : Setting) → IsCutWell (by_script setting) → (number : ℕ) (phase : Phase) (before : Holdings) (one : Passed) (made : List Made) → workers_in made ≡ workers_of setting.script number → kept_in made ≡ one.kept → BeginsPhase phase one.clock
    → WereKept setting phase.tasks before made → (after : Holdings) × AreLeft before made after × WasBegun setting number phase before one (ends_in made) after
was_begun setting well number phase before one made staff kept begins were =
    let left = are_left setting well number before made staff in (
      left.0,
      left.1,
      record {
        begins = begins;
        runs = subst (λ (ks : List Kept). (entries : List Entry) → All (λ e. Contains (map (λ (k : Kept). k.0) ks) e.seat) entries → AllByRecursion (λ (k : Kept). k.1 ≡ of_seat k.0 entries) ks
            → PhaseRun (by_script setting) phase.tasks (workers_of setting.script number) before entries (ends_in made) left.0) kept (phase_runs setting number phase before left.0 made staff were left.1);
      },
    )

-- ---- a phase whose workers did not begin

abbrev none_by : Holdings → Worker → Made
none_by before w = record { worker = w; kept = (w.seat, []); ends = []; last = holding_of before w.gateway }

abbrev Within : List Task → Worker → Type 0
Within tasks w = All (λ place. place < length tasks) w.tasks

were_idle : (setting : Setting) (tasks : List Task) (before : Holdings) → All (λ t. MayBegin setting t.work) tasks → (ws : List Worker) → AllByRecursion (Within tasks) ws → WereKept setting tasks before (map (none_by before) ws)
were_idle setting tasks before begin [] within = tt
were_idle setting tasks before begin (w ∷ ws) within =
    let own = assigned tasks w.tasks within.0 in (
      record { seat = refl; own = own.0; are = own.1; run = none_run setting (who_of w) (holding_of before w.gateway) own.0 (tasks_begin setting tasks begin w.tasks own.0 own.1) },
      were_idle setting tasks before begin ws within.1,
    )

idle_workers : (before : Holdings) (ws : List Worker) → workers_in (map (none_by before) ws) ≡ ws
idle_workers before [] = refl
idle_workers before (w ∷ ws) = ap (λ (l : List Worker). w ∷ l) (idle_workers before ws)

idle_own : (before : Holdings) (ws : List Worker) → AllByRecursion (λ (k : Kept). k.1 ≡ of_seat k.0 []) (kept_in (map (none_by before) ws))
idle_own before [] = tt
idle_own before (w ∷ ws) = (refl, idle_own before ws)

are_within : (gateways : ℕ) (tasks : List Task) (taken : ℕ) (hs : List Hand) (ws : List Worker) → length ws ≡ length hs
    → ((place : ℕ) (h : Hand) (w : Worker) → slice_get hs place ≡ Some h → slice_get ws place ≡ Some w → (number : ℕ) × IsWorkerOf gateways tasks h number w) → AllByRecursion (Within tasks) ws
are_within gateways tasks taken hs [] long each = tt
are_within gateways tasks taken [] (w ∷ ws) long each = absurd (omega (arith, long))
are_within gateways tasks taken (h ∷ hs) (w ∷ ws) long each = (
  All-weaker (IsTaskOf gateways tasks h) (λ place. place < length tasks) (λ place t. slice_get_within tasks place t.task t.is) w.tasks (((each 0 h w refl refl).1).places).only,
  are_within gateways tasks taken hs ws (omega (arith, long)) (λ place x y one two. each (suc place) x y one two),
)

-- who has no seat made nothing
nobody_made : (made : List Entry) → All (λ (e : Entry). Contains [] e.seat) made → made ≡ []
nobody_made [] none = refl
nobody_made (e ∷ made) none = absurd (no_member e.seat (All-head (λ (x : Entry). Contains [] x.seat) e made none))

idle_run : (setting : Setting) (number : ℕ) (phase : Phase) (before after : Holdings) (kept : List Kept) (ends : List (List End)) (made : List Entry)
    → ((entries : List Entry) → All (λ (e : Entry). Contains (map (λ (k : Kept). k.0) kept) e.seat) entries → AllByRecursion (λ (k : Kept). k.1 ≡ of_seat k.0 entries) kept → PhaseRun (by_script setting) phase.tasks (workers_of setting.script number) before entries ends after)
    → AllByRecursion (λ (k : Kept). k.1 ≡ of_seat k.0 []) kept → made ≡ [] → PhaseRun (by_script setting) phase.tasks (workers_of setting.script number) before made ends after
idle_run setting number phase before after kept ends made run own none =
    subst (λ (es : List Entry). PhaseRun (by_script setting) phase.tasks (workers_of setting.script number) before es ends after) (sym none) (run [] (All-nil (λ (e : Entry). Contains (map (λ (k : Kept). k.0) kept) e.seat)) own)

-- nothing was kept: the clock was set, and the phase broke off
pub was_idle : (setting : Setting) → IsCutWell (by_script setting) → IsLawfulScript setting.script → (number : ℕ) (phase : Phase) (before : Holdings) (one : Passed) → slice_get setting.script.phases number ≡ Some phase → BeginsPhase phase one.clock → one.kept ≡ []
    → (ends : List (List End)) × (after : Holdings) × WasBegun setting number phase before one ends after
was_idle setting well lawful number phase before one at begins none =
    let ws = workers_of setting.script number in
    let gateways = gateway_count setting.script.gateways in
    let s = are_seated setting.script number phase lawful at in
    let within = are_within gateways phase.tasks (length (workers_before setting.script number)) (hands_of gateways phase.tasks) ws s.count (λ place h w here there. (length (workers_before setting.script number) + place + 1, s.each place h w here there)) in
    let made = map (none_by before) ws in
    let were = were_idle setting phase.tasks before (may_begin setting phase.tasks lawful (lawful_tasks setting number phase lawful at)) ws within in
    let staff = idle_workers before ws in
    let left = are_left setting well number before made staff in
    let run = phase_runs setting number phase before left.0 made staff were left.1 in (
      ends_in made,
      left.0,
      record { begins = begins; runs = λ entries seats are. idle_run setting number phase before left.0 (kept_in made) (ends_in made) entries run (idle_own before ws) (nobody_made entries (subst (λ (ks : List Kept). All (λ (e : Entry). Contains (map (λ (k : Kept). k.0) ks) e.seat) entries) none seats)) },
    )
