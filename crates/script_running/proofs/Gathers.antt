-- What the ends of a phase's workers come to together.
use Rattle.std.proofs.Common.{◌≡◌, ℕ, List, length, refl, sym, ◌∙◌, subst, arith}
use Rattle.std.specs.Prelude.{Ok}
use Rattle.script_workers.specs.Hands.{gateway_count, hands_of}
use Rattle.script_workers.specs.Staff.{AreSeated}
use Rattle.script_workers.specs.declared.task.Task.{Task}
use Rattle.script_workers.specs.declared.worker.Worker.{Worker}
use Rattle.script_workers.proofs.StaffLaws.{is_staff}
use Rattle.script_core.proofs.SeatLaws.{are_seated}
use Rattle.script_core.specs.Lawful.{IsLawfulScript}
use Rattle.script_core.specs.declared.script.Script.{Script}
use Rattle.script_core.specs.Workers.{workers_before, workers_of}
use Rattle.lifecycle_core.specs.Conducts.{AreDone}
use Rattle.lifecycle_core.specs.Setting.{Setting}
use Rattle.script_running.specs.Begun.{ends_in, workers_in}
use Rattle.script_running.specs.Gathering.{AreInTurn, AreJoined, AreSeenBeside, AreTakenIn, AreTold, HasGathered, HaveCome, Joined, parts_at}
use Rattle.script_running.specs.Reporting.{AddsTo}
use Rattle.script_running.specs.declared.gathering.Staffed.{Staffed}
use Rattle.script_running.specs.declared.gathering.TaskParts.{TaskParts}
use Rattle.script_running.specs.declared.progress.Progress.{Progress}
use Rattle.script_running.specs.Outcomes.{Outcome, TasksCame}
use Rattle.script_running.specs.declared.sight.Sight.{Sight}
use Rattle.script_running.specs.declared.worker.WorkerEnd.{WorkerEnd}
use Rattle.script_running.proofs.Gathered.{gathered}

-- all came to their ends
module _ {P : Type 0} (tells : P → Script → List Task → List Outcome → Type 0) (setting : Setting) (staffed : Staffed) (others : List WorkerEnd) (before : Progress P) (one : Joined) (j : AreJoined setting staffed others before.sights.items one) where
  pub came_whole : (after : Progress P) (backs : List (Worker × WorkerEnd)) (lists : List TaskParts) → HaveCome others (Ok tt) → AreInTurn staffed.workers.now others backs → AreTakenIn backs before.sights.items after.sights.items lists
      → (own : List Outcome) × AreTold (parts_at lists) 0 staffed.tasks.now own × AddsTo tells staffed.script.now staffed.tasks.now own before.report after.report → HasGathered tells setting one before after
  came_whole after backs lists all turns taken told =
      let gateways = gateway_count setting.script.gateways in
      let tasks = (one.phase).tasks in
      let staff : workers_in one.made ≡ workers_of setting.script one.number = j.workers ∙ j.staff in
      let seated = subst (AreSeated gateways tasks (hands_of gateways tasks) (length (workers_before setting.script one.number))) (sym staff) (are_seated setting.script one.number one.phase j.lawful j.at) in
      let own : AreTold (parts_at lists) 0 tasks told.0 = subst (λ (ts : List Task). AreTold (parts_at lists) 0 ts told.0) j.tasks told.1 in
      let turned = subst (λ (ws : List Worker). AreInTurn ws others backs) (sym j.workers) turns in
      let beside = subst (λ (ws : List Worker). AreSeenBeside one.before ws before.sights.items) (sym j.workers) j.beside in
      let g = gathered setting one.number one.phase (length (workers_before setting.script one.number)) (is_staff gateways tasks) one.made seated one.before one.after one.front others j.have j.left j.lawful all backs turned
      before.sights.items after.sights.items lists told.0 taken own beside in
      record {
        done = subst (λ (ws : List Worker). AreDone ws (ends_in one.made)) staff g.0;
        seen = g.1;
        own = told.0;
        came = subst (λ (ws : List Worker). TasksCame setting.script ws (ends_in one.made) 0 tasks told.0) staff g.2;
        told = subst (λ (s : Script). AddsTo tells s tasks told.0 before.report after.report) j.script_is (subst (λ (ts : List Task). AddsTo tells staffed.script.now ts told.0 before.report after.report) j.tasks told.2);
      }

-- as many gateways see something as are counted
pub gateways_counted : (script : Script) → IsLawfulScript script → (sights : List Sight) → length sights ≡ length script.gateways → length sights ≡ gateway_count script.gateways
gateways_counted script lawful sights each = omega (arith, each, lawful.few_gateways)
