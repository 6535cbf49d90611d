-- A run beside, from an empty journal to the world that comes out again.
use Rattle.std.proofs.Common.{◌≡◌, ℕ, List, [], length, sym, ap, subst}
use Rattle.std.specs.Prelude.{Ok, Err, Result}
use Rattle.std.specs.List.{All}
use Rattle.base.proofs.Lists.{take_none}
use Rattle.base.proofs.Membership.{All-place}
use Rattle.world_core.specs.Worlds.{IsJournal}
use Rattle.world_core.specs.declared.entry.Entry.{Entry}
use Rattle.world_turn.specs.Closing.{AllJoined, Closes}
use Rattle.world_turn.specs.Rule.{Opened, root}
use Rattle.world_turn.specs.declared.view.View.{View as Known}
use Rattle.script_workers.specs.Hands.{gateway_count, seats_from}
use Rattle.script_core.specs.Lawful.{IsLawfulScript}
use Rattle.script_core.specs.Workers.{seats_before}
use Rattle.script_core.specs.declared.script.Script.{Script}
use Rattle.script_workers.specs.declared.task.Task.{Task}
use Rattle.lifecycle_core.specs.Setting.{Setting}
use Rattle.lifecycle_core.proofs.phases.Fronts.{script_is_cut_well}
use Rattle.script_running.specs.Beside.{HasRunBeside}
use Rattle.script_running.specs.Going.{HasCome, HasGone}
use Rattle.script_running.specs.Reporting.{HasToldFirst}
use Rattle.script_running.specs.declared.came.Broken.{Broken}
use Rattle.script_running.specs.Outcomes.{Outcome}
use Rattle.script_running.proofs.Closing.{all_ran, all_stopped}
use Rattle.script_running.proofs.Going.{gone_none}
use Rattle.script_running.proofs.Reporting.{told_whole}
use Rattle.script_running.specs.Sights.{no_sight}
use Rattle.script_running.specs.declared.progress.Progress.{Progress}
use Rattle.script_running.specs.declared.sight.Sight.{Sight}

-- no phase takes a seat
pub none_before : (script : Script) → seats_before script 0 ≡ 0
unfolding seats_from
none_before script = ap (seats_from (gateway_count script.gateways) 0) (take_none script.phases)

pub first_gone : (setting : Setting) (opened : Opened) (known : Known) (sights : List Sight) (outcomes : List Outcome) → known ≡ root opened → length sights ≡ length setting.script.gateways → All (λ (sight : Sight). sight ≡ no_sight) sights → outcomes ≡ [] → HasGone setting known [] sights outcomes
first_gone setting opened known sights outcomes is each none empty =
    subst (HasGone setting known [] sights) (sym empty) (gone_none setting opened known sights is each (λ place sight at. All-place (λ (sight : Sight). sight ≡ no_sight) sights place sight none at))

-- how a run came out, and of what its report tells
abbrev pub HasRunAndTold : {P : Type 0} → (P → Script → List Task → List Outcome → Type 0) → Setting → List Entry → P → Result (Unit {0}) Broken → Type 0
HasRunAndTold tells setting journal report came = (outcomes : List Outcome) × HasRunBeside setting journal outcomes came × HasToldFirst tells setting.script report outcomes came

pub run_came : {P : Type 0} (tells : P → Script → List Task → List Outcome → Type 0) (setting : Setting) (root : Known) (tick : ℕ) (journal : List Entry) (progress : Progress P) (came : Result (Unit {0}) Broken) → IsLawfulScript setting.script → Closes root tick journal → AllJoined root → IsJournal tick journal → tick ≡ setting.script.rules.tick.ms
    → HasCome tells setting root setting.script.phases progress came → HasRunAndTold tells setting journal progress.report came
run_came tells setting root tick journal progress (Ok done) lawful closes joined kept same come =
    (come.outcomes, all_ran setting (script_is_cut_well setting) root tick journal closes joined (subst (λ (t : ℕ). IsJournal t journal) same kept) progress.sights.items come.outcomes come.gone, told_whole tells setting root progress come)
run_came tells setting root tick journal progress (Err why) lawful closes joined kept same come =
    (come.outcomes, all_stopped setting (script_is_cut_well setting) root tick journal closes joined (subst (λ (t : ℕ). IsJournal t journal) same kept) lawful come.outcomes why come.stopped, come.told)
