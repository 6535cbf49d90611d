-- A run beside before its first phase, and after one more.
use Rattle.std.proofs.Common.{◌≡◌, ℕ, ◌+◌, ◌<◌, List, [], ◌∷◌, ◌++◌, length, Some, refl, sym, ◌∙◌, ap, subst, append_assoc, append-nil, arith}
use Rattle.std.specs.Prelude.{slice_get}
use Rattle.std.specs.List.{All}
use Rattle.std.proofs.lemmas.List.Elements.{All-nil}
use Rattle.world_core.specs.declared.entry.Entry.{Entry}
use Rattle.world_turn.specs.Rule.{Opened, root}
use Rattle.world_turn.specs.declared.view.View.{View as Known}
use Rattle.script_core.specs.Workers.{workers_of}
use Rattle.script_core.specs.declared.script.Script.{Script}
use Rattle.script_workers.specs.declared.phase.Phase.{Phase}
use Rattle.lifecycle_core.specs.Conducts.{AreDone}
use Rattle.lifecycle_core.specs.Holdings.{Holdings, none_held, nothing_held}
use Rattle.lifecycle_core.specs.Phases.{by_workers}
use Rattle.lifecycle_core.specs.Setting.{Setting}
use Rattle.lifecycle_core.specs.Tasks.{End}
use Rattle.lifecycle_core.specs.Ways.{AreFinished, Way}
use Rattle.script_running.specs.Begun.{WasBegun}
use Rattle.script_running.specs.Beside.{AreSeen}
use Rattle.script_running.specs.Cutting.{KnowsPhases, Passed}
use Rattle.script_running.specs.Going.{HasGone}
use Rattle.script_running.specs.Outcomes.{Outcome, PhasesCame, TasksCame}
use Rattle.script_running.proofs.Begun.{begun_more}
use Rattle.script_running.specs.Sights.{Sees, no_sight}
use Rattle.script_running.specs.declared.sight.Sight.{Sight}

finished_more : {State Ends : Type 0} (way : Way State Ends) (number : ℕ) (done : List Phase) (told : List Ends) (phase : Phase) (own : Ends) → AreFinished way number done told → way.is_done (number + length done) phase own → AreFinished way number (done ++ phase ∷ []) (told ++ own ∷ [])
finished_more way number [] [] phase own finished is = let same : number + 0 ≡ number = omega arith in (subst (λ (n : ℕ). way.is_done n phase own) same is, refl)
finished_more way number [] (x ∷ told) phase own finished is = absurd (cc (finished))
finished_more way number (p ∷ done) [] phase own finished is = absurd finished
finished_more way number (p ∷ done) (x ∷ told) phase own finished is =
    let same : number + length (p ∷ done) ≡ (number + 1) + length done = omega arith in
    (finished.0, finished_more way (number + 1) done told phase own finished.1 (subst (λ (n : ℕ). way.is_done n phase own) same is))

came_more : (script : Script) (number : ℕ) (done : List Phase) (told : List (List (List End))) (outcomes : List Outcome) (phase : Phase) (ends : List (List End)) (own : List Outcome) → PhasesCame script number done told outcomes
    → TasksCame script (workers_of script (number + length done)) ends 0 phase.tasks own → PhasesCame script number (done ++ phase ∷ []) (told ++ ends ∷ []) (outcomes ++ own)
came_more script number [] [] outcomes phase ends own came tasks =
    let same : number + 0 ≡ number = omega arith in
    (own, [], ap (λ l. l ++ own) came.1 ∙ sym (append-nil own), subst (λ (n : ℕ). TasksCame script (workers_of script n) ends 0 phase.tasks own) same tasks, (refl, refl))
came_more script number [] (x ∷ told) outcomes phase ends own came tasks = absurd (cc (came.0))
came_more script number (p ∷ done) [] outcomes phase ends own came tasks = absurd came
came_more script number (p ∷ done) (x ∷ told) outcomes phase ends own (first, others, is, here, rest) tasks =
    let same : number + length (p ∷ done) ≡ (number + 1) + length done = omega arith in (
      first,
      others ++ own,
      ap (λ l. l ++ own) is ∙ append_assoc first others own,
      here,
      came_more script (number + 1) done told others phase ends own rest (subst (λ (n : ℕ). TasksCame script (workers_of script n) ends 0 phase.tasks own) same tasks),
    )

-- one phase more was finished
pub gone_more : (setting : Setting) (before after : Known) (done : List Phase) (sights seen : List Sight) (outcomes own : List Outcome) (phase : Phase) (one : Passed) (ends : List (List End)) (next : Holdings) (g : HasGone setting before done sights outcomes)
    → WasBegun setting (length done) phase g.held one ends next → AreDone (workers_of setting.script (length done)) ends → TasksCame setting.script (workers_of setting.script (length done)) ends 0 phase.tasks own
    → KnowsPhases after (g.passed ++ one ∷ []) → length seen ≡ length sights → AreSeen next seen → HasGone setting after (done ++ phase ∷ []) seen (outcomes ++ own)
gone_more setting before after done sights seen outcomes own phase one ends next g was all came knows same sees =
    let first : length done ≡ 0 + length done = omega arith in
    let f = g.so_far in
    record {
      passed = g.passed ++ one ∷ [];
      held = next;
      so_far = record {
        told = f.told ++ ends ∷ [];
        begun = begun_more setting 0 none_held g.held next done g.passed f.told phase one ends f.begun (subst (λ (n : ℕ). WasBegun setting n phase g.held one ends next) first was);
        finished = finished_more (by_workers setting) 0 done f.told phase ends f.finished (subst (λ (n : ℕ). AreDone (workers_of setting.script n) ends) first all);
      };
      knows = knows;
      came = came_more setting.script 0 done f.told outcomes phase ends own g.came (subst (λ (n : ℕ). TasksCame setting.script (workers_of setting.script n) ends 0 phase.tasks own) first came);
      each = same ∙ g.each;
      seen = sees;
    }

-- before the first phase no gateway has done anything
pub gone_none : (setting : Setting) (opened : Opened) (known : Known) (sights : List Sight) → known ≡ root opened → length sights ≡ length setting.script.gateways → ((place : ℕ) (sight : Sight) → slice_get sights place ≡ Some sight → sight ≡ no_sight) → HasGone setting known [] sights []
gone_none setting opened known sights is each none = record {
  passed = [];
  held = none_held;
  so_far = record { told = []; begun = refl; finished = refl };
  knows = record {
    own = ap (λ (v : Known). v.own) is;
    joined = ap (λ (v : Known). v.joined) is;
    seats = All-nil (λ (one : Passed). All (λ (kept : ℕ × List Entry). 0 < kept.0) one.kept);
    apart = tt;
  };
  came = (refl, refl);
  each = each;
  seen = λ place sight at. subst (Sees nothing_held) (sym (none place sight at)) (record { view_is = refl; cache_is = refl });
}
