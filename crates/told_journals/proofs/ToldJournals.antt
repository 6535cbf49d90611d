-- Journals that are taken at their word: their fronts, their one account, and the first entry that is refused.
use Rattle.std.proofs.Common.{◌≡◌, ◌⊎◌, inl, inr, ℕ, ◌+◌, ◌-◌, ◌<◌, ◌≤◌, List, [], ◌∷◌, ◌++◌, length, map, take, drop, refl, sym, ◌∙◌, ap, subst, arith}
use Rattle.std.specs.List.{AllZip}
use Rattle.std.proofs.lemmas.Bool.{cases_lt, cases_order}
use Rattle.std.proofs.lemmas.List.{length-take-le, take-append-drop}
use Rattle.world_core.specs.Worlds.{IsJournal}
use Rattle.world_core.specs.declared.entry.Entry.{Entry}
use Rattle.script_core.specs.Workers.{workers_of}
use Rattle.script_workers.specs.declared.phase.Phase.{Phase}
use Rattle.script_workers.specs.declared.task.Task.{Task}
use Rattle.script_workers.specs.declared.worker.Worker.{Worker}
use Rattle.lifecycle_core.specs.Conducts.{AreDone, WorkerRun, who_of}
use Rattle.lifecycle_core.specs.Holdings.{Holdings, holding_of, none_held}
use Rattle.lifecycle_core.specs.Phases.{IsFinished, IsRunOf, by_script, by_workers}
use Rattle.lifecycle_core.specs.Setting.{Setting}
use Rattle.lifecycle_core.specs.Tasks.{End}
use Rattle.lifecycle_core.specs.Ways.{AreFinished, PhasesRun}
use Rattle.lifecycle_core.proofs.deeds.Fronts.{journal_front}
use Rattle.lifecycle_core.proofs.phases.Fronts.{phases_front}
use Rattle.lifecycle_core.proofs.phases.TaskRuns.{tasks_long}
use Rattle.world_core.specs.Journals.{of_seat}
use Rattle.told_journals.proofs.PhaseCuts.{shorter, told_phase_front}
use Rattle.told_journals.proofs.PhaseSteps.{begun_back, starts}
use Rattle.told_journals.proofs.WorkersAsk.{told_whole, untold}
use Rattle.told_journals.specs.SoFar.{BeginsAnew, IsRefusedAt, Ran, RanAll}
use Rattle.told_journals.specs.Told.{IsFirstRefused, IsTold, as_told, told_way}

module _ (setting : Setting) where
  abbrev tick : ℕ
  tick = setting.script.rules.tick.ms

  -- ---- fronts

  ran_front : (front others : List Entry) (ends : List (List (List End))) → RanAll setting (front ++ others) ends → (own : List (List (List End))) × RanAll setting front own
  ran_front front others ends run =
      phases_front (told_way setting) (λ number phase before xs ys own after works. told_phase_front setting number phase.tasks before xs ys own after works) 0 none_held setting.script.phases front others ends run

  ran_take : (count : ℕ) (entries : List Entry) (ends : List (List (List End))) → RanAll setting entries ends → (own : List (List (List End))) × RanAll setting (take count entries) own
  ran_take count entries ends run = ran_front (take count entries) (drop count entries) ends (subst (λ es. RanAll setting es ends) (sym (take-append-drop count entries)) run)

  journal_take : (count : ℕ) (entries : List Entry) → IsJournal tick entries → IsJournal tick (take count entries)
  journal_take count entries journal = journal_front tick (take count entries) (drop count entries) (subst (IsJournal tick) (sym (take-append-drop count entries)) journal)

  pub told_by : (entries : List Entry) (ends : List (List (List End))) → IsJournal tick entries → RanAll setting entries ends → IsTold setting entries
  told_by entries ends journal run = (ends, record { kept = journal; phases = run })

  -- a front of a journal that is told is told
  pub told_take : (count : ℕ) (entries : List Entry) → IsTold setting entries → IsTold setting (take count entries)
  told_take count entries (ends, run) = let front = ran_take count entries ends run.phases in told_by (take count entries) front.0 (journal_take count entries run.kept) front.1

  -- ---- one account

  ran_anew : (number : ℕ) (before : Holdings) (phases : List Phase) (entries : List Entry) (ends : List (List (List End))) → Ran setting number before phases entries ends → BeginsAnew entries
  ran_anew number before phases [] ends run e is = absurd (cc (is))
  ran_anew number before phases (y ∷ zs) ends run e is = let same : y ≡ e = cc (is) in ap (λ (x : Entry). x.seat) (sym same) ∙ starts setting number before phases y zs ends run

  ran_once : (phases : List Phase) (number : ℕ) (before : Holdings) (entries : List Entry) (one other : List (List (List End))) → Ran setting number before phases entries one → Ran setting number before phases entries other → one ≡ other
  ran_once [] number before entries one other a b = a.1 ∙ sym b.1
  ran_once (phase ∷ phases) number before entries one other (inl a) (inl b) = a.1 ∙ sym b.1
  ran_once (phase ∷ phases) number before entries one other (inl a) (inr (clock, made, others, first, later, after, parts, begins, run, are, go)) = absurd (cc (a.0, parts))
  ran_once (phase ∷ phases) number before entries one other (inr (clock, made, others, first, later, after, parts, begins, run, are, go)) b =
      let back = begun_back setting number before phase phases clock begins made others first after other run (ran_anew (number + 1) after phases others later go) (subst (λ es. Ran setting number before (phase ∷ phases) es other) parts b) in
      are ∙ ap (λ ends. first ∷ ends) (ran_once phases (number + 1) after others later back.0 go back.1) ∙ sym back.2

  pub one_account : (entries : List Entry) (one other : List (List (List End))) → RanAll setting entries one → RanAll setting entries other → one ≡ other
  one_account entries one other a b = ran_once setting.script.phases 0 none_held entries one other a b

  -- ---- runs that have come to their end are taken at their word

  all_told : (tasks : List Task) (before : Holdings) (entries : List Entry) (after : Holdings) (ws : List Worker) (ends : List (List End)) → map (λ (w : Worker). length w.tasks) ws ≡ map length ends
      → AllZip (WorkerRun (by_script setting) tasks before entries after) ws ends → AllZip (WorkerRun (as_told setting) tasks before entries after) ws ends
  all_told tasks before entries after [] [] done all = tt
  all_told tasks before entries after [] (own ∷ ends) done all = absurd all
  all_told tasks before entries after (w ∷ ws) [] done all = absurd all
  all_told tasks before entries after (w ∷ ws) (own ∷ ends) done all =
      let r = all.0 in
      let long : length w.tasks ≡ length own = cc (done) in
      let full : length own ≡ length r.own = sym long ∙ sym (tasks_long tasks w.tasks r.own r.are) in (
        record { own = r.own; are = r.are; last = r.last; runs = told_whole setting (who_of w) entries (holding_of before w.gateway) r.last r.own (of_seat w.seat entries) own r.runs full; leaves = r.leaves },
        all_told tasks before entries after ws ends (cc (done)) all.1,
      )

  pub finished_told : (phases : List Phase) (number : ℕ) (before : Holdings) (entries : List Entry) (ends : List (List (List End))) → PhasesRun (by_workers setting) number before phases entries ends → AreFinished (by_workers setting) number phases ends
      → Ran setting number before phases entries ends
  finished_told [] number before entries ends run done = run
  finished_told (phase ∷ phases) number before entries [] (inl none) done = inl none
  finished_told (phase ∷ phases) number before entries (own ∷ ends) (inl none) done = absurd (cc (none.1))
  finished_told (phase ∷ phases) number before entries [] (inr (clock, made, others, first, later, after, parts, begins, run, are, go)) done = absurd (cc (are))
  finished_told (phase ∷ phases) number before entries (own ∷ ends) (inr (clock, made, others, first, later, after, parts, begins, run, are, go)) done =
      let same : own ≡ first = cc (are) in
      let rest : ends ≡ later = cc (are) in
      let whole : AreDone (workers_of setting.script number) first = subst (AreDone (workers_of setting.script number)) same done.0 in
      inr (
        clock,
        made,
        others,
        first,
        later,
        after,
        parts,
        begins,
        record { seats = run.seats; runs = all_told phase.tasks before made after (workers_of setting.script number) first whole run.runs; kept = run.kept },
        are,
        finished_told phases (number + 1) after others later go (subst (AreFinished (by_workers setting) (number + 1) phases) rest done.1),
      )

  pub finished_same : (phases : List Phase) (number : ℕ) (ends : List (List (List End))) → AreFinished (by_workers setting) number phases ends → AreFinished (told_way setting) number phases ends
  finished_same [] number ends done = done
  finished_same (phase ∷ phases) number [] done = absurd done
  finished_same (phase ∷ phases) number (own ∷ ends) done = (done.0, finished_same phases (number + 1) ends done.1)

  pub same_finished : (phases : List Phase) (number : ℕ) (ends : List (List (List End))) → AreFinished (told_way setting) number phases ends → AreFinished (by_workers setting) number phases ends
  same_finished [] number ends done = done
  same_finished (phase ∷ phases) number [] done = absurd done
  same_finished (phase ∷ phases) number (own ∷ ends) done = (done.0, same_finished phases (number + 1) ends done.1)

  -- ---- what is taken at its word is a run

  all_untold : (tasks : List Task) (before : Holdings) (entries : List Entry) (after : Holdings) (ws : List Worker) (ends : List (List End)) → AllZip (WorkerRun (as_told setting) tasks before entries after) ws ends → AllZip (WorkerRun (by_script setting) tasks before entries after) ws ends
  all_untold tasks before entries after [] [] all = tt
  all_untold tasks before entries after [] (own ∷ ends) all = absurd all
  all_untold tasks before entries after (w ∷ ws) [] all = absurd all
  all_untold tasks before entries after (w ∷ ws) (own ∷ ends) all =
      let r = all.0 in (
        record { own = r.own; are = r.are; last = r.last; runs = untold setting (who_of w) entries (holding_of before w.gateway) r.last r.own (of_seat w.seat entries) own r.runs; leaves = r.leaves },
        all_untold tasks before entries after ws ends all.1,
      )

  ran_untold : (phases : List Phase) (number : ℕ) (before : Holdings) (entries : List Entry) (ends : List (List (List End))) → Ran setting number before phases entries ends → PhasesRun (by_workers setting) number before phases entries ends
  ran_untold [] number before entries ends run = run
  ran_untold (phase ∷ phases) number before entries ends (inl none) = inl none
  ran_untold (phase ∷ phases) number before entries ends (inr (clock, made, others, first, later, after, parts, begins, run, are, go)) =
      inr (clock, made, others, first, later, after, parts, begins, record { seats = run.seats; runs = all_untold phase.tasks before made after (workers_of setting.script number) first run.runs; kept = run.kept }, are, ran_untold phases (number + 1) after others later go)

  pub run_of : (entries : List Entry) (ends : List (List (List End))) → IsJournal tick entries → RanAll setting entries ends → IsRunOf setting entries ends
  run_of entries ends journal run = record { kept = journal; phases = ran_untold setting.script.phases 0 none_held entries ends run }

  -- ---- the first that is refused

  pub by_entry : (journal : List Entry) (count number : ℕ) → count ≤ length journal → IsJournal tick (take count journal) → IsRefusedAt setting (take count journal) number → IsFirstRefused setting journal number
  by_entry journal count number within kept refused =
      let long : length (take count journal) ≡ count = length-take-le count journal within in
      let below : number ≤ count = (let a = refused.to in omega (arith, a, long)) in
      record {
        fronts = λ other less.
            let told = told_by (take (number - 1) (take count journal)) (refused.before).0 (journal_take (number - 1) (take count journal) kept) (refused.before).1 in
            let one = told_take other (take (number - 1) (take count journal)) told in
            subst (IsTold setting) (shorter (take count journal) other (number - 1) (omega (arith, less)) ∙ shorter journal other count (omega (arith, less, below))) one;
        here = λ some told. refused.here told.0 (subst (λ es. RanAll setting es told.0) (sym (shorter journal number count below)) (told.1).phases);
        beyond = λ past. absurd (omega (arith, past, below, within));
      }

  pub by_walk : (journal : List Entry) (count : ℕ) (ends : List (List (List End))) → count < length journal → IsJournal tick (take count journal) → (¬ IsJournal tick (take (count + 1) journal)) → RanAll setting (take count journal) ends → IsFirstRefused setting journal (count + 1)
  by_walk journal count ends within kept bad run = record {
    fronts = λ other less. subst (IsTold setting) (shorter journal other count (omega (arith, less))) (told_take other (take count journal) (told_by (take count journal) ends kept run));
    here = λ some told. bad (told.1).kept;
    beyond = λ past. absurd (omega (arith, past, within));
  }

  pub by_end : (journal : List Entry) (ends : List (List (List End))) → IsJournal tick journal → RanAll setting journal ends → (¬ AreFinished (told_way setting) 0 setting.script.phases ends) → IsFirstRefused setting journal (length journal + 1)
  by_end journal ends kept run short = record {
    fronts = λ other less. told_take other journal (told_by journal ends kept run);
    here = λ some told. absurd (omega (arith, some));
    beyond = λ past. (
      refl,
      λ own other finished.
          let told = finished_told setting.script.phases 0 none_held journal own other.phases finished in
          short (subst (AreFinished (told_way setting) 0 setting.script.phases) (one_account journal own ends told run) (finished_same setting.script.phases 0 own finished)),
    );
  }

  -- ---- there is one first refusal, and none of a whole run

  not_before : (journal : List Entry) (one other : ℕ) → IsFirstRefused setting journal one → IsFirstRefused setting journal other → one < other → ⊥
  not_before journal one other a b less = by_length (cases_lt (length journal) one)
    where
      by_length : (length journal < one) ⊎ (one ≤ length journal) → ⊥
      by_length (inr within) = a.here within (b.fronts one less)
      by_length (inl past) = let first = (a.beyond past).0 in let second = (b.beyond (omega (arith, past, less))).0 in omega (arith, first, second, less)

  pub whole_unrefused : (journal : List Entry) (ends : List (List (List End))) (number : ℕ) → IsRunOf setting journal ends → IsFinished setting ends → ¬ IsFirstRefused setting journal number
  whole_unrefused journal ends number run finished refused = by_length (cases_lt (length journal) number)
    where
      by_length : (length journal < number) ⊎ (number ≤ length journal) → ⊥
      by_length (inr within) = refused.here within (told_take number journal (told_by journal ends run.kept (finished_told setting.script.phases 0 none_held journal ends run.phases finished)))
      by_length (inl past) = (refused.beyond past).1 ends run finished

pub one_refusal : (setting : Setting) (journal : List Entry) (one other : ℕ) → IsFirstRefused setting journal one → IsFirstRefused setting journal other → one ≡ other
one_refusal setting journal one other a b =
    elim (cases_order one other) [
      | inl same ↦ same
      | inr apart ↦ elim apart [ inl less ↦ absurd (not_before setting journal one other a b less) | inr more ↦ absurd (not_before setting journal other one b a more) ]
    ]
