-- The run of the script of one block that was broken off in its second phase.
use Rattle.std.proofs.Common.{◌≡◌, inr, ℕ, suc, ◌+◌, ◌^◌, ◌<◌, List, [], ◌∷◌, ◌++◌, length, map, get_or, Contains, Some, None, refl, sym, ◌∙◌, ap, subst, append-nil, arith, lit<, lit≤}
use Rattle.std.specs.List.{All}
use Rattle.std.proofs.lemmas.List.Elements.{All-from_recursion}
use Rattle.world_core.specs.Operations.{IsLawful, IsReplyTo, entry_of}
use Rattle.world_core.specs.Moments.{moment_after, last_moment}
use Rattle.world_core.specs.Worlds.{IsJournal}
use Rattle.world_core.specs.Plans.{Runs, noting}
use Rattle.world_core.specs.declared.entry.Entry.{Entry}
use Rattle.world_core.specs.declared.op.Op.{Op}
use Rattle.world_core.specs.declared.op.Op.TheVariants as op
use Rattle.world_core.specs.declared.seen.Seen.{Seen}
use Rattle.world_core.proofs.PlanLaws.{answered}
use Rattle.meta_fetcher.specs.Syncs.{SyncRun, listing, with_entry}
use Rattle.meta_fetcher.specs.declared.rules.SyncRules.{SyncRules}
use Rattle.script_core.specs.Workers.{workers_of}
use Rattle.script_workers.specs.declared.phase.Phase.{Phase}
use Rattle.script_workers.specs.declared.worker.Worker.{Worker}
use Rattle.world_core.specs.Journals.{of_seat}
use Rattle.lifecycle_core.specs.Conducts.{PhaseRun, TasksRun, who_of}
use Rattle.lifecycle_core.specs.Cuts.{IsCutBehind}
use Rattle.lifecycle_core.specs.Holdings.{none_held, nothing_held}
use Rattle.lifecycle_core.specs.Phases.{IsFinished, IsRunOf, by_script, by_workers}
use Rattle.lifecycle_core.specs.Tasks.{End, sync_rules}
use Rattle.lifecycle_core.specs.Ways.{IsOperationDue, PhasesRun}
use Rattle.lifecycle_core.proofs.phases.OneCut.{cut_is_unfinished, cuts_tell}
use Rattle.tests_worked.specs.OneBlock as one
use Rattle.tests_worked.specs.CutRun as broken
use Rattle.tests_worked.specs.Entries.{clock}
use Rattle.tests_worked.proofs.small.Each.{by_workers_alone, each_of}
use Rattle.tests_worked.proofs.one.OneBlock.{first_done, first_ends, first_phase, first_tasks, first_workers, gateway, second_own, second_tasks, second_workers}

-- ---- what is left of the second phase

-- a sync may be broken off behind its first page
first_page : (rules : SyncRules) (more : ℕ) (e : Entry) → e.op ≡ op.RootPage [] rules.page_limit → Runs (noting with_entry None (listing rules (suc more) [])) (e ∷ []) None
first_page rules more e is = answered (noting with_entry None (listing rules (suc more) [])) e (ap (λ (o : Op). Some o) (sym is))

abbrev no_ends : List (List End)
no_ends = [] ∷ []

-- with these entries of the sync
module _ (made : List Entry) (seats : All (λ (e : Entry). Contains (2 ∷ []) e.seat) made) (own : of_seat 2 made ≡ made) (run : SyncRun (sync_rules one.setting 0) made None) where
  tasks_run : TasksRun (by_script one.setting) (who_of gateway) made nothing_held second_own (of_seat 2 made) [] nothing_held
  tasks_run = subst (λ (es : List Entry). TasksRun (by_script one.setting) (who_of gateway) made nothing_held second_own es [] nothing_held) (sym own) (inr ((None, run, refl, refl), refl))

  second_phase : PhaseRun (by_script one.setting) second_tasks (gateway ∷ []) none_held made no_ends none_held
  second_phase = record {
    seats = by_workers_alone (2 ∷ []) made seats;
    runs = (
      record {
        own = second_own;
        are = ((refl, refl), ((refl, refl), refl));
        last = nothing_held;
        runs = tasks_run;
        leaves = λ other is. refl;
      },
      tt,
    );
    kept = λ other none. refl;
  }

  phases : PhasesRun (by_workers one.setting) 0 none_held one.script.phases (clock 1 0 ∷ one.upload ++ clock 6 1_800_000 ∷ made) (first_ends ∷ no_ends ∷ [])
  phases = inr (
    clock 1 0,
    one.upload,
    clock 6 1_800_000 ∷ made,
    first_ends,
    no_ends ∷ [],
    none_held,
    refl,
    record { seat = refl; sets = refl },
    subst (λ (ws : List Worker). PhaseRun (by_script one.setting) first_tasks ws none_held one.upload first_ends none_held) (sym first_workers) first_phase,
    refl,
    inr (
      clock 6 1_800_000,
      made,
      [],
      no_ends,
      [],
      none_held,
      ap (λ (es : List Entry). clock 6 1_800_000 ∷ es) (sym (append-nil made)),
      record { seat = refl; sets = refl },
      subst (λ (ws : List Worker). PhaseRun (by_script one.setting) second_tasks ws none_held made no_ends none_held) (sym second_workers) second_phase,
      refl,
      (refl, refl),
    ),
  )

-- ---- the cut

kept : IsJournal 1 broken.journal
kept = record {
  few = lit≤ tt;
  numbered = each_of (λ before e. e.seq ≡ length before + 1) broken.journal (refl, (refl, (refl, (refl, (refl, (refl, tt))))));
  lawful = each_of (λ before e. IsLawful e.op) broken.journal (lit< tt, (tt, ((lit≤ tt, lit≤ tt), (tt, (tt, (lit< tt, tt))))));
  kinds = each_of (λ before e. IsReplyTo e.op e.reply) broken.journal (tt, (tt, (tt, (tt, (tt, (tt, tt))))));
  moments = each_of (λ before e. e.moment.ms ≡ moment_after 1 (last_moment before) e.op) broken.journal (refl, (refl, (refl, (refl, (refl, (refl, tt))))));
  small = each_of (λ before e. e.moment.ms < 2 ^ 48) broken.journal (lit< tt, (lit< tt, (lit< tt, (lit< tt, (lit< tt, (lit< tt, tt))))));
}

none_made : All (λ (e : Entry). Contains (2 ∷ []) e.seat) []
none_made = All-from_recursion (λ (e : Entry). Contains (2 ∷ []) e.seat) [] tt

abbrev page : Seen → Entry
page seen = entry_of 2 (op.RootPage [] 1_000) seen

page_made : (seen : Seen) → All (λ (e : Entry). Contains (2 ∷ []) e.seat) (page seen ∷ [])
page_made seen = All-from_recursion (λ (e : Entry). Contains (2 ∷ []) e.seat) (page seen ∷ []) ((0, lit< tt, refl), tt)

due : IsOperationDue (by_workers one.setting) none_held one.script.phases broken.journal broken.told
due = (2, (op.RootPage [] 1_000, lit≤ tt, λ seen answer. (no_ends, phases (page seen ∷ []) (page_made seen) refl (first_page (sync_rules one.setting 0) 999_999 (page seen) refl))))

not_done : ¬ (map (λ (w : Worker). length w.tasks) (workers_of one.script 1) ≡ map length no_ends)
not_done same = let is : 2 ∷ [] ≡ 0 ∷ [] = sym (ap (map (λ (w : Worker). length w.tasks)) second_workers) ∙ same in omega (arith, ap (λ (l : List ℕ). get_or l 0 0) is)

pub behind_first : IsCutBehind one.setting broken.journal broken.done broken.told
behind_first = record {
  left = record { line = 7; moment = record { ms = 1_800_000 }; tasks = second_tasks } ∷ [];
  phases = refl;
  more = λ none. absurd (cc (none));
  untold = no_ends ∷ [];
  run = record { kept = kept; phases = phases [] none_made refl refl };
  finished = (first_done, refl);
  unfinished = (not_done, refl);
  due = λ begun. due;
}

pub only_first : (also : List Phase) (other : List (List (List End))) → IsCutBehind one.setting broken.journal also other → (also ≡ broken.done) × (other ≡ broken.told)
only_first also other cut = cuts_tell one.setting broken.journal also broken.done other broken.told cut behind_first

pub unfinished : (ends : List (List (List End))) → IsRunOf one.setting broken.journal ends → ¬ IsFinished one.setting ends
unfinished ends run full = cut_is_unfinished one.setting broken.journal broken.done broken.told ends behind_first run full
