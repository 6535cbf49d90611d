-- A missing object that a report tells of is one that a call or a compaction found missing.
use Rattle.base.proofs.Membership.{contains_first, contains_later, member_cases, no_member}
use Rattle.std.proofs.Common.{◌≡◌, inl, inr, ℕ, zero, suc, ◌+◌, ℤ, Bool, List, [], ◌∷◌, ◌++◌, Contains, Option, refl, sym, ◌∙◌, ap, subst, arith, Some, map}
use Rattle.std.specs.List.{AllZip}
use Rattle.std.proofs.lemmas.List.Elements.{Contains-append_cases, Contains-append_left}
use Rattle.world_core.specs.declared.entry.Entry.{Entry}
use Rattle.compactor.specs.declared.compact_end.CompactEnd.{CompactEnd}
use Rattle.compactor.specs.declared.compact_end.CompactEnd.TheVariants as merged
use Rattle.store_calls.specs.declared.series_call.SeriesEnd.{SeriesEnd}
use Rattle.store_calls.specs.declared.series_call.SeriesEnd.TheVariants as called
use Rattle.script_workers.specs.Hands.{gateway_count, gateway_of, hands_of_task}
use Rattle.script_core.specs.Workers.{workers_of}
use Rattle.script_core.specs.declared.script.Script.{Script}
use Rattle.script_workers.specs.declared.hand.Hand.{Hand}
use Rattle.script_workers.specs.declared.phase.Phase.{Phase}
use Rattle.script_workers.specs.declared.task.Task.{Task}
use Rattle.script_workers.specs.declared.work.Work.{Work}
use Rattle.script_workers.specs.declared.work.Work.TheVariants as work
use Rattle.script_workers.specs.declared.worker.Worker.{Worker}
use Rattle.call_verdicts.specs.lifecycle_core.specs.Breaches.{watched}
use Rattle.call_verdicts.specs.lifecycle_core.specs.Causes.{IsBlamedInCompaction, IsExplained, IsExplainedBy, SomeCame}
use Rattle.call_verdicts.specs.lifecycle_core.specs.Conducts.{CameTo}
use Rattle.call_verdicts.specs.lifecycle_core.specs.Holdings.{Use}
use Rattle.call_verdicts.specs.lifecycle_core.specs.Setting.{Setting}
use Rattle.call_verdicts.specs.lifecycle_core.specs.Tasks.{End, answered, cleaned, compacted, not_asked, refused, stopped, synced, uploaded, without_view}
use Rattle.call_verdicts.specs.lifecycle_core.proofs.phases.Turns.{cut_in_turn, finished_in_turn}
use Rattle.call_verdicts.specs.script_running.specs.Outcomes.{IsOutcome, IsPart, IsQueryOutcome, IsWhole, Outcome, Part, PhasesCame, TaskCame, TasksCame, call_part, first_none}
use Rattle.call_verdicts.specs.Verdicts.{IsFullRun, IsWholeRun}
use Rattle.call_verdicts.specs.script_running.specs.declared.came.Came.TheVariants as came_to
use Rattle.call_verdicts.specs.script_running.specs.declared.came.Stop.TheVariants as halt
use Rattle.call_verdicts.specs.script_running.specs.declared.outcome.QueryOutcome.{QueryOutcome}
use Rattle.call_verdicts.specs.script_running.specs.declared.outcome.QueryOutcome.TheVariants as query
use Rattle.call_verdicts.specs.script_running.specs.declared.outcome.NoAnswer.{NoAnswer}
use Rattle.call_verdicts.specs.script_running.specs.declared.outcome.NoAnswer.TheVariants as none
use Rattle.call_verdicts.specs.script_running.specs.declared.outcome.QueryPart.{QueryPart}
use Rattle.call_verdicts.specs.script_running.specs.declared.outcome.QueryPart.TheVariants as given
use Rattle.std.proofs.lemmas.Option.{same_Some}
use Rattle.replay_cli.proofs.CalmRuns.{end_came}
use Rattle.replay_cli.proofs.ToldAnswers.{inner}

-- a line that tells of a missing object
abbrev missing : ℕ → ℕ → Outcome
missing gateway number = came_to.Query (query.NoAnswer gateway (none.Missing number))

-- one end of its task was such a call's
abbrev Missed : List End → ℕ → Type 0
Missed own number = (used : Use) × Contains own (answered used (called.Missing number))

call_missed : (number first : ℕ) (used : Use) (end : SeriesEnd) → given.NoAnswer (none.Missing number) first ≡ call_part used.view.first end → Missed (answered used end ∷ []) number
call_missed number first used (called.Answer series sources) is = absurd (cc (is))
call_missed number first used (called.Missing m) is =
    let same : number ≡ m = cc (is) in
    (used, subst (λ (k : ℕ). Contains (answered used (called.Missing m) ∷ []) (answered used (called.Missing k))) (sym same) (contains_first (answered used (called.Missing m)) []))
call_missed number first used (called.Damaged m) is = absurd (cc (is))
call_missed number first used (called.Fault m) is = absurd (cc (is))

part_missed : (low high : ℤ) (n number first : ℕ) (end : End) → IsPart (work.Query low high n) end (came_to.Query (given.NoAnswer (none.Missing number) first)) → Missed (end ∷ []) number
part_missed low high n number first (answered used e) is = call_missed number first used e (inner (given.NoAnswer (none.Missing number) first) (call_part used.view.first e) is)
part_missed low high n number first without_view is = absurd (let same = inner (given.NoAnswer (none.Missing number) first) given.NoView is in cc (same))
part_missed low high n number first not_asked is = absurd (let same = inner (given.NoAnswer (none.Missing number) first) given.NotAsked is in cc (same))
part_missed low high n number first (uploaded e) is = absurd is
part_missed low high n number first (synced e) is = absurd is
part_missed low high n number first (compacted e) is = absurd is
part_missed low high n number first (cleaned e) is = absurd is
part_missed low high n number first (refused cause) is = absurd is
part_missed low high n number first (stopped count) is = absurd is

later_missed : (end : End) (ends : List End) (number : ℕ) → Missed ends number → Missed (end ∷ ends) number
later_missed end ends number m = (m.0, contains_later end (answered m.0 (called.Missing number)) ends m.1)

query_missed : (low high : ℤ) (n first : ℕ) (ends : List End) (own : List QueryPart) (gateway number : ℕ) → AllZip (IsPart (work.Query low high n)) ends (map came_to.Query own) → first_none first own ≡ Some (gateway, none.Missing number) → Missed ends number
query_missed low high n first [] [] gateway number all is = absurd (cc (is))
query_missed low high n first [] (q ∷ own) gateway number all is = absurd all
query_missed low high n first (end ∷ ends) [] gateway number all is = absurd all
query_missed low high n first (end ∷ ends) (given.NotAsked ∷ own) gateway number all is = later_missed end ends number (query_missed low high n (first + 1) ends own gateway number all.1 is)
query_missed low high n first (end ∷ ends) (given.NoView ∷ own) gateway number all is =
    let pair : ◌≡◌ {A = ℕ × NoAnswer} (first, none.NoView) (gateway, none.Missing number) = same_Some (first, none.NoView) (gateway, none.Missing number) is in
    absurd (let why = ap (λ (p : ℕ × NoAnswer). p.1) pair in cc (why))
query_missed low high n first (end ∷ ends) (given.Answer a begun ∷ own) gateway number all is = later_missed end ends number (query_missed low high n (first + 1) ends own gateway number all.1 is)
query_missed low high n first (end ∷ ends) (given.NoAnswer why begun ∷ own) gateway number all is =
    let pair : ◌≡◌ {A = ℕ × NoAnswer} (first, why) (gateway, none.Missing number) = same_Some (first, why) (gateway, none.Missing number) is in
    let same : why ≡ none.Missing number = ap (λ (p : ℕ × NoAnswer). p.1) pair in
    let m = part_missed low high n number begun end (subst (λ (y : NoAnswer). IsPart (work.Query low high n) end (came_to.Query (given.NoAnswer y begun))) same all.0) in
    (m.0, Contains-append_left (end ∷ []) ends (answered m.0 (called.Missing number)) m.1)

end_is : (gateway number : ℕ) (end : QueryOutcome) → missing gateway number ≡ came_to.Query end → end ≡ query.NoAnswer gateway (none.Missing number)
end_is gateway number end is = cc (is)

-- some end of a task is such a one
abbrev HasEnd : (End → Type 0) → List End → Type 0
HasEnd P own = (end : End) × Contains own end × P end

-- a call that found an object missing at the entry of the number
abbrev IsCallMiss : ℕ → End → Type 0
IsCallMiss number end = (used : Use) × (end ≡ answered used (called.Missing number))

abbrev IsCompactionMiss : ℕ → End → Type 0
IsCompactionMiss number end = end ≡ compacted (merged.Missing number)

no_whole : (one : Part) (end : QueryOutcome) → IsWhole one (came_to.Query end) → ⊥
no_whole (came_to.Upload own) end is = absurd (cc (is))
no_whole (came_to.Unshipped cause) end is = absurd (cc (is))
no_whole (came_to.Sync own) end is = absurd (cc (is))
no_whole (came_to.Compact own) end is = absurd (cc (is))
no_whole (came_to.Clean own) end is = absurd (cc (is))
no_whole (came_to.Query own) end is = is

all_missed : (gateway number : ℕ) (w : Work) (own : List End) → IsOutcome w own (missing gateway number) → HasEnd (IsCallMiss number) own
all_missed gateway number (work.Upload ulid stop) own (parts, zipped, (one, are, whole)) = absurd (no_whole one (query.NoAnswer gateway (none.Missing number)) whole)
all_missed gateway number (work.Sync g) own (parts, zipped, (one, are, whole)) = absurd (no_whole one (query.NoAnswer gateway (none.Missing number)) whole)
all_missed gateway number (work.Compact stop) own (parts, zipped, (one, are, whole)) = absurd (no_whole one (query.NoAnswer gateway (none.Missing number)) whole)
all_missed gateway number (work.Clean stop) own (parts, zipped, (one, are, whole)) = absurd (no_whole one (query.NoAnswer gateway (none.Missing number)) whole)
all_missed gateway number (work.Query low high n) own (parts, zipped, (given_parts, end, are, is, same)) =
    let m = query_missed low high n 0 own given_parts gateway number (subst (AllZip (IsPart (work.Query low high n)) own) are zipped) (subst (IsQueryOutcome given_parts) (end_is gateway number end same) is) in
    (answered m.0 (called.Missing number), m.1, (m.0, refl))

-- ---- compactions

-- a line that tells of a compaction's missing object
abbrev missing_input : ℕ → Outcome
missing_input number = came_to.Compact (halt.Ended (merged.Missing number))

whole_input : (number : ℕ) (one : Part) → IsWhole one (missing_input number) → one ≡ came_to.Compact (halt.Ended (merged.Missing number))
whole_input number (came_to.Upload end) is = absurd (cc (is))
whole_input number (came_to.Unshipped cause) is = absurd (cc (is))
whole_input number (came_to.Sync end) is = absurd (cc (is))
whole_input number (came_to.Compact end) is = let same : end ≡ halt.Ended (merged.Missing number) = cc (is) in ap came_to.Compact same
whole_input number (came_to.Clean end) is = absurd (cc (is))
whole_input number (came_to.Query own) is = absurd is

input_missed : (number : ℕ) (w : Work) (end : End) → IsPart w end (came_to.Compact (halt.Ended (merged.Missing number))) → IsCompactionMiss number end
input_missed number (work.Upload ulid stop) (uploaded e) is = absurd (cc (is))
input_missed number (work.Upload ulid stop) (refused cause) is = absurd (cc (is))
input_missed number (work.Upload ulid stop) (stopped count) is = absurd (cc (is))
input_missed number (work.Sync g) (synced e) is = absurd (cc (is))
input_missed number (work.Compact stop) (compacted e) is = let same : e ≡ merged.Missing number = cc (is) in ap compacted same
input_missed number (work.Compact stop) (stopped count) is = absurd (cc (is))
input_missed number (work.Clean stop) (cleaned e) is = absurd (cc (is))
input_missed number (work.Clean stop) (stopped count) is = absurd (cc (is))
input_missed number (work.Query low high n) (answered used e) is = absurd (cc (is))
input_missed number (work.Query low high n) without_view is = absurd (cc (is))
input_missed number (work.Query low high n) not_asked is = absurd (cc (is))
input_missed number w end is = absurd is

one_missed : (number : ℕ) (w : Work) (own : List End) → AllZip (IsPart w) own (came_to.Compact (halt.Ended (merged.Missing number)) ∷ []) → HasEnd (IsCompactionMiss number) own
one_missed number w [] all = absurd all
one_missed number w (end ∷ own) all = (end, contains_first end own, input_missed number w end all.0)

whole_missed : (number : ℕ) (w : Work) (own : List End) (parts : List Part) (one : Part) → AllZip (IsPart w) own parts → parts ≡ one ∷ [] → IsWhole one (missing_input number) → HasEnd (IsCompactionMiss number) own
whole_missed number w own parts one zipped are whole =
    one_missed number w own (subst (AllZip (IsPart w) own) (are ∙ ap (λ (x : Part). x ∷ []) (whole_input number one whole)) zipped)

all_inputs_missed : (number : ℕ) (w : Work) (own : List End) → IsOutcome w own (missing_input number) → HasEnd (IsCompactionMiss number) own
all_inputs_missed number (work.Upload ulid stop) own (parts, zipped, (one, are, whole)) = whole_missed number (work.Upload ulid stop) own parts one zipped are whole
all_inputs_missed number (work.Sync g) own (parts, zipped, (one, are, whole)) = whole_missed number (work.Sync g) own parts one zipped are whole
all_inputs_missed number (work.Compact stop) own (parts, zipped, (one, are, whole)) = whole_missed number (work.Compact stop) own parts one zipped are whole
all_inputs_missed number (work.Clean stop) own (parts, zipped, (one, are, whole)) = whole_missed number (work.Clean stop) own parts one zipped are whole
all_inputs_missed number (work.Query low high n) own (parts, zipped, (given_parts, end, are, is, same)) = absurd (cc (same))

-- ---- among the ends of a run

module _ (o : Outcome) (P : End → Type 0) (tells : (w : Work) (own : List End) → IsOutcome w own o → HasEnd P own) where
  -- some worker of the phase came to such an end
  abbrev PhaseHas : List (List End) → Type 0
  PhaseHas ends = (end : End) × (own : List End) × Contains ends own × Contains own end × P end

  hand_has : (workers : List Worker) (ends : List (List End)) (place : ℕ) (hs : List Hand) (own : List End) (end : End) → AllZip (λ hand e. CameTo workers ends (gateway_of hand) place e) hs own → Contains own end → P end → PhaseHas ends
  hand_has workers ends place [] [] end all among is = absurd (no_member end among)
  hand_has workers ends place [] (e ∷ own) end all among is = absurd all
  hand_has workers ends place (h ∷ hs) [] end all among is = absurd all
  hand_has workers ends place (h ∷ hs) (e ∷ own) end all among is = elim (member_cases e end own among) [
    | inl same ↦ let came = end_came workers ends (gateway_of h) place end (subst (CameTo workers ends (gateway_of h) place) same all.0) in (end, came.0, came.1, came.2, is)
    | inr later ↦ hand_has workers ends place hs own end all.1 later is
  ]

  task_has : (script : Script) (workers : List Worker) (ends : List (List End)) (place : ℕ) (task : Task) → TaskCame script workers ends place task o → PhaseHas ends
  task_has script workers ends place task t =
      let m = tells task.work t.own t.is in
      hand_has workers ends place (hands_of_task (gateway_count script.gateways) place task.work) t.own m.0 t.came m.1 m.2

  tasks_have : (script : Script) (workers : List Worker) (ends : List (List End)) (place : ℕ) (tasks : List Task) (outcomes : List Outcome) → TasksCame script workers ends place tasks outcomes → Contains outcomes o → PhaseHas ends
  tasks_have script workers ends place [] outcomes came among = let none = subst (λ (os : List Outcome). Contains os o) came among in absurd (omega (arith, none.1))
  tasks_have script workers ends place (task ∷ tasks) [] came among = absurd came
  tasks_have script workers ends place (task ∷ tasks) (first ∷ outcomes) came (zero, below, at) = task_has script workers ends place task (subst (TaskCame script workers ends place task) at came.0)
  tasks_have script workers ends place (task ∷ tasks) (first ∷ outcomes) came (suc k, below, at) = tasks_have script workers ends (place + 1) tasks outcomes came.1 (k, omega (arith, below), at)

  phases_have : (script : Script) (place : ℕ) (phases : List Phase) (ends : List (List (List End))) (outcomes : List Outcome) → PhasesCame script place phases ends outcomes → Contains outcomes o → (end : End) × SomeCame ends end × P end
  phases_have script place [] ends outcomes came among = let none = subst (λ (os : List Outcome). Contains os o) came.1 among in absurd (omega (arith, none.1))
  phases_have script place (phase ∷ phases) [] outcomes came among = absurd came
  phases_have script place (phase ∷ phases) (first ∷ later) outcomes (own, others, parts, here, rest) among =
      elim (Contains-append_cases own others o (subst (λ (os : List Outcome). Contains os o) parts among)) [
        | inl one ↦ let m = tasks_have script (workers_of script place) first 0 phase.tasks own here one in (m.0, (first, m.1, (0, omega arith, refl), m.2, m.3), m.4)
        | inr other ↦
            let m = phases_have script (place + 1) phases later others rest other in
            let s = m.1 in (m.0, (s.0, s.1, contains_later first s.0 later s.2, s.3, s.4), m.2)
      ]

-- an end of some first phases is one of all
more_came : (told untold : List (List (List End))) (end : End) → SomeCame told end → SomeCame (told ++ untold) end
more_came told untold end s = (s.0, s.1, Contains-append_left told untold s.0 s.2, s.3, s.4)

-- ---- the laws

pub whole_misses : (setting : Setting) (as_asked : Bool) (text : List ℕ) (journal : List Entry) (run : IsWholeRun setting as_asked text journal) (gateway number : ℕ)
    → Contains run.report.outcomes (missing gateway number) → IsExplained setting journal number
whole_misses setting as_asked text journal run gateway number among =
    let m = phases_have (missing gateway number) (IsCallMiss number) (all_missed gateway number) setting.script 0 setting.script.phases run.ends run.report.outcomes run.report.came among in
    run.guaranteed.explained (finished_in_turn setting run.ends run.finished) (answered (m.2).0 (called.Missing number)) number (subst (SomeCame run.ends) (m.2).1 m.1) refl

pub full_misses : (setting : Setting) (text : List ℕ) (journal : List Entry) (run : IsFullRun setting text journal) (gateway number : ℕ)
    → Contains run.report.outcomes (missing gateway number) → IsExplained setting journal number
full_misses setting text journal run gateway number among =
    let m = phases_have (missing gateway number) (IsCallMiss number) (all_missed gateway number) setting.script 0 run.done run.told run.report.outcomes run.report.came among in
    run.guaranteed.explained (cut_in_turn setting journal run.done run.told run.cut) (answered (m.2).0 (called.Missing number)) number
    (more_came run.told (run.cut).untold (answered (m.2).0 (called.Missing number)) (subst (SomeCame run.told) (m.2).1 m.1)) refl

pub whole_misses_compacting : (setting : Setting) (as_asked : Bool) (text : List ℕ) (journal : List Entry) (run : IsWholeRun setting as_asked text journal) (number : ℕ)
    → Contains run.report.outcomes (missing_input number) → IsExplainedBy setting (watched setting journal) IsBlamedInCompaction journal number
whole_misses_compacting setting as_asked text journal run number among =
    let m = phases_have (missing_input number) (IsCompactionMiss number) (all_inputs_missed number) setting.script 0 setting.script.phases run.ends run.report.outcomes run.report.came among in
    run.guaranteed.explained (finished_in_turn setting run.ends run.finished) (compacted (merged.Missing number)) number (subst (SomeCame run.ends) m.2 m.1) refl

pub full_misses_compacting : (setting : Setting) (text : List ℕ) (journal : List Entry) (run : IsFullRun setting text journal) (number : ℕ)
    → Contains run.report.outcomes (missing_input number) → IsExplainedBy setting (watched setting journal) IsBlamedInCompaction journal number
full_misses_compacting setting text journal run number among =
    let m = phases_have (missing_input number) (IsCompactionMiss number) (all_inputs_missed number) setting.script 0 run.done run.told run.report.outcomes run.report.came among in
    run.guaranteed.explained (cut_in_turn setting journal run.done run.told run.cut) (compacted (merged.Missing number)) number
    (more_came run.told (run.cut).untold (compacted (merged.Missing number)) (subst (SomeCame run.told) m.2 m.1)) refl
