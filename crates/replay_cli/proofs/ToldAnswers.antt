-- Each answer that a report tells was given by the gateways.
use Rattle.std.proofs.Common.{◌≡◌, ◌⊎◌, inl, inr, ℕ, ℤ, zero, suc, ◌+◌, Bool, append-nil, List, [], ◌∷◌, ◌++◌, length, Option, None, Some, refl, sym, ◌∙◌, ap, subst, arith}
use Rattle.std.specs.Prelude.{slice_get, map}
use Rattle.std.specs.List.{AllZip, flat_map}
use Rattle.block_meta.specs.Lawful.{ascending}
use Rattle.label_sets.specs.Triples.{Triple, triples_of}
use Rattle.vertical_merge.specs.Merged.{IsMerge}
use Rattle.world_core.specs.Standing.{IsHonest}
use Rattle.world_core.specs.declared.entry.Entry.{Entry}
use Rattle.store_calls.specs.declared.series_call.SeriesEnd.{SeriesEnd}
use Rattle.store_calls.specs.declared.series_call.SeriesEnd.TheVariants as called
use Rattle.querier.specs.Gathered.{answer as whole_answer, gathered_samples, gathered_sources}
use Rattle.querier.specs.declared.answer.Names.{Names}
use Rattle.script_workers.specs.Hands.{gateway_count, hands_of_task}
use Rattle.script_core.specs.Workers.{workers_of}
use Rattle.script_core.specs.Lawful.{IsLawfulScript}
use Rattle.script_core.proofs.SeatLaws.{partitions_counted}
use Rattle.script_workers.specs.declared.phase.Phase.{Phase}
use Rattle.script_workers.specs.declared.task.Task.{Task}
use Rattle.script_workers.specs.declared.work.Work.{Work}
use Rattle.script_workers.specs.declared.work.Work.TheVariants as work
use Rattle.script_workers.specs.declared.worker.Worker.{Worker}
use Rattle.call_verdicts.specs.lifecycle_core.specs.Guarantees.{Answered, IsGiven, IsSound, Named, names_by}
use Rattle.call_verdicts.specs.lifecycle_core.specs.Holdings.{Use}
use Rattle.call_verdicts.specs.lifecycle_core.specs.Phases.{IsRunOf}
use Rattle.call_verdicts.specs.lifecycle_core.specs.Setting.{Setting}
use Rattle.call_verdicts.specs.lifecycle_core.proofs.answers.SeveralGateways as Several
use Rattle.call_verdicts.specs.lifecycle_core.proofs.answers.SeveralGateways.{AllAnswered, CameAll, end_of, given_by_all, named_by_all, names_from, names_of_all, series_of}
use Rattle.call_verdicts.specs.lifecycle_core.specs.Tasks.{End, answered, not_asked, refused, stopped, synced, uploaded, without_view, compacted, cleaned}
use Rattle.call_verdicts.specs.script_running.specs.Outcomes.{IsOutcome, IsPart, IsQueryOutcome, Outcome, PhasesCame, TaskCame, TasksCame, answers_of, call_part, first_none, names_of, why_none}
use Rattle.replay_cli.specs.ToldAnswers.{IsTold, IsWorth, ToldAnswer, answered_by}
use Rattle.call_verdicts.specs.Verdicts.{IsFullRun, IsWholeRun}
use Rattle.call_verdicts.specs.report_lines.specs.Telling.{tasks_of}
use Rattle.call_verdicts.specs.script_running.specs.declared.came.Came.TheVariants as came_to
use Rattle.call_verdicts.specs.script_running.specs.declared.outcome.QueryOutcome.TheVariants as query
use Rattle.call_verdicts.specs.script_running.specs.declared.outcome.QueryPart.{QueryPart}
use Rattle.call_verdicts.specs.script_running.specs.declared.outcome.QueryPart.TheVariants as given

-- ---- which task an outcome is of

tasks_count : (setting : Setting) (workers : List Worker) (ends : List (List End)) (place : ℕ) (tasks : List Task) (outcomes : List Outcome) → TasksCame setting.script workers ends place tasks outcomes → length outcomes ≡ length tasks
tasks_count setting workers ends place [] outcomes came = ap (length {A = Outcome}) came
tasks_count setting workers ends place (task ∷ tasks) [] came = absurd came
tasks_count setting workers ends place (task ∷ tasks) (o ∷ outcomes) came = ap suc (tasks_count setting workers ends (place + 1) tasks outcomes came.1)

task_came : (setting : Setting) (workers : List Worker) (ends : List (List End)) (place : ℕ) (tasks : List Task) (outcomes : List Outcome) → TasksCame setting.script workers ends place tasks outcomes
    → (k : ℕ) (task : Task) (o : Outcome) → slice_get tasks k ≡ Some task → slice_get outcomes k ≡ Some o → TaskCame setting.script workers ends (place + k) task o
task_came setting workers ends place [] outcomes came k task o at told = absurd (cc (at))
task_came setting workers ends place (t ∷ tasks) [] came k task o at told = absurd came
task_came setting workers ends place (t ∷ tasks) (p ∷ outcomes) came zero task o at told =
    let same_task : t ≡ task = cc (at) in
    let same : p ≡ o = cc (told) in
    let here : place ≡ place + 0 = omega arith in
    subst (λ n. TaskCame setting.script workers ends n task o) here (subst (λ x. TaskCame setting.script workers ends place task x) same (subst (λ x. TaskCame setting.script workers ends place x p) same_task came.0))
task_came setting workers ends place (t ∷ tasks) (p ∷ outcomes) came (suc k) task o at told =
    let next : place + 1 + k ≡ place + suc k = omega arith in
    subst (λ n. TaskCame setting.script workers ends n task o) next (task_came setting workers ends (place + 1) tasks outcomes came.1 k task o at told)

-- a place in two pairs of lists, the first of which are equally long, is one in the first pair or in the second
either_pair : {A B : Type 0} (xs more : List A) (ys others : List B) (k : ℕ) (x : A) (y : B) → length ys ≡ length xs → slice_get (xs ++ more) k ≡ Some x → slice_get (ys ++ others) k ≡ Some y
    → ((slice_get xs k ≡ Some x) × (slice_get ys k ≡ Some y)) ⊎ ((j : ℕ) × (slice_get more j ≡ Some x) × (slice_get others j ≡ Some y))
either_pair [] more [] others k x y same at told = inr (k, at, told)
either_pair [] more (b ∷ ys) others k x y same at told = absurd (omega (arith, same))
either_pair (a ∷ xs) more [] others k x y same at told = absurd (omega (arith, same))
either_pair (a ∷ xs) more (b ∷ ys) others zero x y same at told = inl (at, told)
either_pair (a ∷ xs) more (b ∷ ys) others (suc k) x y same at told = either_pair xs more ys others k x y (omega (arith, same)) at told

-- the phase of a task, its place there, and the ends by which it came out
record IsOfPhase (setting : Setting) (number : ℕ) (phases : List Phase) (ends : List (List (List End))) (task : Task) (o : Outcome) : Type 0 where
  k : ℕ
  phase : Phase
  place : ℕ
  own : List (List End)
  in_phases : slice_get phases k ≡ Some phase
  in_tasks : slice_get phase.tasks place ≡ Some task
  in_ends : slice_get ends k ≡ Some own
  came : TaskCame setting.script (workers_of setting.script (number + k)) own place task o

phase_of : (setting : Setting) (number : ℕ) (phases : List Phase) (ends : List (List (List End))) (outcomes : List Outcome) → PhasesCame setting.script number phases ends outcomes
    → (place : ℕ) (task : Task) (o : Outcome) → slice_get (tasks_of phases) place ≡ Some task → slice_get outcomes place ≡ Some o → IsOfPhase setting number phases ends task o
phase_of setting number [] ends outcomes came place task o at told = absurd (cc (at))
phase_of setting number (phase ∷ phases) [] outcomes came place task o at told = absurd came
phase_of setting number (phase ∷ phases) (first ∷ later) outcomes (own, others, parts, here, rest) place task o at told =
    elim (either_pair phase.tasks (tasks_of phases) own others place task o (tasks_count setting (workers_of setting.script number) first 0 phase.tasks own here) at (subst (λ l. slice_get l place ≡ Some o) parts told)) [
      | inl (one, two) ↦
          let is : number ≡ number + 0 = omega arith in
          let start : 0 + place ≡ place = omega arith in
          record {
            k = 0;
            phase = phase;
            place = place;
            own = first;
            in_phases = refl;
            in_tasks = one;
            in_ends = refl;
            came = subst (λ n. TaskCame setting.script (workers_of setting.script n) first place task o) is
                (subst (λ n. TaskCame setting.script (workers_of setting.script number) first n task o) start (task_came setting (workers_of setting.script number) first 0 phase.tasks own here place task o one two));
          }
      | inr (j, one, two) ↦
          let p = phase_of setting (number + 1) phases later others rest j task o one two in
          let is : number + 1 + p.k ≡ number + suc p.k = omega arith in
          record {
            k = suc p.k;
            phase = p.phase;
            place = p.place;
            own = p.own;
            in_phases = p.in_phases;
            in_tasks = p.in_tasks;
            in_ends = p.in_ends;
            came = subst (λ n. TaskCame setting.script (workers_of setting.script n) p.own p.place task o) is p.came;
          }
    ]

-- ---- the answers of the gateways

-- a gateway's part of a query that was answered: an answer, or it was not asked
abbrev query_part : Option Several.Part → QueryPart
query_part None = given.NotAsked
query_part (Some p) = given.Answer (whole_answer p.series p.sources) p.used.view.first

pub inner : (own other : QueryPart) → came_to.Query own ≡ came_to.Query other → own ≡ other
inner own other is = cc (is)

by_call : (used : Use) (end : SeriesEnd) (own : QueryPart) → own ≡ call_part used.view.first end → why_none own ≡ None → (p : Option Several.Part) × (answered used end ≡ end_of p) × (own ≡ query_part p)
by_call used (called.Answer series sources) own is none = (Some (record { used = used; series = series; sources = sources }), refl, is)
by_call used (called.Missing n) own is none = absurd (let w = ap why_none is in cc (w, none))
by_call used (called.Damaged n) own is none = absurd (let w = ap why_none is in cc (w, none))
by_call used (called.Fault n) own is none = absurd (let w = ap why_none is in cc (w, none))

by_part : (low high : ℤ) (n : ℕ) (end : End) (own : QueryPart) → IsPart (work.Query low high n) end (came_to.Query own) → why_none own ≡ None → (p : Option Several.Part) × (end ≡ end_of p) × (own ≡ query_part p)
by_part low high n (uploaded e) own is none = absurd is
by_part low high n (synced e) own is none = absurd is
by_part low high n (compacted e) own is none = absurd is
by_part low high n (cleaned e) own is none = absurd is
by_part low high n (answered used e) own is none = by_call used e own (inner own (call_part used.view.first e) is) none
by_part low high n without_view own is none = absurd (let w = ap why_none (inner own given.NoView is) in cc (w, none))
by_part low high n not_asked own is none = (None, refl, inner own given.NotAsked is)
by_part low high n (refused cause) own is none = absurd is
by_part low high n (stopped count) own is none = absurd is

-- where none is told, none of them gave none
first_answers : (gateway : ℕ) (own : QueryPart) (parts : List QueryPart) → first_none gateway (own ∷ parts) ≡ None → (why_none own ≡ None) × (first_none (gateway + 1) parts ≡ None)
first_answers gateway given.NotAsked parts is = (refl, is)
first_answers gateway given.NoView parts is = absurd (cc (is))
first_answers gateway (given.Answer a first) parts is = (refl, is)
first_answers gateway (given.NoAnswer why first) parts is = absurd (cc (is))

-- a query that answers does so by the answers of its gateways
record IsByAll (ends : List End) (own : List QueryPart) : Type 0 where
  parts : List (Option Several.Part)
  are : ends ≡ map end_of parts
  own_are : own ≡ map query_part parts

by_all : (low high : ℤ) (n gateway : ℕ) (ends : List End) (own : List QueryPart) → AllZip (IsPart (work.Query low high n)) ends (map came_to.Query own) → first_none gateway own ≡ None → IsByAll ends own
by_all low high n gateway [] [] all none = record { parts = []; are = refl; own_are = refl }
by_all low high n gateway [] (q ∷ own) all none = absurd all
by_all low high n gateway (end ∷ ends) [] all none = absurd all
by_all low high n gateway (end ∷ ends) (q ∷ own) all none =
    let first = first_answers gateway q own none in
    let one = by_part low high n end q all.0 first.0 in
    let rest = by_all low high n (gateway + 1) ends own all.1 first.1 in
    record {
      parts = one.0 ∷ rest.parts;
      are = ap (λ (e : End). e ∷ ends) one.1 ∙ ap (λ (l : List End). end_of one.0 ∷ l) rest.are;
      own_are = ap (λ (x : QueryPart). x ∷ own) one.2 ∙ ap (λ (l : List QueryPart). query_part one.0 ∷ l) rest.own_are;
    }

-- the samples and the names of both
samples_are : (parts : List (Option Several.Part)) → gathered_samples (answers_of (map query_part parts)) ≡ flat_map triples_of (series_of (Several.answers_of parts))
samples_are [] = refl
samples_are (None ∷ parts) = samples_are parts
samples_are (Some p ∷ parts) = ap (λ (l : List Triple). triples_of p.series ++ l) (samples_are parts)

names_are : (gateway : ℕ) (parts : List (Option Several.Part)) → names_of gateway (map query_part parts) ≡ names_from gateway parts
names_are gateway [] = refl
names_are gateway (None ∷ parts) = names_are (gateway + 1) parts
names_are gateway (Some p ∷ parts) = ap (λ (l : List Names). record { gateway = gateway; sources = p.sources } ∷ l) (names_are (gateway + 1) parts)

sources_are : (gateway : ℕ) (parts : List (Option Several.Part)) → gathered_sources (answers_of (map query_part parts)) ≡ flat_map (λ (one : Names). one.sources) (names_from gateway parts)
sources_are gateway [] = refl
sources_are gateway (None ∷ parts) = sources_are (gateway + 1) parts
sources_are gateway (Some p ∷ parts) = ap (λ (l : List ℕ). p.sources ++ l) (sources_are (gateway + 1) parts)

named_sources : (named : List Named) → flat_map (λ (one : Names). one.sources) (map names_by named) ≡ flat_map (λ (one : Named). one.sources) named
named_sources [] = refl
named_sources (one ∷ named) = ap (λ (l : List ℕ). one.sources ++ l) (named_sources named)

module _ (setting : Setting) (journal : List Entry) (phases left : List Phase) (ends untold : List (List (List End))) (outcomes : List Outcome) where
  slice_left : {X : Type 0} (xs more : List X) (k : ℕ) (x : X) → slice_get xs k ≡ Some x → slice_get (xs ++ more) k ≡ Some x
  slice_left [] more k x at = absurd (cc (at))
  slice_left (y ∷ xs) more zero x at = at
  slice_left (y ∷ xs) more (suc k) x at = slice_left xs more k x at

  by_gateways : IsLawfulScript setting.script → setting.script.phases ≡ phases ++ left → PhasesCame setting.script 0 phases ends outcomes → IsRunOf setting journal (ends ++ untold)
      → ((query : Answered) → IsGiven setting (ends ++ untold) query → IsSound setting journal query)
      → (place : ℕ) (answer : ToldAnswer) → IsTold setting.script phases outcomes place answer → IsWorth setting journal (ends ++ untold) answer
  by_gateways lawful parts came run sound place answer told =
      let p = phase_of setting 0 phases ends outcomes came place told.task (came_to.Query (query.Answer answer.answer answer.names)) told.at told.came in
      let asked : Work = work.Query answer.low answer.high told.selector_number in
      let is = subst (λ (w : Work). IsOutcome w p.came.own (came_to.Query (query.Answer answer.answer answer.names))) told.asks p.came.is in
      let of = is.2 in
      let end : of.1 ≡ query.Answer answer.answer answer.names = cc (of.4) in
      let out = subst (IsQueryOutcome of.0) end of.3 in
      let zipped = subst (AllZip (IsPart asked) p.came.own) of.2 is.1 in
      let all = by_all answer.low answer.high told.selector_number 0 p.came.own of.0 zipped out.0 in
      let number : 0 + p.k ≡ p.k = omega arith in
      let their_answers : AllAnswered setting (ends ++ untold) answer.low answer.high answer.selector all.parts = record {
        phase_number = p.k;
        phase = p.phase;
        place = p.place;
        task = told.task;
        selector_number = told.selector_number;
        in_phases = subst (λ l. slice_get l p.k ≡ Some p.phase) (sym parts) (slice_left phases left p.k p.phase p.in_phases);
        in_tasks = p.in_tasks;
        asks = told.asks;
        selects = told.selects;
        phase_ends = p.own;
        phase_came = slice_left ends untold p.k p.own p.in_ends;
        came = subst (λ n. CameAll (workers_of setting.script n) p.own p.place (hands_of_task (gateway_count setting.script.gateways) p.place told.task.work) (map end_of all.parts)) number
            (subst (CameAll (workers_of setting.script (0 + p.k)) p.own p.place (hands_of_task (gateway_count setting.script.gateways) p.place told.task.work)) all.are p.came.came);
      } in
      let named = named_by_all setting journal (ends ++ untold) run answer.low answer.high answer.selector all.parts their_answers in
      let names_all = names_of_all setting journal (ends ++ untold) run answer.low answer.high answer.selector all.parts their_answers in
      let gathered = out.1 in
      let merged : IsMerge (flat_map triples_of (series_of (Several.answers_of all.parts))) answer.answer.series =
      subst (λ (ts : List Triple). IsMerge ts answer.answer.series) (ap (λ (l : List QueryPart). gathered_samples (answers_of l)) all.own_are ∙ samples_are all.parts) gathered.merged in
      let by_their_parts = given_by_all setting journal (ends ++ untold) run answer.low answer.high answer.selector all.parts their_answers (partitions_counted setting.script lawful) answer.answer.series merged in
      let of_all : gathered_sources (answers_of of.0) ≡ flat_map (λ (one : Named). one.sources) named =
      ap (λ (l : List QueryPart). gathered_sources (answers_of l)) all.own_are ∙ sources_are 0 all.parts
      ∙ ap (λ (l : List Names). flat_map (λ (one : Names). one.sources) l) (sym names_all) ∙ named_sources named in
      record {
        named = named;
        names = out.2 ∙ ap (names_of 0) all.own_are ∙ names_are 0 all.parts ∙ sym names_all;
        sources = gathered.sources ∙ ap ascending of_all;
        given = by_their_parts;
        sound = sound (answered_by named answer) by_their_parts;
      }

pub whole_answers : (setting : Setting) (as_asked : Bool) (text : List ℕ) (journal : List Entry) (run : IsWholeRun setting as_asked text journal) → IsLawfulScript setting.script → IsHonest journal
    → (place : ℕ) (answer : ToldAnswer) → IsTold setting.script setting.script.phases run.report.outcomes place answer → IsWorth setting journal run.ends answer
whole_answers setting as_asked text journal run lawful honest place answer told =
    let same : run.ends ++ [] ≡ run.ends = append-nil run.ends in
    subst (λ es. IsWorth setting journal es answer) same
    (by_gateways setting journal setting.script.phases [] run.ends [] run.report.outcomes lawful (sym (append-nil setting.script.phases)) run.report.came (subst (IsRunOf setting journal) (sym same) run.run)
    (λ q by. run.guaranteed.sound honest q (subst (λ es. IsGiven setting es q) same by)) place answer told)

pub full_answers : (setting : Setting) (text : List ℕ) (journal : List Entry) (run : IsFullRun setting text journal) → IsLawfulScript setting.script → IsHonest journal
    → (place : ℕ) (answer : ToldAnswer) → IsTold setting.script run.done run.report.outcomes place answer → IsWorth setting journal (run.told ++ (run.cut).untold) answer
full_answers setting text journal run lawful honest place answer told =
    let cut = run.cut in
    by_gateways setting journal run.done cut.left run.told cut.untold run.report.outcomes lawful cut.phases run.report.came cut.run (λ q by. run.guaranteed.sound honest q by) place answer told
