-- What the asked gateways answered to a query is the query's answer: the merge of their series, with what each of them names.
use Rattle.std.proofs.Common.{◌≡◌, inl, inr, ℕ, ℤ, zero, suc, ◌+◌, List, [], ◌∷◌, length, map, Option, Some, None, refl, sym, ◌∙◌, ap, subst}
use Rattle.std.specs.Prelude.{option_map, slice_get}
use Rattle.std.specs.List.{AllZip, flat_map, range_with_len}
use Rattle.label_sets.specs.Triples.{triples_of}
use Rattle.label_sets.specs.declared.series.Series.{Series}
use Rattle.matchers.specs.declared.matcher.Matcher.{Matcher}
use Rattle.vertical_merge.specs.Merged.{IsMerge}
use Rattle.world_core.specs.declared.entry.Entry.{Entry}
use Rattle.store_ranges.specs.Reads.{Query as Question}
use Rattle.store_calls.specs.SeriesCalls.{CallEnd}
use Rattle.store_calls.specs.declared.series_call.SeriesEnd.TheVariants as called
use Rattle.querier.specs.declared.answer.Names.{Names}
use Rattle.querier.specs.declared.asking.Ask.{Ask}
use Rattle.script_core.specs.Workers.{workers_of}
use Rattle.script_workers.specs.Hands.{gateway_count, gateway_of, hands_of_task}
use Rattle.script_workers.specs.declared.hand.Hand.{Hand}
use Rattle.script_workers.specs.declared.hand.Hand.TheVariants as hands
use Rattle.script_workers.specs.declared.phase.Phase.{Phase}
use Rattle.script_workers.specs.declared.task.Task.{Task}
use Rattle.script_workers.specs.declared.work.Work.{Work}
use Rattle.script_workers.specs.declared.work.Work.TheVariants.{Query}
use Rattle.script_workers.specs.declared.worker.Worker.{Worker}
use Rattle.lifecycle_core.specs.Conducts.{CameTo, Who, who_of}
use Rattle.lifecycle_core.specs.Guarantees.{IsGiven, IsPartGiven, Named, ask_by, names_by}
use Rattle.lifecycle_core.specs.Holdings.{Holding, Use}
use Rattle.lifecycle_core.specs.Phases.{IsRunOf}
use Rattle.lifecycle_core.specs.Setting.{Setting}
use Rattle.lifecycle_core.specs.Tasks.{End, PartTask, QueryTask, TaskRun, answered, ask_to, not_asked, question_of}
use Rattle.lifecycle_core.proofs.answers.EndsAreCalls.{task_called}
use Rattle.lifecycle_core.proofs.journals.Rising.{journal_rises}
use Rattle.lifecycle_core.proofs.phases.GatewayParts.{ask_gateway, asked_each, asks_on, asks_with, query_is}
use Rattle.lifecycle_core.proofs.phases.TasksMade.{IsMadeBy, answers_are_made}

-- a gateway's answer, with the view that it used
pub record Part : Type 0 where
  pub used : Use
  pub series : List Series
  pub sources : List ℕ

-- the end of its worker: with an answer, or, where it is not asked, with none
abbrev pub end_of : Option Part → End
end_of None = not_asked
end_of (Some part) = answered part.used (called.Answer part.series part.sources)

-- the answers that were given
abbrev pub answers_of : List (Option Part) → List Part
answers_of [] = []
answers_of (None ∷ parts) = answers_of parts
answers_of (Some part ∷ parts) = part ∷ answers_of parts

abbrev pub series_of : List Part → List (List Series)
series_of parts = map (λ (part : Part). part.series) parts

-- The workers of the hands came to these ends, in the task at a place of a phase.
abbrev pub CameAll : List Worker → List (List End) → ℕ → List Hand → List End → Type 0
CameAll workers ends place hs own = AllZip (λ hand end. CameTo workers ends (gateway_of hand) place end) hs own

-- All gateways that are asked answered the query at a place of a phase, and these are their answers in their order.
pub record AllAnswered (setting : Setting) (ends : List (List (List End))) (low high : ℤ) (selector : List Matcher) (parts : List (Option Part)) : Type 0 where
  pub phase_number : ℕ
  pub phase : Phase
  pub place : ℕ
  pub task : Task
  pub selector_number : ℕ
  pub in_phases : slice_get setting.script.phases phase_number ≡ Some phase
  pub in_tasks : slice_get phase.tasks place ≡ Some task
  pub asks : task.work ≡ Query low high selector_number
  pub selects : slice_get setting.script.selectors selector_number ≡ Some selector
  pub phase_ends : List (List End)
  pub phase_came : slice_get ends phase_number ≡ Some phase_ends
  pub came : CameAll (workers_of setting.script phase_number) phase_ends place (hands_of_task (gateway_count setting.script.gateways) place task.work) (map end_of parts)

-- what gateways from one on name, by their answers
abbrev pub names_from : ℕ → List (Option Part) → List Names
names_from gateway [] = []
names_from gateway (None ∷ parts) = names_from (gateway + 1) parts
names_from gateway (Some part ∷ parts) = record { gateway = gateway; sources = part.sources } ∷ names_from (gateway + 1) parts

-- ---- the answer is given

hands_asked : (gateways place : ℕ) (low high : ℤ) (selector : ℕ) → hands_of_task gateways place (Query low high selector) ≡ map hands.Gateway (range_with_len 0 gateways)
unfolding hands_of_task
hands_asked gateways place low high selector = refl

-- an asked gateway does not end as one that is not
no_query_unasked : (used : Option Use) (asked : Option Question) (before after : Holding) (entries : List Entry) → ¬ QueryTask used asked before entries (Some not_asked) after
no_query_unasked used asked before after entries run = elim (query_is used asked before entries (Some not_asked) after run) [
  | inl none ↦ elim none.0.1 [ inl off ↦ cc (off) | inr same ↦ cc (same) ]
  | inr call ↦ no_call call.from call.own call.came
]
  where
    no_call : (from : Use) (own : Option CallEnd) → Some not_asked ≡ option_map (λ (c : CallEnd). answered from c.end) own → ⊥
    no_call from None is = cc (is)
    no_call from (Some own) is = cc (is)

unasked : (setting : Setting) (selector : ℕ) (ask : Option Ask) (before after : Holding) (entries : List Entry) → PartTask setting selector ask before entries (Some not_asked) after → ask ≡ None
unasked setting selector None before after entries run = refl
unasked setting selector (Some ask) before after entries run = absurd (no_query_unasked before.used (question_of setting selector ask) before after entries run)

module _ (setting : Setting) (journal : List Entry) (ends : List (List (List End))) (run : IsRunOf setting journal ends) (low high : ℤ) (selector : List Matcher) (parts : List (Option Part)) (all : AllAnswered setting ends low high selector parts) where
  abbrev gateways : ℕ
  gateways = gateway_count setting.script.gateways

  abbrev workers : List Worker
  workers = workers_of setting.script all.phase_number

  abbrev ask : ℕ → Option Ask
  ask gateway = ask_to setting (Some gateway) low high

  all_came : CameAll workers all.phase_ends all.place (map hands.Gateway (range_with_len 0 gateways)) (map end_of parts)
  all_came =
      let are = ap (hands_of_task gateways all.place) all.asks ∙ hands_asked gateways all.place low high all.selector_number in
      subst (λ (hs : List Hand). CameAll workers all.phase_ends all.place hs (map end_of parts)) are all.came

  -- ---- one gateway

  module _ (gateway : ℕ) where
    -- the gateway's worker came to its end by a run of its part
    came_by : (end : End) → (came : CameTo workers all.phase_ends (Some gateway) all.place end) → IsMadeBy setting journal (who_of came.worker) all.task end
    came_by end came =
        answers_are_made setting journal ends (journal_rises setting.script.rules.tick.ms journal run.kept) run all.phase_number all.phase all.phase_ends (Some gateway) all.place all.task end all.in_phases all.in_tasks all.phase_came came

    -- one that came to no answer was not asked
    is_unasked : CameTo workers all.phase_ends (Some gateway) all.place not_asked → ask gateway ≡ None
    is_unasked came =
        let made = came_by not_asked came in
        let m = made.0 in
        let by : m.who.gateway ≡ Some gateway = ap (λ (who : Who). who.gateway) made.1 ∙ came.is in
        let own = subst (λ (w : Work). TaskRun setting m.who m.place w m.held m.entries (Some not_asked) m.after) all.asks m.run in
        ap (λ (o : Option ℕ). ask_to setting o low high) (sym by) ∙ unasked setting all.selector_number (ask_to setting m.who.gateway low high) m.held m.after m.entries own

    -- one that came to an answer was asked
    is_asked : (part : Part) → CameTo workers all.phase_ends (Some gateway) all.place (end_of (Some part)) → (own : Ask) × (ask gateway ≡ Some own)
    is_asked part came =
        let made = came_by (end_of (Some part)) came in
        let m = made.0 in
        let by : m.who.gateway ≡ Some gateway = ap (λ (who : Who). who.gateway) made.1 ∙ came.is in
        let call = task_called setting m.who m.place all.task.work m.held m.after m.entries part.used (called.Answer part.series part.sources) low high all.selector_number selector all.asks all.selects m.run in (
          call.0,
          ap (λ (o : Option ℕ). ask_to setting o low high) (sym by) ∙ call.1,
        )

  -- ---- all of them

  -- what gateways from one on gave, each for the times that it was asked
  record GivenFrom (gateway count : ℕ) (own : List (Option Part)) : Type 0 where
    named : List Named
    given : AllZip (IsPartGiven workers all.phase_ends all.place) named (series_of (answers_of own))
    asks : map ask_by named ≡ asks_on ask gateway count
    names : map names_by named ≡ names_from gateway own

  given_from : (gateway count : ℕ) (own : List (Option Part)) → CameAll workers all.phase_ends all.place (map hands.Gateway (range_with_len gateway count)) (map end_of own) → GivenFrom gateway count own
  given_from gateway zero [] came = record { named = []; given = tt; asks = refl; names = refl }
  given_from gateway zero (part ∷ own) came = absurd came
  given_from gateway (suc count) [] came = absurd came
  given_from gateway (suc count) (None ∷ own) came =
      let rest = given_from (gateway + 1) count own came.1 in
      record {
        named = rest.named;
        given = rest.given;
        asks = rest.asks ∙ ap (λ (o : Option Ask). asks_with o (asks_on ask (gateway + 1) count)) (sym (is_unasked gateway came.0));
        names = rest.names;
      }
  given_from gateway (suc count) (Some part ∷ own) came =
      let rest = given_from (gateway + 1) count own came.1 in
      let asked = is_asked gateway part came.0 in
      let test : asked.0.gateway ≡ gateway = ask_gateway setting gateway low high asked.0 asked.1 in
      let one : Named = record { gateway = gateway; used = part.used; low = asked.0.low; high = asked.0.high; sources = part.sources } in
      let with_gateway : ℕ → Ask = λ n. record { gateway = n; low = asked.0.low; high = asked.0.high } in
      let same : asked.0 ≡ ask_by one = ap with_gateway test in
      record {
        named = one ∷ rest.named;
        given = (came.0, rest.given);
        asks = ap (λ (l : List Ask). ask_by one ∷ l) rest.asks ∙ ap (λ (o : Option Ask). asks_with o (asks_on ask (gateway + 1) count)) (ap (λ (a : Ask). Some a) (sym same) ∙ sym asked.1);
        names = ap (λ (l : List Names). names_by one ∷ l) rest.names;
      }

  all_given : GivenFrom 0 gateways parts
  all_given = given_from 0 gateways parts all_came

  pub named_by_all : List Named
  named_by_all = all_given.named

  -- what they name are the sources of their answers
  pub names_of_all : map names_by named_by_all ≡ names_from 0 parts
  unfolding named_by_all
  names_of_all = all_given.names

  -- the merge of what they gave is given to the query
  pub given_by_all : length setting.script.partitions ≡ gateways → (series : List Series) → IsMerge (flat_map triples_of (series_of (answers_of parts))) series
      → IsGiven setting ends (record { selector = selector; named = named_by_all; samples = triples_of series })
  unfolding named_by_all
  given_by_all counted series merged = record {
    phase_number = all.phase_number;
    phase = all.phase;
    place = all.place;
    task = all.task;
    low = low;
    high = high;
    selector_number = all.selector_number;
    in_phases = all.in_phases;
    in_tasks = all.in_tasks;
    asks = all.asks;
    selects = all.selects;
    phase_ends = all.phase_ends;
    phase_came = all.phase_came;
    parts = series_of (answers_of parts);
    given = all_given.given;
    every = all_given.asks ∙ asked_each setting low high gateways counted;
    series = series;
    merged = merged;
    samples = refl;
  }
