-- Each end of a gateway's call in a run is that of a call in the journal, over the view of a sync in it.
use Rattle.std.proofs.Common.{◌≡◌, inl, inr, ℕ, ℤ, zero, suc, ◌<◌, List, [], ◌∷◌, ◌++◌, Contains, Option, Some, None, refl, sym, ◌∙◌, ap, subst, append_assoc, arith}
use Rattle.std.specs.Prelude.{option_map, slice_get}
use Rattle.matchers.specs.declared.matcher.Matcher.{Matcher}
use Rattle.std.specs.List.{All, AllPairs}
use Rattle.std.proofs.lemmas.List.Elements.{All-contains_itself, All-weaker}
use Rattle.world_core.specs.Standing.{IsHonest}
use Rattle.script_core.specs.Lawful.{IsLawfulScript}
use Rattle.world_core.specs.declared.entry.Entry.{Entry}
use Rattle.meta_fetcher.specs.Syncs.{SyncRun}
use Rattle.meta_fetcher.specs.declared.sync.SyncEnd.{SyncEnd}
use Rattle.meta_fetcher.specs.declared.sync.SyncEnd.TheVariants as fetched
use Rattle.store_ranges.specs.Reads.{Query as Question}
use Rattle.store_calls.specs.SeriesCalls.{CallEnd, SeriesRun, asking}
use Rattle.store_calls.specs.declared.series_call.SeriesEnd.{SeriesEnd}
use Rattle.querier.specs.declared.asking.Ask.{Ask}
use Rattle.script_core.specs.Workers.{workers_of}
use Rattle.script_workers.specs.declared.work.Work.{Work}
use Rattle.script_workers.specs.declared.work.Work.TheVariants.{Upload, Sync, Compact, Clean, Query}
use Rattle.lifecycle_core.specs.Breaches.{IsSeatOf, IsViewAt, NoViewBetween}
use Rattle.lifecycle_core.specs.Conducts.{CameTo, Who}
use Rattle.lifecycle_core.specs.Holdings.{Holding, Use}
use Rattle.lifecycle_core.specs.Phases.{IsInTurn, IsRunOf}
use Rattle.lifecycle_core.specs.QueriesAsked.{IsQueryAt}
use Rattle.lifecycle_core.specs.Setting.{Setting}
use Rattle.lifecycle_core.specs.SyncsAndCalls.{IsCallIn, IsViewOf}
use Rattle.compactor.specs.Compactions.{compaction}
use Rattle.cleaner.specs.Cleanings.{cleaning}
use Rattle.lifecycle_core.specs.Tasks.{End, QueryTask, TaskRun, answered, ask_to, cleaned, compacted, question_of, sync_rules, synced}
use Rattle.lifecycle_core.proofs.journals.Rising.{journal_rises}
use Rattle.lifecycle_core.proofs.journals.Standing.{parted}
use Rattle.script_workers.specs.declared.task.Task.{Task}
use Rattle.lifecycle_core.proofs.journals.Told.{IsMade, IsOrigin, Rises}
use Rattle.lifecycle_core.proofs.phases.GatewayParts.{part_ends, query_is}
use Rattle.lifecycle_core.proofs.phases.ShipEnds.{ship_end, stopped_end}
use Rattle.lifecycle_core.proofs.phases.OwnSyncs.{IsLatestAt}
use Rattle.lifecycle_core.proofs.phases.TasksMade.{answers_are_last}
use Rattle.lifecycle_core.proofs.answers.LastViews.{none_between, view_at}
use Rattle.base.proofs.Options.{Some-option_map}

-- the call behind an end
pub record IsAsked (setting : Setting) (gateway : Option ℕ) (w : Work) (held : Holding) (entries : List Entry) (used : Use) (end : SeriesEnd) : Type 0 where
  pub number : ℕ
  pub selector : List Matcher
  pub low : ℤ
  pub high : ℤ
  pub ask : Ask
  pub asks : w ≡ Query low high number
  pub selects : slice_get setting.script.selectors number ≡ Some selector
  pub asked : ask_to setting gateway low high ≡ Some ask
  pub is : held.used ≡ Some used
  pub own : CallEnd
  pub run : SeriesRun used.view (asking selector setting.script.rules.replicas ask.low ask.high) held.cache entries (Some own)
  pub came : end ≡ own.end

query_asked : (setting : Setting) (gateway : Option ℕ) (held after : Holding) (number : ℕ) (low high : ℤ) (ask : Ask) (entries : List Entry) (used : Use) (end : SeriesEnd) → ask_to setting gateway low high ≡ Some ask
    → QueryTask held.used (question_of setting number ask) held entries (Some (answered used end)) after → IsAsked setting gateway (Query low high number) held entries used end
query_asked setting gateway held after number low high ask entries used end asked run = elim (query_is held.used (question_of setting number ask) held entries (Some (answered used end)) after run) [
  | inl none ↦ absurd (elim none.0.1 [ inl off ↦ cc (off) | inr same ↦ cc (same) ])
  | inr call ↦
      let own = Some-option_map (λ (c : CallEnd). answered call.from c.end) call.own (answered used end) call.came in
      let one : call.from ≡ used = cc (own.2) in
      let two : end ≡ (own.0).end = cc (own.2) in
      let selects = Some-option_map (λ (matchers : List Matcher). asking matchers setting.script.rules.replicas ask.low ask.high) (slice_get setting.script.selectors number) call.question (sym call.is) in
      let run : SeriesRun call.from.view call.question held.cache entries (Some own.0) = subst (SeriesRun call.from.view call.question held.cache entries) own.1 call.run in
      record {
        number = number;
        selector = selects.0;
        low = low;
        high = high;
        ask = ask;
        asks = refl;
        selects = selects.1;
        asked = asked;
        is = call.view ∙ ap (λ (u : Use). Some u) one;
        own = own.0;
        run = subst (λ (u : Use). SeriesRun u.view (asking selects.0 setting.script.rules.replicas ask.low ask.high) held.cache entries (Some own.0)) one
            (subst (λ (q : Question). SeriesRun call.from.view q held.cache entries (Some own.0)) selects.2 run);
        came = two;
      }
]

no_sync_answers : (used : Use) (end : SeriesEnd) (own : Option SyncEnd) → Some (answered used end) ≡ option_map synced own → ⊥
no_sync_answers used end None is = cc (is)
no_sync_answers used end (Some one) is = cc (is)

pub task_asked : (setting : Setting) (who : Who) (place : ℕ) (w : Work) (held after : Holding) (entries : List Entry) (used : Use) (end : SeriesEnd) → TaskRun setting who place w held entries (Some (answered used end)) after → IsAsked setting who.gateway w held entries used end
task_asked setting who place (Upload ulid stop) held after entries used end ((block, is, ships), left) =
    absurd (ship_end (λ (x : End). x ≡ answered used end → ⊥) setting block stop entries (answered used end) (λ objects own run same. cc (same)) (λ cause same. cc (same)) (λ n same. cc (same)) ships (λ i. answered used end))
task_asked setting who place (Sync gateway) held after entries used end (own, run, is, left) = absurd (no_sync_answers used end own is)
task_asked setting who place (Compact stop) held after entries used end (run, left) =
    absurd (stopped_end (λ (x : End). x ≡ answered used end → ⊥) (compaction setting.script.rules) compacted stop entries (answered used end) (λ own done same. cc (same)) (λ n same. cc (same)) run (λ i. answered used end))
task_asked setting who place (Clean stop) held after entries used end (run, left) =
    absurd (stopped_end (λ (x : End). x ≡ answered used end → ⊥) (cleaning setting.script.rules) cleaned stop entries (answered used end) (λ own done same. cc (same)) (λ n same. cc (same)) run (λ i. answered used end))
task_asked setting who place (Query low high selector) held after entries used end run =
    let part = part_ends setting selector (ask_to setting who.gateway low high) held after entries (answered used end) (λ off. cc (off)) run in
    query_asked setting who.gateway held after selector low high part.0 entries used end part.1 part.2

pairs_of : (entries : List Entry) → Rises entries → AllPairs (λ (one other : Entry). one.seq < other.seq) entries
pairs_of [] rises i j d less inside = absurd (omega (arith, inside))
pairs_of (e ∷ entries) rises zero zero d less inside = absurd (omega (arith, less))
pairs_of (e ∷ entries) rises zero (suc j) d less inside = (rises.0 j d (omega (arith, inside))).0
pairs_of (e ∷ entries) rises (suc i) zero d less inside = absurd (omega (arith, less))
pairs_of (e ∷ entries) rises (suc i) (suc j) d less inside = pairs_of entries rises.1 i j d (omega (arith, less)) (omega (arith, inside))

unfoldable pub view_of : (setting : Setting) (journal : List Entry) (gateway : ℕ) (used : Use) (o : IsOrigin setting journal used) → o.gateway ≡ gateway → IsViewOf (sync_rules setting gateway) journal used o.entries
view_of setting journal gateway used o same = record {
  seat = o.seat;
  sync = record {
    before = o.stretch.before;
    after = o.stretch.after;
    parts = o.stretch.parts;
    run = subst (λ (n : ℕ). SyncRun (sync_rules setting n) o.entries (Some (fetched.View used.view))) same o.run;
    whole = λ none. absurd (cc (none));
  };
  last = o.last;
}

-- the run of a task that came to an answer is a call of the journal
pub made_call : (setting : Setting) (journal : List Entry) {task : Task} (used : Use) (end : SeriesEnd) (m : IsMade setting journal task (answered used end)) (call : IsAsked setting m.who.gateway task.work m.held m.entries used end)
    → IsCallIn journal used (asking call.selector setting.script.rules.replicas call.ask.low call.ask.high) m.entries (Some end)
made_call setting journal used end m call = record {
  among = m.part.among;
  rising = pairs_of m.entries m.part.rises;
  later = m.later used call.is;
  cache = m.held.cache;
  earlier = m.earlier;
  known = m.known;
  reads = m.reads;
  cached = m.cached;
  own = Some call.own;
  run = call.run;
  is = ap (λ (x : SeriesEnd). Some x) call.came;
}

-- the call behind an end of a gateway's part of a query, for these times and this selector
pub record Called (setting : Setting) (held : Holding) (entries : List Entry) (used : Use) (end : SeriesEnd) (low high : ℤ) (selector : List Matcher) : Type 0 where
  pub is : held.used ≡ Some used
  pub own : CallEnd
  pub run : SeriesRun used.view (asking selector setting.script.rules.replicas low high) held.cache entries (Some own)
  pub came : end ≡ own.end

pub task_called : (setting : Setting) (who : Who) (place : ℕ) (w : Work) (held after : Holding) (entries : List Entry) (used : Use) (end : SeriesEnd) (low high : ℤ) (number : ℕ) (selector : List Matcher)
    → w ≡ Query low high number → slice_get setting.script.selectors number ≡ Some selector → TaskRun setting who place w held entries (Some (answered used end)) after
    → (ask : Ask) × (ask_to setting who.gateway low high ≡ Some ask) × Called setting held entries used end ask.low ask.high selector
task_called setting who place w held after entries used end low high number selector is selects run =
    let a = task_asked setting who place w held after entries used end run in
    let both : Query a.low a.high a.number ≡ Query low high number = sym a.asks ∙ is in
    let low_is : a.low ≡ low = cc (both) in
    let high_is : a.high ≡ high = cc (both) in
    let number_is : a.number ≡ number = cc (both) in
    let found : Some a.selector ≡ Some selector = sym a.selects ∙ ap (slice_get setting.script.selectors) number_is ∙ selects in
    let selector_is : a.selector ≡ selector = cc (found) in (
      a.ask,
      subst (λ (l : ℤ). ask_to setting who.gateway l high ≡ Some a.ask) low_is (subst (λ (h : ℤ). ask_to setting who.gateway a.low h ≡ Some a.ask) high_is a.asked),
      record {
        is = a.is;
        own = a.own;
        run = subst (λ (s : List Matcher). SeriesRun used.view (asking s setting.script.rules.replicas a.ask.low a.ask.high) held.cache entries (Some a.own)) selector_is a.run;
        came = a.came;
      },
    )

-- it is a call of the journal
pub called_in : (setting : Setting) (journal : List Entry) {task : Task} (used : Use) (end : SeriesEnd) (m : IsMade setting journal task (answered used end)) (low high : ℤ) (selector : List Matcher)
    → Called setting m.held m.entries used end low high selector → IsCallIn journal used (asking selector setting.script.rules.replicas low high) m.entries (Some end)
called_in setting journal used end m low high selector call = record {
  among = m.part.among;
  rising = pairs_of m.entries m.part.rises;
  later = m.later used call.is;
  cache = m.held.cache;
  earlier = m.earlier;
  known = m.known;
  reads = m.reads;
  cached = m.cached;
  own = Some call.own;
  run = call.run;
  is = ap (λ (x : SeriesEnd). Some x) call.came;
}

-- a front of an honest journal is honest
honest_front : (journal front : List Entry) (e : Entry) (back : List Entry) → journal ≡ front ++ e ∷ back → IsHonest journal → IsHonest (front ++ e ∷ [])
honest_front journal front e back at honest before after x is =
    honest before (after ++ back) x (at ∙ sym (append_assoc front (e ∷ []) back) ∙ ap (λ (es : List Entry). es ++ back) is ∙ append_assoc before (x ∷ after) back)

pub ends_are_calls : (setting : Setting) (journal : List Entry) (ends : List (List (List End))) (number place gateway : ℕ) (own : List (List End)) (used : Use) (end : SeriesEnd) → IsRunOf setting journal ends → slice_get ends number ≡ Some own
    → (came : CameTo (workers_of setting.script number) own (Some gateway) place (answered used end)) → (selector : List Matcher) × (low : ℤ) × (high : ℤ) × (ask : Ask) × (sync : List Entry) × (entries : List Entry) × IsQueryAt setting number place selector low high
    × (ask_to setting (Some gateway) low high ≡ Some ask)
    × (view : IsViewOf (sync_rules setting gateway) journal used sync) × IsSeatOf setting gateway view.seat × (call : IsCallIn journal used (asking selector setting.script.rules.replicas ask.low ask.high) entries (Some end)) × All (λ e. e.seat ≡ came.worker.seat) entries
    × All (λ e. IsSeatOf setting gateway e.seat) call.earlier × (IsLawfulScript setting.script → IsInTurn setting ends → All (λ e. NoViewBetween setting journal gateway used.last e.seq) entries)
    × (IsLawfulScript setting.script → IsInTurn setting ends → IsHonest journal → All (λ e. IsViewAt setting journal gateway e.seq used.view) entries)
unfolding view_of made_call
ends_are_calls setting journal ends number place gateway own used end run own_is came =
    let made = answers_are_last setting journal ends (journal_rises setting.script.rules.tick.ms journal run.kept) run number own (Some gateway) place (answered used end) own_is came in
    let m = (made.4).0 in
    let call = task_asked setting m.who m.place (made.1).work m.held m.after m.entries used end m.run in
    let origin = m.origin used call.is in
    let by : m.who.gateway ≡ Some gateway = ap (λ (who : Who). who.gateway) (made.4).1 ∙ came.is in
    let latest : IsLawfulScript setting.script → IsInTurn setting ends → IsLatestAt setting journal gateway m.entries m.held = λ lawful turns. (made.4).2 (lawful, turns) gateway came.is in (
      call.selector,
      call.low,
      call.high,
      call.ask,
      origin.entries,
      m.entries,
      record { phase = made.0; task = made.1; selector_number = call.number; in_phases = made.2; in_tasks = made.3; asks = call.asks; selects = call.selects },
      ap (λ (o : Option ℕ). ask_to setting o call.low call.high) (sym by) ∙ call.asked,
      view_of setting journal gateway used origin (m.same used call.is gateway by),
      m.sits used call.is gateway by,
      made_call setting journal used end m call,
      subst (λ (who : Who). All (λ (e : Entry). e.seat ≡ who.seat) m.entries) (made.4).1 m.own,
      m.readers gateway by,
      λ lawful turns.
          All-weaker (Contains m.entries) (λ (e : Entry). NoViewBetween setting journal gateway used.last e.seq) (λ e among. none_between setting journal m used call.is gateway by (latest lawful turns) e among) m.entries (All-contains_itself m.entries),
      λ lawful turns honest.
          All-weaker (Contains m.entries) (λ (e : Entry). IsViewAt setting journal gateway e.seq used.view)
          (λ e among.
          let at = parted journal e (m.part.among e among) in
          view_at setting journal m used call.is gateway by lawful ends run e among at.0 at.1 at.2 (honest_front journal at.0 e at.1 at.2 honest) (latest lawful turns)) m.entries (All-contains_itself m.entries),
    )
