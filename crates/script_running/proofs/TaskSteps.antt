-- One task of a worker: from the runs of its activity to a run of the task.
use Rattle.std.proofs.Common.{◌≡◌, ℕ, ℤ, Bool, true, false, cond, int_lt, List, [], ◌∷◌, ◌++◌, refl, sym, ◌∙◌, ap, subst, inl, inr, arith, pos, ◌≤ℤ◌, ◌^◌}
use Rattle.std.specs.Prelude.{◌==◌, find, neg_ℤ, Option, Some, None, IfSome, option_map, slice_get, Result, Ok, Err}
use Rattle.std.specs.Int.{w64}
use Rattle.std.proofs.lemmas.Int.{ints}
use mir.Val.{SFits}
use Rattle.std.proofs.lemmas.List.Elements.{All-contains, All-nil}
use Rattle.std.proofs.lemmas.List.{append-nil}
use Rattle.world_core.specs.Operations.{entry_of}
use Rattle.world_core.specs.declared.entry.Entry.{Entry}
use Rattle.meta_fetcher.specs.declared.sync.SyncEnd.{SyncEnd}
use Rattle.meta_fetcher.specs.declared.sync.SyncEnd.TheVariants as fetched
use Rattle.meta_fetcher.specs.declared.view.View.{View}
use Rattle.meta_fetcher.specs.Syncs.{SyncRun}
use Rattle.matchers.specs.declared.matcher.Matcher.{Matcher}
use Rattle.store_ranges.specs.Reads.{Cache, Query as Question}
use Rattle.store_calls.specs.SeriesCalls.{CallEnd, SeriesRun, asking, series_call}
use Rattle.world_core.proofs.PlanLaws.{breaks_off}
use Rattle.cleaner.specs.Cleanings.{cleaning}
use Rattle.compactor.specs.Compactions.{compaction}
use Rattle.moment_core.specs.declared.partition.Partition.{Partition}
use Rattle.moment_core.specs.declared.rules.Rules.{Rules}
use Rattle.querier.specs.Asks.{asks_of}
use Rattle.querier.specs.declared.asking.Ask.{Ask}
use Rattle.script_core.specs.Lawful.{IsLawfulPartition, IsLawfulScript}
use Rattle.script_core.specs.declared.block.Block.{Block}
use Rattle.script_workers.specs.declared.work.Work.{Work}
use Rattle.script_workers.specs.declared.work.Work.TheVariants as works
use Rattle.lifecycle_core.specs.Conducts.{Who}
use Rattle.lifecycle_core.specs.Held.{declared}
use Rattle.lifecycle_core.specs.Holdings.{Holding, Use}
use Rattle.lifecycle_core.specs.Setting.{Setting}
use Rattle.lifecycle_core.specs.Tasks.{End, PartTask, QueryTask, ShipTask, StoppedRun, TaskRun, answered, ask_to, called_with, cleaned, compacted, not_asked, question_of, sync_rules, synced, synced_with, without_view}
use Rattle.lifecycle_core.proofs.phases.GatewayParts.{ask_partition}
use Rattle.lifecycle_core.specs.Ways.{IsDueAfter}
use Rattle.script_running.specs.Outcomes.{IsGatewayPart, Part, IsPart}
use Rattle.script_running.proofs.Calls.{Called}
use Rattle.script_running.specs.Sights.{Sees, cache_of}
use Rattle.script_running.specs.Tasks.{Adds, CameAs, CameBy, Does, HasAsked, HasDone, WhenDone, WhenFull, view_by}
use Rattle.script_running.specs.declared.came.Broken.{Broken}
use Rattle.script_running.specs.declared.came.Broken.TheVariants as broken
use Rattle.script_running.specs.declared.came.Came.TheVariants as part
use Rattle.script_running.specs.declared.outcome.QueryPart.TheVariants as given
use Rattle.script_running.specs.declared.sight.Sight.{Sight}

pub when_full : {X : Type 0} (came : Result X Broken) (P Q : Type 0) → (P → Q) → WhenFull came P → WhenFull came Q
when_full (Ok o) P Q f holds = tt
when_full (Err broken.Full) P Q f holds = f holds
when_full (Err broken.NoMemory) P Q f holds = tt

pub when_done : {X : Type 0} (came : Result X Broken) (P : Type 0) → P → WhenDone came P
when_done (Ok o) P holds = holds
when_done (Err why) P holds = tt

pub due_by : {E F : Type 0} (one : List Entry → E → Type 0) (other : List Entry → F → Type 0) (seat : ℕ) (made : List Entry) → ((es : List Entry) (e : E) → one es e → (f : F) × other es f)
    → IsDueAfter one seat made → IsDueAfter other seat made
due_by one other seat made runs d = (d.0, d.1, λ seen answer. let next = d.2 seen answer in runs (made ++ entry_of seat d.0 seen ∷ []) next.0 next.1)

module _ (setting : Setting) (who : Who) (place : ℕ) (held : Holding) (seat : ℕ) (old new : List Entry) (came : Result Part Broken) where
  -- a run of an activity, with the end that it is for the task
  by_run : {E : Type 0} (work : Work) (is_run : List Entry → E → Type 0) (as_end : E → Option End) (end : E) (after : Holding) (sight : Sight) → (a : Adds is_run seat old new end came)
      → ((made : List Entry) (e : E) → is_run made e → Does (TaskRun setting who place work held) made (as_end e)) → TaskRun setting who place work held a.made (as_end end) after → WhenDone came (Sees after sight) → CameBy work (as_end end) came
      → HasDone (TaskRun setting who place work held) (IsPart work) seat old new sight came
  by_run {E} work is_run as_end end after sight a runs run sees by = record {
    made = a.made;
    entries = a.entries;
    seats = a.seats;
    end = as_end end;
    after = after;
    run = run;
    sees = sees;
    by = by;
    due = when_full came (IsDueAfter is_run seat a.made) (IsDueAfter (Does (TaskRun setting who place work held)) seat a.made)
        (due_by is_run (Does (TaskRun setting who place work held)) seat a.made (λ es e one. (as_end e, runs es e one))) a.due;
  }

  pub upload_done : (work : Work) (sight : Sight) (ulid : ℕ) (stop : Option ℕ) (block : Block) → work ≡ works.Upload ulid stop → declared setting.script ulid ≡ Some block
      → (end : Option End) × Adds (ShipTask setting block stop) seat old new end came × CameBy (works.Upload ulid stop) end came → Sees held sight → HasDone (TaskRun setting who place work held) (IsPart work) seat old new sight came
  upload_done work sight ulid stop block w is ran sees =
      let runs : (made : List Entry) (e : Option End) → ShipTask setting block stop made e → TaskRun setting who place work held made e held =
      λ made e run. subst (λ (x : Work). TaskRun setting who place x held made e held) (sym w) ((block, is, run), refl) in
      by_run work (ShipTask setting block stop) (λ e. e) ran.0 held sight ran.1 (λ made e run. (held, runs made e run)) (runs (ran.1).made ran.0 (ran.1).run) (when_done came (Sees held sight) sees)
      (subst (λ (x : Work). CameBy x ran.0 came) (sym w) ran.2)

  pub compact_done : (work : Work) (sight : Sight) (stop : Option ℕ) (rules : Rules) → work ≡ works.Compact stop → rules ≡ setting.script.rules
      → (end : Option End) × Adds (StoppedRun (compaction rules) compacted stop) seat old new end came × CameBy (works.Compact stop) end came → Sees held sight → HasDone (TaskRun setting who place work held) (IsPart work) seat old new sight came
  compact_done work sight stop rules w same ran sees =
      let runs : (made : List Entry) (e : Option End) → StoppedRun (compaction rules) compacted stop made e → TaskRun setting who place work held made e held =
      λ made e run. subst (λ (x : Work). TaskRun setting who place x held made e held) (sym w) (subst (λ (r : Rules). StoppedRun (compaction r) compacted stop made e) same run, refl) in
      by_run work (StoppedRun (compaction rules) compacted stop) (λ e. e) ran.0 held sight ran.1 (λ made e run. (held, runs made e run)) (runs (ran.1).made ran.0 (ran.1).run) (when_done came (Sees held sight) sees)
      (subst (λ (x : Work). CameBy x ran.0 came) (sym w) ran.2)

  pub clean_done : (work : Work) (sight : Sight) (stop : Option ℕ) (rules : Rules) → work ≡ works.Clean stop → rules ≡ setting.script.rules
      → (end : Option End) × Adds (StoppedRun (cleaning rules) cleaned stop) seat old new end came × CameBy (works.Clean stop) end came → Sees held sight → HasDone (TaskRun setting who place work held) (IsPart work) seat old new sight came
  clean_done work sight stop rules w same ran sees =
      let runs : (made : List Entry) (e : Option End) → StoppedRun (cleaning rules) cleaned stop made e → TaskRun setting who place work held made e held =
      λ made e run. subst (λ (x : Work). TaskRun setting who place x held made e held) (sym w) (subst (λ (r : Rules). StoppedRun (cleaning r) cleaned stop made e) same run, refl) in
      by_run work (StoppedRun (cleaning rules) cleaned stop) (λ e. e) ran.0 held sight ran.1 (λ made e run. (held, runs made e run)) (runs (ran.1).made ran.0 (ran.1).run) (when_done came (Sees held sight) sees)
      (subst (λ (x : Work). CameBy x ran.0 came) (sym w) ran.2)

  sight_told : (made : List Entry) (end : Option SyncEnd) (before : Sight) → Sees held before → Sees (synced_with held made end) (record { view = view_by before.view end; cache = before.cache })
  sight_told made (Some (fetched.View view)) before is = record { view_is = refl; cache_is = is.cache_is }
  sight_told made (Some (fetched.Fault entry)) before is = record { view_is = is.view_is; cache_is = is.cache_is }
  sight_told made (Some (fetched.Damaged entry)) before is = record { view_is = is.view_is; cache_is = is.cache_is }
  sight_told made (Some fetched.TooMany) before is = record { view_is = is.view_is; cache_is = is.cache_is }
  sight_told made None before is = record { view_is = is.view_is; cache_is = is.cache_is }

  pub sync_done : (work : Work) (before : Sight) (view : Option View) (number : ℕ) → work ≡ works.Sync number
      → (end : Option SyncEnd) × Adds (SyncRun (sync_rules setting number)) seat old new end came × CameBy (works.Sync number) (option_map synced end) came × (view ≡ view_by before.view end)
      → Sees held before → HasDone (TaskRun setting who place work held) (IsPart work) seat old new (record { view = view; cache = before.cache }) came
  sync_done work before view number w ran sees =
      let runs : (made : List Entry) (e : Option SyncEnd) → SyncRun (sync_rules setting number) made e → TaskRun setting who place work held made (option_map synced e) (synced_with held made e) =
      λ made e run. subst (λ (x : Work). TaskRun setting who place x held made (option_map synced e) (synced_with held made e)) (sym w) (e, run, refl, refl) in
      let after = synced_with held (ran.1).made ran.0 in
      let sight : Sight = record { view = view; cache = before.cache } in
      by_run work (SyncRun (sync_rules setting number)) (option_map synced) ran.0 after sight ran.1
      (λ made e run. (synced_with held made e, runs made e run)) (runs (ran.1).made ran.0 (ran.1).run)
      (when_done came (Sees after sight) (subst (λ (v : Option View). Sees after (record { view = v; cache = before.cache })) (sym ran.3) (sight_told (ran.1).made ran.0 before sees)))
      (subst (λ (x : Work). CameBy x (option_map synced ran.0) came) (sym w) ran.2)

no_view : (used : Option Use) → option_map (λ (u : Use). u.view) used ≡ None → used ≡ None
no_view None is = refl
no_view (Some used) is = absurd (cc (is))

a_view : (used : Option Use) (view : View) → option_map (λ (u : Use). u.view) used ≡ Some view → (u : Use) × (used ≡ Some u) × (u.view ≡ view)
a_view None view is = absurd (cc (is))
a_view (Some used) view is = (used, refl, cc (is))

-- ---- a gateway that is asked

-- one without a view answers so
pub blind_asked : (held : Holding) (asked : Question) (seat : ℕ) (journal : List Entry) (sight : Sight) → sight.view ≡ None → Sees held sight
    → HasAsked held asked seat journal journal sight (Ok (part.Query given.NoView))
blind_asked held asked seat journal sight blind sees = record {
  made = [];
  entries = sym (append-nil journal);
  seats = All-nil (λ e. e.seat ≡ seat);
  end = Some without_view;
  after = held;
  run = subst (λ (v : Option Use). QueryTask v (Some asked) held [] (Some without_view) held) (sym (no_view held.used (sees.view_is ∙ blind))) ((refl, inr refl), refl);
  sees = sees;
  by = refl;
  due = tt;
}

call_run : (used : Use) (held : Holding) (view : View) (asked : Question) (cache : Cache) (made : List Entry) (own : Option CallEnd) → held.used ≡ Some used → used.view ≡ view → held.cache ≡ cache → SeriesRun view asked cache made own
    → QueryTask held.used (Some asked) held made (option_map (λ (call : CallEnd). answered used call.end) own) (called_with held own)
call_run used held view asked cache made own is same kept run =
    subst (λ (v : Option Use). QueryTask v (Some asked) held made (option_map (λ (call : CallEnd). answered used call.end) own) (called_with held own)) (sym is)
    (own, subst (λ (v : View). SeriesRun v asked held.cache made own) (sym same) (subst (λ (x : Cache). SeriesRun view asked x made own) (sym kept) run), refl, refl)

-- by what a gateway sees after its call
sight_left : (held : Holding) (before after : Sight) (used : Use) (own : Option CallEnd) (came : Result Part Broken) → CameAs IsGatewayPart (option_map (λ (call : CallEnd). answered used call.end) own) came
    → IfSome own (λ (call : CallEnd). call.cache ≡ cache_of after.cache) → Sees held before → after.view ≡ before.view → WhenDone came (Sees (called_with held own) after)
sight_left held before after used (Some call) (Ok o) by left sees same = record { view_is = sees.view_is ∙ sym same; cache_is = left }
sight_left held before after used None (Ok o) by left sees same = absurd by
sight_left held before after used own (Err why) by left sees same = tt

-- one with a view answers by a call over it
pub call_asked : (held : Holding) (asked : Question) (seat : ℕ) (old new : List Entry) (came : Result Part Broken) (before after : Sight) (view : View) (cache : Cache) → before.view ≡ Some view → after.view ≡ before.view → cache ≡ cache_of before.cache
    → ((used : Use) → used.view ≡ view → Called view asked cache seat old new used after.cache came)
    → Sees held before → HasAsked held asked seat old new after came
call_asked held asked seat old new came before after view cache is same kept ran sees =
    let seen = a_view held.used view (sees.view_is ∙ is) in
    let r = ran seen.0 seen.2 in
    let a = r.1 in
    let end : Option CallEnd → Option End = option_map (λ (call : CallEnd). answered seen.0 call.end) in
    let runs : (made : List Entry) (e : Option CallEnd) → SeriesRun view asked cache made e → QueryTask held.used (Some asked) held made (end e) (called_with held e) =
    λ made e run. call_run seen.0 held view asked cache made e seen.1 seen.2 (sees.cache_is ∙ sym kept) run in
    record {
      made = a.made;
      entries = a.entries;
      seats = a.seats;
      end = end r.0;
      after = called_with held r.0;
      run = runs a.made r.0 a.run;
      sees = sight_left held before after seen.0 r.0 came r.2 r.3 sees same;
      by = r.2;
      due = when_full came (IsDueAfter (SeriesRun view asked cache) seat a.made) (IsDueAfter (Does (QueryTask held.used (Some asked) held)) seat a.made)
          (due_by (SeriesRun view asked cache) (Does (QueryTask held.used (Some asked) held)) seat a.made (λ es e one. (end e, (called_with held e, runs es e one)))) a.due;
    }

-- for want of memory nothing was asked
none_query : (used : Option Use) (asked : Question) (held : Holding) → QueryTask used (Some asked) held [] None held
none_query None asked held = ((refl, inl refl), refl)
none_query (Some used) asked held = (None, breaks_off (series_call used.view asked held.cache), refl, refl)

pub short_asked : (held : Holding) (asked : Question) (seat : ℕ) (journal : List Entry) (sight : Sight) → HasAsked held asked seat journal journal sight (Err broken.NoMemory)
short_asked held asked seat journal sight = record {
  made = [];
  entries = sym (append-nil journal);
  seats = All-nil (λ e. e.seat ≡ seat);
  end = None;
  after = held;
  run = none_query held.used asked held;
  sees = tt;
  by = tt;
  due = tt;
}

-- ---- a worker's part of a query

-- its gateway is not asked
pub unasked_done : (setting : Setting) (who : Who) (place : ℕ) (held : Holding) (seat : ℕ) (journal : List Entry) (sight : Sight) (low high : ℤ) (selector : ℕ) (gateway : Option ℕ) → who.gateway ≡ gateway
    → ask_to setting gateway low high ≡ None → Sees held sight → HasDone (TaskRun setting who place (works.Query low high selector) held) (IsPart (works.Query low high selector)) seat journal journal sight (Ok (part.Query given.NotAsked))
unasked_done setting who place held seat journal sight low high selector gateway by none sees =
    let own : ask_to setting who.gateway low high ≡ None = ap (λ (g : Option ℕ). ask_to setting g low high) by ∙ none in
    record {
      made = [];
      entries = sym (append-nil journal);
      seats = All-nil (λ e. e.seat ≡ seat);
      end = Some not_asked;
      after = held;
      run = subst (λ (o : Option Ask). PartTask setting selector o held [] (Some not_asked) held) (sym own) ((refl, inr refl), refl);
      sees = sees;
      by = refl;
      due = tt;
    }

-- the question that it is asked
question_is : (setting : Setting) (selector : ℕ) (ask : Ask) (matchers : List Matcher) → slice_get setting.script.selectors selector ≡ Some matchers
    → question_of setting selector ask ≡ Some (asking matchers setting.script.rules.replicas ask.low ask.high)
question_is setting selector ask matchers at = ap (λ o. option_map (λ (m : List Matcher). asking m setting.script.rules.replicas ask.low ask.high) o) at

pub asked_done : (setting : Setting) (who : Who) (place : ℕ) (held : Holding) (seat : ℕ) (old new : List Entry) (came : Result Part Broken) (sight : Sight) (low high : ℤ) (selector : ℕ) (gateway : Option ℕ) (ask : Ask) (matchers : List Matcher)
    → who.gateway ≡ gateway → ask_to setting gateway low high ≡ Some ask → slice_get setting.script.selectors selector ≡ Some matchers
    → HasAsked held (asking matchers setting.script.rules.replicas ask.low ask.high) seat old new sight came
    → HasDone (TaskRun setting who place (works.Query low high selector) held) (IsPart (works.Query low high selector)) seat old new sight came
asked_done setting who place held seat old new came sight low high selector gateway ask matchers by some at h =
    let question : Question = asking matchers setting.script.rules.replicas ask.low ask.high in
    let own : ask_to setting who.gateway low high ≡ Some ask = ap (λ (g : Option ℕ). ask_to setting g low high) by ∙ some in
    let asks = question_is setting selector ask matchers at in
    let runs : (made : List Entry) (end : Option End) (after : Holding) → QueryTask held.used (Some question) held made end after → TaskRun setting who place (works.Query low high selector) held made end after =
    λ made end after run. subst (λ (o : Option Ask). PartTask setting selector o held made end after) (sym own) (subst (λ (q : Option Question). QueryTask held.used q held made end after) (sym asks) run) in
    record {
      made = h.made;
      entries = h.entries;
      seats = h.seats;
      end = h.end;
      after = h.after;
      run = runs h.made h.end h.after h.run;
      sees = h.sees;
      by = h.by;
      due = when_full came (IsDueAfter (Does (QueryTask held.used (Some question) held)) seat h.made) (IsDueAfter (Does (TaskRun setting who place (works.Query low high selector) held)) seat h.made)
          (due_by (Does (QueryTask held.used (Some question) held)) (Does (TaskRun setting who place (works.Query low high selector) held)) seat h.made (λ es e one. (e, (one.0, runs es e one.0 one.1)))) h.due;
    }

none_part : (setting : Setting) (selector : ℕ) (ask : Option Ask) (held : Holding) (matchers : List Matcher) → slice_get setting.script.selectors selector ≡ Some matchers → PartTask setting selector ask held [] None held
none_part setting selector None held matchers at = ((refl, inl refl), refl)
none_part setting selector (Some ask) held matchers at =
    subst (λ (q : Option Question). QueryTask held.used q held [] None held) (sym (question_is setting selector ask matchers at))
    (none_query held.used (asking matchers setting.script.rules.replicas ask.low ask.high) held)

-- for want of memory nothing was done
pub short_done : (setting : Setting) (who : Who) (place : ℕ) (held : Holding) (seat : ℕ) (journal : List Entry) (sight : Sight) (low high : ℤ) (selector : ℕ) (matchers : List Matcher) → slice_get setting.script.selectors selector ≡ Some matchers
    → HasDone (TaskRun setting who place (works.Query low high selector) held) (IsPart (works.Query low high selector)) seat journal journal sight (Err broken.NoMemory)
short_done setting who place held seat journal sight low high selector matchers at = record {
  made = [];
  entries = sym (append-nil journal);
  seats = All-nil (λ e. e.seat ≡ seat);
  end = None;
  after = held;
  run = none_part setting selector (ask_to setting who.gateway low high) held matchers at;
  sees = tt;
  by = tt;
  due = tt;
}

-- what a gateway is asked among all of them
found_ask : (setting : Setting) (gateway : ℕ) (low low' high high' : ℤ) (asks members : List Ask) (own : Option Ask) → low ≡ low' → high ≡ high' → asks ≡ asks_of low high setting.script.partitions → asks ≡ members → own ≡ find (λ (a : Ask). a.gateway == gateway) members
    → own ≡ ask_to setting (Some gateway) low' high'
found_ask setting gateway low low' high high' asks members own l h are same is =
    subst (λ (x : ℤ). own ≡ ask_to setting (Some gateway) x high') l (subst (λ (y : ℤ). own ≡ ask_to setting (Some gateway) low y) h (is ∙ ap (find (λ (a : Ask). a.gateway == gateway)) (sym same ∙ are)))

-- the same of one that is a gateway's
pub found_by : (setting : Setting) (whose : Option ℕ) (gateway : ℕ) (low low' high high' : ℤ) (asks members : List Ask) (own : Option Ask) → whose ≡ Some gateway → low ≡ low' → high ≡ high' → asks ≡ asks_of low high setting.script.partitions → asks ≡ members
    → own ≡ find (λ (a : Ask). a.gateway == gateway) members → own ≡ ask_to setting whose low' high'
found_by setting whose gateway low low' high high' asks members own is l h are same found =
    subst (λ (o : Option ℕ). own ≡ ask_to setting o low' high') (sym is) (found_ask setting gateway low low' high high' asks members own l h are same found)

-- what is asked, by the partitions that are lent
pub asks_among : (asks : List Ask) (low high : ℤ) (lent own : List Partition) → asks ≡ asks_of low high lent → lent ≡ own → asks ≡ asks_of low high own
asks_among asks low high lent own are same = subst (λ (ps : List Partition). asks ≡ asks_of low high ps) same are

-- what is asked for numbers that were passed on
pub asked_where : (setting : Setting) (gateway : Option ℕ) (low low' high high' : ℤ) (asked own : Option Ask) → low ≡ low' → high ≡ high' → asked ≡ ask_to setting gateway low high → asked ≡ own → ask_to setting gateway low' high' ≡ own
asked_where setting gateway low low' high high' asked own l h is so =
    subst (λ (x : ℤ). ask_to setting gateway x high' ≡ own) l (subst (λ (y : ℤ). ask_to setting gateway low y ≡ own) h (sym is ∙ so))

-- a selector and rules that are the same
pub asked_again : (held : Holding) (matchers own : List Matcher) (rules its : Rules) (low high : ℤ) (seat : ℕ) (old new : List Entry) (sight : Sight) (came : Result Part Broken) → matchers ≡ own → rules ≡ its
    → HasAsked held (asking matchers rules.replicas low high) seat old new sight came → HasAsked held (asking own its.replicas low high) seat old new sight came
asked_again held matchers own rules its low high seat old new sight came same are asked =
    subst (λ (r : Rules). HasAsked held (asking own r.replicas low high) seat old new sight came) are (subst (λ (m : List Matcher). HasAsked held (asking m rules.replicas low high) seat old new sight came) same asked)

-- the range of a lawful query fits its numbers
pub fits_range : (z : ℤ) → neg_ℤ (pos (2 ^ 62)) ≤ℤ z → z ≤ℤ pos (2 ^ 62) → SFits w64 z
fits_range z low high = omega (arith, ints, low, high)

pub upto_range : (low high : ℤ) → low ≤ℤ high → high ≤ℤ pos (2 ^ 62) → low ≤ℤ pos (2 ^ 62)
upto_range low high one other = omega (arith, ints, one, other)

pub from_range : (low high : ℤ) → neg_ℤ (pos (2 ^ 62)) ≤ℤ low → low ≤ℤ high → neg_ℤ (pos (2 ^ 62)) ≤ℤ high
from_range low high one other = omega (arith, ints, one, other)

-- ---- the times that a gateway is asked fit their numbers

either_fits : (b : Bool) (one other : ℤ) → SFits w64 one → SFits w64 other → SFits w64 (cond b one other)
either_fits true one other a b = a
either_fits false one other a b = b

partition_fits : (p : Partition) → IsLawfulPartition p → SFits w64 p.low × SFits w64 p.high
partition_fits p (inl is) = subst (λ (q : Partition). SFits w64 q.low × SFits w64 q.high) (sym is) (omega (arith, ints), omega (arith, ints))
partition_fits p (inr (from, order, upto)) = (
  fits_range p.low from (upto_range p.low p.high order upto),
  fits_range p.high (from_range p.low p.high from order) upto,
)

pub ask_fits : (setting : Setting) (gateway : Option ℕ) (low high : ℤ) (ask : Ask) → IsLawfulScript setting.script → SFits w64 low → SFits w64 high → ask_to setting gateway low high ≡ Some ask → SFits w64 ask.low × SFits w64 ask.high
ask_fits setting None low high ask lawful from upto is = absurd (cc (is))
ask_fits setting (Some gateway) low high ask lawful from upto is =
    let of = ask_partition setting gateway low high ask is in
    let fits = partition_fits of.1 (All-contains IsLawfulPartition setting.script.partitions of.1 lawful.partitions of.2) in (
      subst (λ (a : Ask). SFits w64 a.low) (sym of.3) (either_fits (int_lt of.1.low low) low of.1.low from fits.0),
      subst (λ (a : Ask). SFits w64 a.high) (sym of.3) (either_fits (int_lt of.1.high high) of.1.high high fits.1 upto),
    )

pub asks_fit : (setting : Setting) (gateway : Option ℕ) (low high : ℤ) (asked : Option Ask) → IsLawfulScript setting.script → SFits w64 low → SFits w64 high → asked ≡ ask_to setting gateway low high → IfSome asked (λ (own : Ask). SFits w64 own.low × SFits w64 own.high)
asks_fit setting gateway low high None lawful from upto is = tt
asks_fit setting gateway low high (Some ask) lawful from upto is = ask_fits setting gateway low high ask lawful from upto (sym is)
