-- All that is guaranteed of a run, from what its entries tell, its views and its answers.
use Rattle.base.proofs.Membership.{all_members, contains_place}
use Rattle.base.proofs.Pairs.{AllZip-weaker_where}
use Rattle.std.proofs.Common.{◌≡◌, ◌≢◌, ◌⊎◌, inl, inr, ℕ, Bool, List, [], ◌∷◌, ◌++◌, length, All, Contains, Option, Some, None, refl, sym, ◌∙◌, ap, subst, arith}
use Rattle.std.specs.Prelude.{option_map, count_by}
use Rattle.std.specs.List.{AllZip, filter, flat_map}
use Rattle.std.proofs.lemmas.List.{length-append}
use Rattle.std.proofs.lemmas.List.Elements.{All-contains}
use Rattle.std.proofs.lemmas.List.Sums.{length-filter}
use Rattle.label_sets.specs.Triples.{Triple}
use Rattle.label_sets.specs.declared.series.Series.{Series}
use Rattle.block_meta.specs.MetaFields.{MetaFields}
use Rattle.world_core.specs.Journals.{IsNumbered, entry_at}
use Rattle.world_core.specs.Operations.{has_failed}
use Rattle.world_core.specs.Standing.{IsHonest}
use Rattle.world_core.specs.Worlds.{IsOfBytes, failed_count}
use Rattle.matchers.specs.SelectorText.{named_replicas}
use Rattle.world_core.specs.declared.entry.Entry.{Entry}
use Rattle.shipper.specs.declared.upload.UploadEnd.{UploadEnd}
use Rattle.shipper.specs.declared.upload.UploadEnd.TheVariants as shipped
use Rattle.meta_fetcher.specs.Syncs.{SyncRun}
use Rattle.meta_fetcher.specs.declared.sync.SyncEnd.{SyncEnd}
use Rattle.meta_fetcher.specs.declared.sync.SyncEnd.TheVariants as fetched
use Rattle.moment_core.specs.declared.rules.Rules.{Rules}
use Rattle.compactor.specs.Compactions.{CompactRun, compaction}
use Rattle.compactor.specs.declared.compact_end.CompactEnd.{CompactEnd}
use Rattle.compactor.specs.declared.compact_end.CompactEnd.TheVariants as compacting
use Rattle.cleaner.specs.Cleanings.{CleanRun, cleaning}
use Rattle.cleaner.specs.declared.clean.CleanEnd.{CleanEnd}
use Rattle.cleaner.specs.declared.clean.CleanEnd.TheVariants as cleanup
use Rattle.meta_fetcher.specs.declared.view.View.{View}
use Rattle.store_ranges.specs.Reads.{Cache, Query as Question}
use Rattle.store_calls.specs.SeriesCalls.{CallEnd, SeriesRun, asking}
use Rattle.store_calls.specs.declared.series_call.SeriesEnd.{SeriesEnd}
use Rattle.store_calls.specs.declared.series_call.SeriesEnd.TheVariants as called
use Rattle.querier.specs.declared.asking.Ask.{Ask}
use Rattle.script_core.specs.Lawful.{IsLawfulScript, IsLawfulSelector}
use Rattle.script_workers.specs.declared.work.Work.{Work}
use Rattle.script_workers.specs.declared.work.Work.TheVariants.{Upload, Sync, Compact, Clean, Query}
use Rattle.lifecycle_core.specs.Breaches.{IsUnbroken, watched_call}
use Rattle.lifecycle_core.specs.Causes.{AreFaultsShown, AreFound, AreUndamaged, AreWell, IsDamaged, IsFault, IsMissing, IsWell, SomeCame}
use Rattle.lifecycle_core.specs.Completed.{IsCompletedAt, IsUploadedBefore}
use Rattle.lifecycle_core.specs.Conducts.{Who}
use Rattle.lifecycle_core.specs.Guarantees.{Answered, IsExact, IsGiven, IsGuaranteed, IsGuaranteedJournal, IsSound, IsSoundCall, Named, NamesAll, NamesUploads, asked_of}
use Rattle.lifecycle_core.specs.Holdings.{Holding, Use}
use Rattle.lifecycle_core.specs.Phases.{IsInTurn, IsRunOf}
use Rattle.lifecycle_core.specs.Setting.{Setting}
use Rattle.lifecycle_core.specs.SyncsAndCalls.{IsViewOf}
use Rattle.lifecycle_core.specs.TimeRules.{IsSyncedInTime, IsUploadedInTime}
use Rattle.lifecycle_core.specs.Tasks.{End, PartTask, QueryTask, TaskRun, answered, ask_to, cleaned, compacted, not_asked, question_of, refused, stopped, sync_rules, synced, uploaded, without_view}
use Rattle.lifecycle_core.proofs.journals.Standing.{parted, the_entry}
use Rattle.lifecycle_core.proofs.answers.GivenParts.{Part, in_journal, made, of_parts, origin, view as part_view}
use Rattle.lifecycle_core.proofs.answers.RunCalls.{calls_undamaged, honest_misses_nothing, misses_explained, rising, rounds_explained, unbroken_misses_nothing}
use Rattle.lifecycle_core.proofs.answers.Joining.{joined}
use Rattle.lifecycle_core.proofs.answers.SoundCalls.{call_is_worth}
use Rattle.lifecycle_core.proofs.blocks.Contents.{complete_holds, of_whole}
use Rattle.lifecycle_core.proofs.deeds.ActingDeeds.{acting_deeds}
use Rattle.lifecycle_core.proofs.deeds.Words.{AreDeeds}
use Rattle.lifecycle_core.proofs.phases.ActingRuns.{runs_act}
use Rattle.lifecycle_core.proofs.phases.FirstPhases.{none_run}
use Rattle.lifecycle_core.proofs.phases.WholeSeats.{compaction_came}
use Rattle.lifecycle_core.proofs.misses.Faults.{ShowsFault, call_shows, sync_shows, upload_shows}
use Rattle.lifecycle_core.proofs.misses.RoundFaults.{cleaning_shows, compaction_shows}
use Rattle.lifecycle_core.proofs.journals.Positions.{filtered}
use Rattle.lifecycle_core.proofs.views.FewListed.{none_compacted_many, none_found_many}
use Rattle.lifecycle_core.proofs.views.ViewsThere.{views_are_there}
use Rattle.lifecycle_core.proofs.phases.TasksMade.{ends_are_made}
use Rattle.lifecycle_core.proofs.journals.Rising.{journal_rises}
use Rattle.lifecycle_core.proofs.journals.UnbrokenHonest.{unbroken_is_honest}
use Rattle.lifecycle_core.proofs.journals.Told.{Rises}
use Rattle.lifecycle_core.proofs.phases.GatewayParts.{part_ends, query_is}
use Rattle.lifecycle_core.proofs.phases.ShipEnds.{ship_end, stopped_end}
use Rattle.vertical_merge.specs.Merged.{IsDeduplication}
use Rattle.label_sets.specs.Triples.{triples_of}
use Rattle.lifecycle_core.proofs.views.Undamaged.{cleanings_undamaged, syncs_undamaged}
use Rattle.lifecycle_core.proofs.views.RoundsUndamaged.{compactions_undamaged}

-- ---- failed calls

upload_fault : (own : UploadEnd) (number : ℕ) → IsFault (uploaded own) number → own ≡ shipped.Fault number
upload_fault (shipped.Done count) number is = absurd is
upload_fault shipped.Already number is = absurd is
upload_fault (shipped.Fault n) number is = ap shipped.Fault is

sync_fault : (own : SyncEnd) (number : ℕ) → IsFault (synced own) number → own ≡ fetched.Fault number
sync_fault (fetched.View view) number is = absurd is
sync_fault (fetched.Fault n) number is = ap fetched.Fault is
sync_fault (fetched.Damaged n) number is = absurd is
sync_fault fetched.TooMany number is = absurd is

call_fault : (used : Use) (own : SeriesEnd) (number : ℕ) → IsFault (answered used own) number → own ≡ called.Fault number
call_fault used (called.Answer series sources) number is = absurd is
call_fault used (called.Missing n) number is = absurd is
call_fault used (called.Damaged n) number is = absurd is
call_fault used (called.Fault n) number is = ap called.Fault is

call_end_shows : (from : Use) (question : Question) (cache : Cache) (entries : List Entry) (own : Option CallEnd) (end : End) (number : ℕ) → SeriesRun from.view question cache entries own → Some end ≡ option_map (λ (call : CallEnd). answered from call.end) own → IsFault end number
    → ShowsFault entries number
call_end_shows from question cache entries None end number run same is = absurd (cc (same))
call_end_shows from question cache entries (Some own) end number run same is =
    let e : end ≡ answered from own.end = cc (same) in
    call_shows from.view question cache entries own run number (call_fault from own.end number (subst (λ (x : End). IsFault x number) e is))

query_shows : (used : Option Use) (asked : Option Question) (before after : Holding) (entries : List Entry) (end : End) (number : ℕ) → QueryTask used asked before entries (Some end) after → IsFault end number → ShowsFault entries number
query_shows used asked before after entries end number run is = elim (query_is used asked before entries (Some end) after run) [
  | inl none ↦ not_faulty end without_view number none.0.1 (λ f. f) is
  | inr call ↦ call_end_shows call.from call.question before.cache entries call.own end number call.run call.came is
]
  where
    not_faulty : (end own : End) (number : ℕ) → (Some end ≡ None) ⊎ (Some end ≡ Some own) → ¬ IsFault own number → IsFault end number → ShowsFault entries number
    not_faulty end own number (inl none) clear is = absurd (cc (none))
    not_faulty end own number (inr same) clear is = let e : end ≡ own = cc (same) in absurd (clear (subst (λ (x : End). IsFault x number) e is))

part_shows : (setting : Setting) (selector : ℕ) (ask : Option Ask) (before after : Holding) (entries : List Entry) (end : End) (number : ℕ) → PartTask setting selector ask before entries (Some end) after → IsFault end number → ShowsFault entries number
part_shows setting selector None before after entries end number ((nil, inl none), left) is = absurd (cc (none))
part_shows setting selector None before after entries end number ((nil, inr same), left) is = let e : end ≡ not_asked = cc (same) in absurd (subst (λ (x : End). IsFault x number) e is)
part_shows setting selector (Some ask) before after entries end number run is = query_shows before.used (question_of setting selector ask) before after entries end number run is

compact_fault : (entries : List Entry) (rules : Rules) (own : CompactEnd) (number : ℕ) → CompactRun rules entries (Some own) → IsFault (compacted own) number → ShowsFault entries number
compact_fault entries rules (compacting.Done collected groups expired) number run is = absurd is
compact_fault entries rules (compacting.Fault n) number run is = subst (ShowsFault entries) is (compaction_shows rules entries n run)
compact_fault entries rules (compacting.Missing n) number run is = absurd is
compact_fault entries rules (compacting.Damaged n) number run is = absurd is
compact_fault entries rules compacting.TooMany number run is = absurd is
compact_fault entries rules compacting.TooLarge number run is = absurd is

clean_fault : (entries : List Entry) (rules : Rules) (own : CleanEnd) (number : ℕ) → CleanRun rules entries (Some own) → IsFault (cleaned own) number → ShowsFault entries number
clean_fault entries rules (cleanup.Done blocks partials) number run is = absurd is
clean_fault entries rules (cleanup.Fault n) number run is = subst (ShowsFault entries) is (cleaning_shows rules entries n run)
clean_fault entries rules (cleanup.Damaged n) number run is = absurd is
clean_fault entries rules cleanup.TooMany number run is = absurd is

task_shows : (setting : Setting) (who : Who) (place : ℕ) (w : Work) (held after : Holding) (entries : List Entry) (end : End) (number : ℕ) → TaskRun setting who place w held entries (Some end) after → IsFault end number → ShowsFault entries number
task_shows setting who place (Upload ulid stop) held after entries end number ((block, declared_is, ships), left) is =
    ship_end (λ (x : End). IsFault x number → ShowsFault entries number) setting block stop entries end
    (λ objects own run is. upload_shows block.ulid objects entries (Some own) run number (ap (λ (x : UploadEnd). Some x) (upload_fault own number is))) (λ cause is. absurd is) (λ n is. absurd is) ships is
task_shows setting who place (Sync gateway) held after entries end number (None, run, same, left) is = absurd (cc (same))
task_shows setting who place (Sync gateway) held after entries end number (Some own, run, same, left) is =
    let e : end ≡ synced own = cc (same) in
    sync_shows (sync_rules setting gateway) entries (Some own) run number (ap (λ x. Some x) (sync_fault own number (subst (λ (x : End). IsFault x number) e is)))
task_shows setting who place (Compact stop) held after entries end number (run, left) is =
    stopped_end (λ (x : End). IsFault x number → ShowsFault entries number) (compaction setting.script.rules) compacted stop entries end
    (λ own done fault. compact_fault entries setting.script.rules own number done fault) (λ n fault. absurd fault) run is
task_shows setting who place (Clean stop) held after entries end number (run, left) is =
    stopped_end (λ (x : End). IsFault x number → ShowsFault entries number) (cleaning setting.script.rules) cleaned stop entries end
    (λ own done fault. clean_fault entries setting.script.rules own number done fault) (λ n fault. absurd fault) run is
task_shows setting who place (Query low high selector) held after entries end number run is = part_shows setting selector (ask_to setting who.gateway low high) held after entries end number run is

shown_at : (journal : List Entry) (number : ℕ) → IsNumbered journal → (e : Entry) → Contains journal e → e.seq ≡ number → entry_at journal number ≡ Some e
shown_at journal number numbered e among is =
    let at = parted journal e among in the_entry journal at.0 at.1 e number at.2 (sym is ∙ numbered at.0 at.1 e at.2)

module _ (setting : Setting) (journal : List Entry) (ends : List (List (List End))) (run : IsRunOf setting journal ends) where
  abbrev rises : Rises journal
  rises = journal_rises setting.script.rules.tick.ms journal run.kept

  fault_among : (end : End) (number : ℕ) → SomeCame ends end → IsFault end number → ShowsFault journal number
  fault_among end number came fault =
      let made = ends_are_made setting journal ends rises run end came in
      let m = made.1 in
      let shown = task_shows setting m.who m.place (made.0).work m.held m.after m.entries end number m.run fault in
      (shown.0, m.part.among shown.0 shown.1, shown.2, shown.3)

  faults_shown : AreFaultsShown journal ends
  faults_shown end number came fault =
      let shown = fault_among end number came fault in (shown.0, shown_at journal number run.kept.numbered shown.0 shown.1 shown.2, shown.3)

-- where no call failed, none is shown
none_failed : (journal : List Entry) (number : ℕ) → failed_count journal ≡ 0 → ¬ ShowsFault journal number
none_failed journal number none (e, among, is, failed) =
    let at = parted journal e among in
    let p : Entry → Bool = λ x. has_failed x.reply in
    let counted : count_by p (at.0 ++ e ∷ at.1) ≡ 0 = ap (count_by p) (sym at.2) ∙ none in
    let here : filter p (at.0 ++ e ∷ at.1) ≡ filter p at.0 ++ e ∷ filter p at.1 = filtered p at.0 at.1 e failed in
    omega (arith, counted, length-filter p (at.0 ++ e ∷ at.1), ap (length {A = Entry}) here, length-append (filter p at.0) (e ∷ filter p at.1))

-- ---- damage

-- a sync's end comes of a sync
synced_by : (setting : Setting) (who : Who) (place : ℕ) (w : Work) (held after : Holding) (entries : List Entry) (own : SyncEnd) → TaskRun setting who place w held entries (Some (synced own)) after → (gateway : ℕ) × SyncRun (sync_rules setting gateway) entries (Some own)
synced_by setting who place (Upload ulid stop) held after entries own ((block, is, ships), left) =
    absurd (ship_end (λ (x : End). x ≡ synced own → ⊥) setting block stop entries (synced own) (λ objects end run same. cc (same)) (λ cause same. cc (same)) (λ n same. cc (same)) ships (λ i. synced own))
synced_by setting who place (Sync gateway) held after entries own (None, run, same, left) = absurd (cc (same))
synced_by setting who place (Sync gateway) held after entries own (Some e, run, same, left) =
    let one : e ≡ own = cc (same) in (gateway, subst (λ (x : SyncEnd). SyncRun (sync_rules setting gateway) entries (Some x)) one run)
synced_by setting who place (Compact stop) held after entries own (run, left) =
    absurd (stopped_end (λ (x : End). x ≡ synced own → ⊥) (compaction setting.script.rules) compacted stop entries (synced own) (λ end done same. cc (same)) (λ n same. cc (same)) run (λ i. synced own))
synced_by setting who place (Clean stop) held after entries own (run, left) =
    absurd (stopped_end (λ (x : End). x ≡ synced own → ⊥) (cleaning setting.script.rules) cleaned stop entries (synced own) (λ end done same. cc (same)) (λ n same. cc (same)) run (λ i. synced own))
synced_by setting who place (Query low high selector) held after entries own run =
    let part = part_ends setting selector (ask_to setting who.gateway low high) held after entries (synced own) (λ off. cc (off)) run in
    absurd (elim (query_is held.used (question_of setting selector part.0) held entries (Some (synced own)) after part.2) [
      | inl none ↦ elim none.0.1 [ inl off ↦ cc (off) | inr same ↦ cc (same) ]
      | inr call ↦ no_call call.from call.own call.came
    ])
  where
    no_call : (from : Use) (call : Option CallEnd) → Some (synced own) ≡ option_map (λ (c : CallEnd). answered from c.end) call → ⊥
    no_call from None is = cc (is)
    no_call from (Some call) is = cc (is)

-- and a cleaning's of a cleaning
no_sync_ends : (end : End) → ((own : SyncEnd) → end ≢ synced own) → (own : Option SyncEnd) → Some end ≡ option_map synced own → ⊥
no_sync_ends end other None same = cc (same)
no_sync_ends end other (Some own) same = other own (cc (same))

no_call_ends : (end : End) → ((used : Use) (own : SeriesEnd) → end ≢ answered used own) → (from : Use) (call : Option CallEnd) → Some end ≡ option_map (λ (c : CallEnd). answered from c.end) call → ⊥
no_call_ends end other from None same = cc (same)
no_call_ends end other from (Some call) same = other from call.end (cc (same))

cleaned_by : (setting : Setting) (who : Who) (place : ℕ) (w : Work) (held after : Holding) (entries : List Entry) (own : CleanEnd) → TaskRun setting who place w held entries (Some (cleaned own)) after → CleanRun setting.script.rules entries (Some own)
cleaned_by setting who place (Upload ulid stop) held after entries own ((block, is, ships), left) =
    absurd (ship_end (λ (x : End). x ≡ cleaned own → ⊥) setting block stop entries (cleaned own) (λ objects end run same. cc (same)) (λ cause same. cc (same)) (λ n same. cc (same)) ships (λ i. cleaned own))
cleaned_by setting who place (Sync gateway) held after entries own (end, run, same, left) = absurd (no_sync_ends (cleaned own) (λ e is. cc (is)) end same)
cleaned_by setting who place (Compact stop) held after entries own (run, left) =
    absurd (stopped_end (λ (x : End). x ≡ cleaned own → ⊥) (compaction setting.script.rules) compacted stop entries (cleaned own) (λ end done same. cc (same)) (λ n same. cc (same)) run (λ i. cleaned own))
cleaned_by setting who place (Clean stop) held after entries own (run, left) =
    stopped_end (λ (x : End). x ≡ cleaned own → CleanRun setting.script.rules entries (Some own)) (cleaning setting.script.rules) cleaned stop entries (cleaned own)
    (λ end done same. let one : end ≡ own = cc (same) in subst (λ (x : CleanEnd). CleanRun setting.script.rules entries (Some x)) one done) (λ n same. absurd (cc (same))) run (λ i. cleaned own)
cleaned_by setting who place (Query low high selector) held after entries own run =
    let part = part_ends setting selector (ask_to setting who.gateway low high) held after entries (cleaned own) (λ off. cc (off)) run in
    absurd (elim (query_is held.used (question_of setting selector part.0) held entries (Some (cleaned own)) after part.2) [
      | inl none ↦ elim none.0.1 [ inl off ↦ cc (off) | inr same ↦ cc (same) ]
      | inr call ↦ no_call_ends (cleaned own) (λ used e is. cc (is)) call.from call.own call.came
    ])

damaged_by : (end : End) → ((number : ℕ) → end ≢ synced (fetched.Damaged number)) → ((number : ℕ) → end ≢ compacted (compacting.Damaged number)) → ((number : ℕ) → end ≢ cleaned (cleanup.Damaged number))
    → ((used : Use) (number : ℕ) → end ≢ answered used (called.Damaged number)) → ¬ IsDamaged end
damaged_by (uploaded own) syncs rounds cleans calls is = is
damaged_by (synced (fetched.View view)) syncs rounds cleans calls is = is
damaged_by (synced (fetched.Fault entry)) syncs rounds cleans calls is = is
damaged_by (synced (fetched.Damaged entry)) syncs rounds cleans calls is = syncs entry refl
damaged_by (synced fetched.TooMany) syncs rounds cleans calls is = is
damaged_by (compacted (compacting.Done collected groups expired)) syncs rounds cleans calls is = is
damaged_by (compacted (compacting.Fault entry)) syncs rounds cleans calls is = is
damaged_by (compacted (compacting.Missing entry)) syncs rounds cleans calls is = is
damaged_by (compacted (compacting.Damaged entry)) syncs rounds cleans calls is = rounds entry refl
damaged_by (compacted compacting.TooMany) syncs rounds cleans calls is = is
damaged_by (compacted compacting.TooLarge) syncs rounds cleans calls is = is
damaged_by (cleaned (cleanup.Done blocks partials)) syncs rounds cleans calls is = is
damaged_by (cleaned (cleanup.Fault entry)) syncs rounds cleans calls is = is
damaged_by (cleaned (cleanup.Damaged entry)) syncs rounds cleans calls is = cleans entry refl
damaged_by (cleaned cleanup.TooMany) syncs rounds cleans calls is = is
damaged_by (answered used (called.Answer series sources)) syncs rounds cleans calls is = is
damaged_by (answered used (called.Missing entry)) syncs rounds cleans calls is = is
damaged_by (answered used (called.Damaged entry)) syncs rounds cleans calls is = calls used entry refl
damaged_by (answered used (called.Fault entry)) syncs rounds cleans calls is = is
damaged_by without_view syncs rounds cleans calls is = is
damaged_by not_asked syncs rounds cleans calls is = is
damaged_by (refused cause) syncs rounds cleans calls is = is
damaged_by (stopped count) syncs rounds cleans calls is = is

-- ---- every end is well

well : (end : End) → ((number : ℕ) → ¬ IsFault end number) → ¬ IsDamaged end → ((number : ℕ) → ¬ IsMissing end number) → end ≢ synced fetched.TooMany → end ≢ compacted compacting.TooMany → end ≢ without_view → IsWell end
well (uploaded (shipped.Done count)) faults damaged missing few rounds there = tt
well (uploaded shipped.Already) faults damaged missing few rounds there = tt
well (uploaded (shipped.Fault n)) faults damaged missing few rounds there = absurd (faults n refl)
well (synced (fetched.View v)) faults damaged missing few rounds there = tt
well (synced (fetched.Fault n)) faults damaged missing few rounds there = absurd (faults n refl)
well (synced (fetched.Damaged n)) faults damaged missing few rounds there = absurd (damaged tt)
well (synced fetched.TooMany) faults damaged missing few rounds there = absurd (few refl)
well (compacted (compacting.Done collected groups expired)) faults damaged missing few rounds there = tt
well (compacted (compacting.Fault n)) faults damaged missing few rounds there = absurd (faults n refl)
well (compacted (compacting.Missing n)) faults damaged missing few rounds there = absurd (missing n refl)
well (compacted (compacting.Damaged n)) faults damaged missing few rounds there = absurd (damaged tt)
well (compacted compacting.TooMany) faults damaged missing few rounds there = absurd (rounds refl)
well (compacted compacting.TooLarge) faults damaged missing few rounds there = tt
well (cleaned (cleanup.Done blocks partials)) faults damaged missing few rounds there = tt
well (cleaned (cleanup.Fault n)) faults damaged missing few rounds there = absurd (faults n refl)
well (cleaned (cleanup.Damaged n)) faults damaged missing few rounds there = absurd (damaged tt)
well (cleaned cleanup.TooMany) faults damaged missing few rounds there = tt
well (answered used (called.Answer series sources)) faults damaged missing few rounds there = tt
well (answered used (called.Missing n)) faults damaged missing few rounds there = absurd (missing n refl)
well (answered used (called.Damaged n)) faults damaged missing few rounds there = absurd (damaged tt)
well (answered used (called.Fault n)) faults damaged missing few rounds there = absurd (faults n refl)
well without_view faults damaged missing few rounds there = absurd (there refl)
well not_asked faults damaged missing few rounds there = tt
well (refused cause) faults damaged missing few rounds there = tt
well (stopped n) faults damaged missing few rounds there = tt

-- ---- an honest journal

module _ (setting : Setting) (journal : List Entry) (ends : List (List (List End))) (lawful : IsLawfulScript setting.script) (run : IsRunOf setting journal ends) (honest : IsHonest journal) where
  abbrev known_rises : Rises journal
  known_rises = rising setting journal ends lawful run

  deeds : AreDeeds setting journal
  deeds = (acting_deeds setting journal lawful (runs_act setting journal ends lawful run)).deeds

  undamaged : IsOfBytes journal → AreUndamaged ends
  undamaged of_bytes end came =
      damaged_by end
      (λ number is.
      let made = ends_are_made setting journal ends known_rises run (synced (fetched.Damaged number)) (subst (SomeCame ends) is came) in
      let m = made.1 in
      let own = synced_by setting m.who m.place (made.0).work m.held m.after m.entries (fetched.Damaged number) m.run in
      syncs_undamaged setting journal lawful deeds honest (sync_rules setting own.0) m.entries number m.part.among own.1)
      (λ number is.
      let own = compaction_came setting journal ends lawful run (compacting.Damaged number) (subst (SomeCame ends) is came) in
      compactions_undamaged setting journal lawful deeds of_bytes honest own.seat number own.run)
      (λ number is.
      let made = ends_are_made setting journal ends known_rises run (cleaned (cleanup.Damaged number)) (subst (SomeCame ends) is came) in
      let m = made.1 in
      cleanings_undamaged setting journal lawful deeds honest setting.script.rules m.entries number m.part.among (cleaned_by setting m.who m.place (made.0).work m.held m.after m.entries (cleanup.Damaged number) m.run))
      (λ used number is. calls_undamaged setting journal ends lawful run of_bytes honest used number (subst (SomeCame ends) is came))

  -- ---- answered queries

  module _ (of_bytes : IsOfBytes journal) (query : Answered) (given : IsGiven setting ends query) where
    of_selector : named_replicas setting.script.rules.replicas query.selector ≡ []
    of_selector =
        (All-contains (IsLawfulSelector setting.script.rules.replicas) setting.script.selectors query.selector lawful.selectors
        (contains_place setting.script.selectors given.selector_number query.selector given.selects)).1.no_replica

    abbrev Its : Named → List Series → Type 0
    Its = Part setting journal ends run query given

    -- one gateway's part
    module _ (named : Named) (series : List Series) (among : Contains query.named named) (part : Its named series) where
      abbrev entries : List Entry
      entries = (made setting journal ends run query given named series among part).entries

      abbrev sync : List Entry
      sync = (origin setting journal ends run query given named series among part).entries

      worth : IsSoundCall setting (watched_call named.used sync entries) journal (sync_rules setting named.gateway) named.used (asking query.selector setting.script.rules.replicas named.low named.high) (Some (called.Answer series named.sources))
      worth =
          call_is_worth setting journal lawful deeds of_bytes honest named.gateway named.used sync (part_view setting journal ends run query given named series among part) query.selector named.low named.high entries of_selector
          (Some (called.Answer series named.sources)) (in_journal setting journal ends run query given named series among part)

      part_exact : IsDeduplication (triples_of series) (asked_of setting query.selector named)
      part_exact = worth.exact series named.sources refl

      part_names : All (λ ulid. IsUploadedBefore setting journal ulid named.used.last) named.sources
      part_names = worth.named series named.sources refl

      part_covers : ((ulid : ℕ) → IsUploadedInTime setting.script.rules ulid journal) → ((own : List Entry) → IsViewOf (sync_rules setting named.gateway) journal named.used own → IsSyncedInTime setting.script.rules own) → NamesAll setting journal named
      part_covers timely quick = worth.covered timely quick series named.sources refl

    all_exact : AllZip (λ n series. IsDeduplication (triples_of series) (asked_of setting query.selector n)) query.named given.parts
    all_exact =
        AllZip-weaker_where (Contains query.named) Its (λ n series. IsDeduplication (triples_of series) (asked_of setting query.selector n)) part_exact query.named given.parts
        (all_members (Contains query.named) query.named (λ n among. among)) given.given

    exact : IsExact setting query
    exact = subst (λ (ts : List Triple). IsDeduplication ts (flat_map (asked_of setting query.selector) query.named)) (sym given.samples)
        (joined (asked_of setting query.selector) query.named given.parts all_exact given.series given.merged)

    -- each gateway names uploads alone
    names : NamesUploads setting journal query
    names = of_parts setting journal ends run query given (λ n. All (λ ulid. IsUploadedBefore setting journal ulid n.used.last) n.sources) part_names

    -- and each that was due, where its sync was in time
    abbrev Covered : Named → Type 0
    Covered n = ((entries : List Entry) → IsViewOf (sync_rules setting n.gateway) journal n.used entries → IsSyncedInTime setting.script.rules entries) → NamesAll setting journal n

    covers : ((ulid : ℕ) → IsUploadedInTime setting.script.rules ulid journal) → All Covered query.named
    covers timely = of_parts setting journal ends run query given Covered (λ n series among part. part_covers n series among part timely)

    is_sound : IsSound setting journal query
    is_sound = record { exact = exact; named = names; covered = covers }

  few : ¬ SomeCame ends (synced fetched.TooMany)
  few = none_found_many setting journal ends deeds honest run

  few_rounds : ¬ SomeCame ends (compacted compacting.TooMany)
  few_rounds = none_compacted_many setting journal ends deeds honest run

  no_fault : failed_count journal ≡ 0 → (end : End) → SomeCame ends end → (number : ℕ) → ¬ IsFault end number
  no_fault none end came number fault = none_failed journal number none (fault_among setting journal ends run end number came fault)

  views_given : IsOfBytes journal → failed_count journal ≡ 0 → (e : SyncEnd) → SomeCame ends (synced e) → (v : View) × (e ≡ fetched.View v)
  views_given of_bytes none (fetched.View v) came = (v, refl)
  views_given of_bytes none (fetched.Fault n) came = absurd (no_fault none (synced (fetched.Fault n)) came n refl)
  views_given of_bytes none (fetched.Damaged n) came = absurd (undamaged of_bytes (synced (fetched.Damaged n)) came tt)
  views_given of_bytes none fetched.TooMany came = absurd (few came)

  pub complete : IsOfBytes journal → AreFound ends → IsInTurn setting ends → failed_count journal ≡ 0 → AreWell ends
  complete of_bytes found turns none end came =
      well end (no_fault none end came) (undamaged of_bytes end came)
      (λ number. found end number came)
      (λ is. few (subst (SomeCame ends) is came))
      (λ is. few_rounds (subst (SomeCame ends) is came))
      (λ is. views_are_there setting journal ends lawful turns run (views_given of_bytes none) (subst (SomeCame ends) is came))

-- where no entry breaks a rule
pub unbroken_complete : (setting : Setting) (journal : List Entry) (ends : List (List (List End))) → IsLawfulScript setting.script → IsRunOf setting journal ends → IsOfBytes journal → IsInTurn setting ends → IsUnbroken setting journal → failed_count journal ≡ 0 → AreWell ends
unbroken_complete setting journal ends lawful run of_bytes turns unbroken none =
    complete setting journal ends lawful run (unbroken_is_honest setting setting.script.rules.tick.ms journal run.kept of_bytes unbroken) of_bytes (unbroken_misses_nothing setting journal ends lawful run turns of_bytes unbroken) turns none

-- in every run of a lawful script
pub all_guaranteed : (setting : Setting) (journal : List Entry) (ends : List (List (List End))) → IsLawfulScript setting.script → IsRunOf setting journal ends → IsOfBytes journal → IsGuaranteed setting journal ends
all_guaranteed setting journal ends lawful run of_bytes = record {
  explained = λ turns. misses_explained setting journal ends lawful run turns of_bytes;
  compactions = rounds_explained setting journal ends lawful run of_bytes;
  faults = faults_shown setting journal ends run;
  undamaged = λ honest. undamaged setting journal ends lawful run honest of_bytes;
  sound = λ honest query given. is_sound setting journal ends lawful run honest of_bytes query given;
  held = λ honest ulid seq meta complete.
      of_whole setting journal ulid seq meta (complete_holds setting journal lawful (acting_deeds setting journal lawful (runs_act setting journal ends lawful run)).deeds of_bytes honest ulid seq meta complete);
  complete = λ turns calm none. elim calm [
    | inl unbroken ↦ unbroken_complete setting journal ends lawful run of_bytes turns unbroken none
    | inr quiet ↦ complete setting journal ends lawful run quiet.0 of_bytes (honest_misses_nothing setting journal ends lawful run quiet.0 of_bytes quiet.1) turns none
  ];
}

-- nothing came of a run without an entry
no_end_came : (end : End) → ¬ SomeCame [] end
no_end_came end (phase, own, (k, below, at), two, three) = absurd (omega (arith, below))

nothing_given : (setting : Setting) (query : Answered) → ¬ IsGiven setting [] query
nothing_given setting query given = cc (given.phase_came)

none_complete : (ulid seq : ℕ) (meta : MetaFields) → ¬ IsCompletedAt [] ulid seq meta
none_complete ulid seq meta complete = none_before complete.before complete.entry complete.after complete.is
  where
    none_before : (front : List Entry) (e : Entry) (back : List Entry) → ¬ ([] ≡ front ++ e ∷ back)
    none_before [] e back is = cc (is)
    none_before (x ∷ front) e back is = cc (is)

pub none_guaranteed : (setting : Setting) → IsGuaranteedJournal setting []
none_guaranteed setting = (
  [],
  none_run setting,
  tt,
  record {
    explained = λ turns end number came missing. absurd (no_end_came end came);
    compactions = λ number came. absurd (no_end_came (compacted (compacting.Missing number)) came);
    faults = λ end number came fault. absurd (no_end_came end came);
    undamaged = λ honest end came. absurd (no_end_came end came);
    sound = λ honest query given. absurd (nothing_given setting query given);
    held = λ honest ulid seq meta complete. absurd (none_complete ulid seq meta complete);
    complete = λ turns honest none end came. absurd (no_end_came end came);
  },
)
