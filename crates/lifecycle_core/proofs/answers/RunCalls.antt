-- What the calls of a run come to: a miss is explained, and where the bucket is honest, and nothing is deleted, nothing is missing; nor is
-- anything damaged where the bucket is honest.
use Rattle.std.proofs.Common.{◌≡◌, ℕ, ℤ, List, Option, Some, None, refl, sym, ◌∙◌, ap, subst}
use Rattle.std.proofs.lemmas.List.Elements.{All-contains}
use Rattle.world_core.specs.Standing.{IsHonest}
use Rattle.world_core.specs.Worlds.{IsOfBytes}
use Rattle.world_core.specs.declared.entry.Entry.{Entry}
use Rattle.store_calls.specs.SeriesCalls.{asking}
use Rattle.store_calls.specs.declared.series_call.SeriesEnd.TheVariants as called
use Rattle.querier.specs.declared.asking.Ask.{Ask}
use Rattle.script_core.specs.Lawful.{IsLawfulScript}
use Rattle.compactor.specs.declared.compact_end.CompactEnd.TheVariants as compacting
use Rattle.cleaner.specs.declared.clean.CleanEnd.TheVariants as cleanup
use Rattle.lifecycle_core.specs.Breaches.{IsSeatOf, IsUnbroken, watched}
use Rattle.lifecycle_core.specs.Causes.{AreCompactionsExplained, AreFound, AreMissesExplained, IsBlamedInCompaction, IsExplained, IsExplainedBy, SomeCame}
use Rattle.lifecycle_core.specs.Conducts.{Who}
use Rattle.lifecycle_core.specs.Holdings.{Use}
use Rattle.lifecycle_core.specs.Phases.{IsInTurn, IsRunOf}
use Rattle.lifecycle_core.specs.Quiet.{DeletesNothing}
use Rattle.lifecycle_core.specs.Setting.{Setting}
use Rattle.lifecycle_core.specs.Tasks.{End, answered, ask_to, cleaned, compacted, not_asked, refused, stopped, synced, uploaded, without_view}
use Rattle.lifecycle_core.proofs.answers.EndsAreCalls.{made_call, task_asked, view_of}
use Rattle.lifecycle_core.proofs.answers.LastViews.{view_at}
use Rattle.lifecycle_core.proofs.answers.SoundCalls.{undamaged}
use Rattle.lifecycle_core.proofs.journals.Rising.{journal_rises}
use Rattle.lifecycle_core.proofs.journals.Told.{Rises}
use Rattle.lifecycle_core.proofs.deeds.ActingDeeds.{acting_deeds}
use Rattle.lifecycle_core.proofs.deeds.Words.{AreDeeds}
use Rattle.lifecycle_core.proofs.misses.CompactionMisses.{compaction_miss}
use Rattle.lifecycle_core.proofs.misses.CallMisses.{call_stands, watched_explained}
use Rattle.lifecycle_core.proofs.misses.RunMisses.{compaction_is_explained, compactions_find}
use Rattle.lifecycle_core.proofs.phases.ActingRuns.{runs_act}
use Rattle.lifecycle_core.proofs.phases.WholeSeats.{compaction_came, compactor_compacts}
use Rattle.lifecycle_core.proofs.phases.TasksMade.{ends_are_last, ends_are_made}

-- who is asked works for a gateway
asked_gateway : (setting : Setting) (by : Option ℕ) (low high : ℤ) (ask : Ask) → ask_to setting by low high ≡ Some ask → (gateway : ℕ) × (by ≡ Some gateway)
asked_gateway setting None low high ask is = absurd (cc (is))
asked_gateway setting (Some gateway) low high ask is = (gateway, refl)

module _ (setting : Setting) (journal : List Entry) (ends : List (List (List End))) (lawful : IsLawfulScript setting.script) (run : IsRunOf setting journal ends) where
  abbrev pub rising : Rises journal
  rising = journal_rises setting.script.rules.tick.ms journal run.kept

  abbrev deeds : AreDeeds setting journal
  deeds = (acting_deeds setting journal lawful (runs_act setting journal ends lawful run)).deeds

  -- ---- a missing object

  miss_explained : IsInTurn setting ends → IsOfBytes journal → (used : Use) (number : ℕ) → SomeCame ends (answered used (called.Missing number)) → IsExplained setting journal number
  miss_explained turns of_bytes used number came =
      let last = ends_are_last setting journal ends rising run (answered used (called.Missing number)) came in
      let m = (last.2).0 in
      let call = task_asked setting m.who m.place (last.1).work m.held m.after m.entries used (called.Missing number) m.run in
      let o = m.origin used call.is in
      let by = asked_gateway setting m.who.gateway call.low call.high call.ask call.asked in
      let latest = (last.2).2 (lawful, turns) by.0 (ap (λ (who : Who). who.gateway) (sym (last.2).1) ∙ by.1) in
      watched_explained setting journal lawful deeds of_bytes o.gateway used o.entries (view_of setting journal o.gateway used o refl)
      (asking call.selector setting.script.rules.replicas call.ask.low call.ask.high) m.entries number (made_call setting journal used (called.Missing number) m call) (watched setting journal)
      (λ e among samples front back at honest.
      let seat : e.seat ≡ m.who.seat = All-contains (λ (x : Entry). x.seat ≡ m.who.seat) m.entries e m.own among in (
        by.0,
        (subst (IsSeatOf setting by.0) (sym seat) (m.seated by.0 by.1), samples),
        view_at setting journal m used call.is by.0 by.1 lawful ends run e among front back at honest latest,
      ))

  pub rounds_explained : IsOfBytes journal → AreCompactionsExplained setting journal ends
  rounds_explained of_bytes number came =
      let c = compaction_came setting journal ends lawful run (compacting.Missing number) came in
      compaction_is_explained setting journal c.seat number c.compactor
      (compaction_miss setting journal lawful deeds of_bytes c.seat number (compactor_compacts setting journal ends lawful run c.seat c.compactor) c.run)

  pub misses_explained : IsInTurn setting ends → IsOfBytes journal → AreMissesExplained setting journal ends
  misses_explained turns of_bytes (uploaded own) number came missing = absurd missing
  misses_explained turns of_bytes (synced own) number came missing = absurd missing
  misses_explained turns of_bytes (compacted (compacting.Done collected groups expired)) number came missing = absurd missing
  misses_explained turns of_bytes (compacted (compacting.Fault entry)) number came missing = absurd missing
  misses_explained turns of_bytes (compacted (compacting.Missing entry)) number came missing =
      subst (IsExplainedBy setting (watched setting journal) IsBlamedInCompaction journal) missing (rounds_explained of_bytes entry came)
  misses_explained turns of_bytes (compacted (compacting.Damaged entry)) number came missing = absurd missing
  misses_explained turns of_bytes (compacted compacting.TooMany) number came missing = absurd missing
  misses_explained turns of_bytes (compacted compacting.TooLarge) number came missing = absurd missing
  misses_explained turns of_bytes (cleaned (cleanup.Done blocks partials)) number came missing = absurd missing
  misses_explained turns of_bytes (cleaned (cleanup.Fault entry)) number came missing = absurd missing
  misses_explained turns of_bytes (cleaned (cleanup.Damaged entry)) number came missing = absurd missing
  misses_explained turns of_bytes (cleaned cleanup.TooMany) number came missing = absurd missing
  misses_explained turns of_bytes (answered used (called.Answer series sources)) number came missing = absurd missing
  misses_explained turns of_bytes (answered used (called.Missing entry)) number came missing = subst (IsExplained setting journal) missing (miss_explained turns of_bytes used entry came)
  misses_explained turns of_bytes (answered used (called.Damaged entry)) number came missing = absurd missing
  misses_explained turns of_bytes (answered used (called.Fault entry)) number came missing = absurd missing
  misses_explained turns of_bytes without_view number came missing = absurd missing
  misses_explained turns of_bytes not_asked number came missing = absurd missing
  misses_explained turns of_bytes (refused cause) number came missing = absurd missing
  misses_explained turns of_bytes (stopped count) number came missing = absurd missing

  -- in an unbroken journal nothing is missing
  pub unbroken_misses_nothing : IsInTurn setting ends → IsOfBytes journal → IsUnbroken setting journal → AreFound ends
  unbroken_misses_nothing turns of_bytes unbroken end number came missing =
      let x = misses_explained turns of_bytes end number came missing in
      unbroken x.before x.after x.entry x.parts x.rule x.x x.y x.refused

  -- nor does a compaction miss anything where the bucket is honest and nothing is deleted
  pub rounds_find : IsOfBytes journal → IsHonest journal → DeletesNothing setting.script → (number : ℕ) → ¬ SomeCame ends (compacted (compacting.Missing number))
  rounds_find of_bytes honest undeleted number came =
      let acts = acting_deeds setting journal lawful (runs_act setting journal ends lawful run) in
      let c = compaction_came setting journal ends lawful run (compacting.Missing number) came in
      compactions_find setting journal lawful acts.deeds of_bytes honest (acts.undeleted undeleted) c.seat number c.run

  -- ---- calls

  -- a call misses nothing where the bucket is honest and nothing is deleted
  pub calls_stand : IsOfBytes journal → IsHonest journal → DeletesNothing setting.script → (used : Use) (number : ℕ) → ¬ SomeCame ends (answered used (called.Missing number))
  calls_stand of_bytes honest undeleted used number came =
      let acts = acting_deeds setting journal lawful (runs_act setting journal ends lawful run) in
      let made = ends_are_made setting journal ends rising run (answered used (called.Missing number)) came in
      let m = made.1 in
      let call = task_asked setting m.who m.place (made.0).work m.held m.after m.entries used (called.Missing number) m.run in
      let o = m.origin used call.is in
      call_stands setting journal lawful acts.deeds of_bytes o.gateway used o.entries (view_of setting journal o.gateway used o refl)
      (asking call.selector setting.script.rules.replicas call.ask.low call.ask.high) m.entries number (made_call setting journal used (called.Missing number) m call) honest (acts.undeleted undeleted)

  -- nor is anything damaged
  pub calls_undamaged : IsOfBytes journal → IsHonest journal → (used : Use) (number : ℕ) → ¬ SomeCame ends (answered used (called.Damaged number))
  calls_undamaged of_bytes honest used number came =
      let acts = acting_deeds setting journal lawful (runs_act setting journal ends lawful run) in
      let made = ends_are_made setting journal ends rising run (answered used (called.Damaged number)) came in
      let m = made.1 in
      let call = task_asked setting m.who m.place (made.0).work m.held m.after m.entries used (called.Damaged number) m.run in
      let o = m.origin used call.is in
      undamaged setting journal lawful acts.deeds of_bytes honest o.gateway used o.entries (view_of setting journal o.gateway used o refl)
      (asking call.selector setting.script.rules.replicas call.ask.low call.ask.high) m.entries number (made_call setting journal used (called.Damaged number) m call)

  -- ---- where the bucket is honest

  module _ (honest : IsHonest journal) where
    -- where nothing is deleted
    pub honest_misses_nothing : IsOfBytes journal → DeletesNothing setting.script → AreFound ends
    honest_misses_nothing of_bytes undeleted (uploaded own) number came missing = missing
    honest_misses_nothing of_bytes undeleted (synced own) number came missing = missing
    honest_misses_nothing of_bytes undeleted (compacted (compacting.Done collected groups expired)) number came missing = missing
    honest_misses_nothing of_bytes undeleted (compacted (compacting.Fault entry)) number came missing = missing
    honest_misses_nothing of_bytes undeleted (compacted (compacting.Missing entry)) number came missing = rounds_find of_bytes honest undeleted entry came
    honest_misses_nothing of_bytes undeleted (compacted (compacting.Damaged entry)) number came missing = missing
    honest_misses_nothing of_bytes undeleted (compacted compacting.TooMany) number came missing = missing
    honest_misses_nothing of_bytes undeleted (compacted compacting.TooLarge) number came missing = missing
    honest_misses_nothing of_bytes undeleted (cleaned (cleanup.Done blocks partials)) number came missing = missing
    honest_misses_nothing of_bytes undeleted (cleaned (cleanup.Fault entry)) number came missing = missing
    honest_misses_nothing of_bytes undeleted (cleaned (cleanup.Damaged entry)) number came missing = missing
    honest_misses_nothing of_bytes undeleted (cleaned cleanup.TooMany) number came missing = missing
    honest_misses_nothing of_bytes undeleted (answered used (called.Answer series sources)) number came missing = missing
    honest_misses_nothing of_bytes undeleted (answered used (called.Missing entry)) number came missing = calls_stand of_bytes honest undeleted used entry came
    honest_misses_nothing of_bytes undeleted (answered used (called.Damaged entry)) number came missing = missing
    honest_misses_nothing of_bytes undeleted (answered used (called.Fault entry)) number came missing = missing
    honest_misses_nothing of_bytes undeleted without_view number came missing = missing
    honest_misses_nothing of_bytes undeleted not_asked number came missing = missing
    honest_misses_nothing of_bytes undeleted (refused cause) number came missing = missing
    honest_misses_nothing of_bytes undeleted (stopped count) number came missing = missing
