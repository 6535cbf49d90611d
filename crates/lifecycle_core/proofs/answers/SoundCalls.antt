-- A call over a view of an honest journal is worth what is said.
use Rattle.base.proofs.Membership.{each_member}
use Rattle.std.proofs.Common.{◌≡◌, ◌≢◌, ℕ, ℤ, ◌==◌, ◌<◌, List, [], Contains, Option, Some, None, ◌∙◌, ap, subst, append_assoc}
use Rattle.std.specs.List.{All}
use Rattle.std.proofs.lemmas.List.Elements.{All-contains}
use Rattle.label_sets.specs.declared.series.Series.{Series}
use Rattle.label_sets.specs.Triples.{triples_of}
use Rattle.block_keys.specs.KeyText.{key_text}
use Rattle.block_keys.specs.declared.key.Key.{Key}
use Rattle.store_ranges.specs.Reads.{Query as Question}
use Rattle.matchers.specs.Selected.{IsQueryAnswer}
use Rattle.matchers.specs.SelectorText.{named_replicas}
use Rattle.matchers.specs.declared.matcher.Matcher.{Matcher}
use Rattle.store_calls.specs.SeriesCalls.{SeriesRun, asking}
use Rattle.store_calls.specs.declared.series_call.SeriesEnd.{SeriesEnd}
use Rattle.store_calls.specs.declared.series_call.SeriesEnd.TheVariants as called
use Rattle.store_calls.proofs.LastAbsent.{ArePresent, answer_present, damaged_present}
use Rattle.meta_fetcher.specs.declared.rules.SyncRules.{SyncRules}
use Rattle.world_core.specs.Standing.{IsHonest}
use Rattle.world_core.specs.Worlds.{IsOfBytes}
use Rattle.world_core.specs.declared.entry.Entry.{Entry}
use Rattle.world_core.specs.declared.reply.Reply.TheVariants as reply
use Rattle.script_core.specs.Lawful.{IsLawfulScript}
use Rattle.lifecycle_core.specs.Sights.{IsSight}
use Rattle.lifecycle_core.proofs.activities.SyncSights.{sync_sight}
use Rattle.lifecycle_core.specs.Breaches.{read_key, watched_call}
use Rattle.world_core.specs.Journals.{of_seat}
use Rattle.lifecycle_core.specs.Guarantees.{IsSoundCall}
use Rattle.lifecycle_core.specs.Held.{held}
use Rattle.lifecycle_core.specs.Holdings.{Use}
use Rattle.lifecycle_core.specs.Setting.{Setting}
use Rattle.lifecycle_core.specs.SyncsAndCalls.{IsCallIn, IsViewOf}
use Rattle.lifecycle_core.specs.Tasks.{sync_rules}
use Rattle.lifecycle_core.proofs.answers.KeptAnswers.{kept_answer}
use Rattle.lifecycle_core.proofs.answers.KeptCalls.{call_finds, ever}
use Rattle.lifecycle_core.proofs.answers.KeptSources.{call_sources, names_found, names_uploads, own_end}
use Rattle.lifecycle_core.proofs.deeds.Words.{AreDeeds}
use Rattle.lifecycle_core.proofs.journals.Rising.{journal_rises}
use Rattle.lifecycle_core.proofs.journals.Told.{IsPart}
use Rattle.lifecycle_core.proofs.misses.CallMisses.{call_explained}
use Rattle.lifecycle_core.proofs.phases.TasksMade.{part_filter, part_middle, part_whole}
use Rattle.lifecycle_core.proofs.views.Seen.{kept_is_complete, settled_is_covered}

module _ (setting : Setting) (journal : List Entry) (lawful : IsLawfulScript setting.script) (deeds : AreDeeds setting journal) (of_bytes : IsOfBytes journal) (honest : IsHonest journal) (gateway : ℕ) (used : Use) (sync : List Entry)
    (gave : IsViewOf (sync_rules setting gateway) journal used sync) where
  abbrev rules : SyncRules
  rules = sync_rules setting gateway

  sees : IsSight rules sync used.view
  sees = sync_sight rules sync used.view gave.sync.run

  part : IsPart journal sync
  part =
      let its : IsPart journal (of_seat gave.seat journal) = part_filter journal (λ (x : Entry). x.seat == gave.seat) journal (part_whole journal (journal_rises setting.script.rules.tick.ms journal deeds.kept)) in
      part_middle journal gave.sync.before sync gave.sync.after (subst (IsPart journal) (gave.sync.parts ∙ append_assoc gave.sync.before sync gave.sync.after) its)

  -- where each entry finds something, none owes anything
  owed : (entries : List Entry) → ArePresent entries → (e : Entry) → Contains entries e → e.reply ≡ reply.Absent → (k : Key) → read_key e.op ≡ Some k → ever setting journal lawful deeds (key_text k) ≡ None
  owed entries present e among absent k reads = absurd (each_member (λ (x : Entry). x.reply ≢ reply.Absent) entries e present among absent)

  -- nothing is damaged
  pub undamaged : (question : Question) (entries : List Entry) (number : ℕ) → ¬ IsCallIn journal used question entries (Some (called.Damaged number))
  undamaged question entries number call =
      let own = own_end call.own (called.Damaged number) call.is in
      let came : SeriesRun used.view question call.cache entries (Some own.0) = subst (SeriesRun used.view question call.cache entries) own.1 call.run in
      let present = damaged_present used.view question call.cache entries own.0 number came own.2 in
      (call_finds setting journal lawful deeds of_bytes honest rules sync used.view sees part question entries call.among call.cache call.earlier
      (λ one inside. (All-contains (λ (z : Entry). Contains journal z × All (λ (x : Entry). z.seq < x.seq) entries) call.earlier one call.known inside).0)
      call.cached call.reads call.own call.run (owed entries present) own.0 own.1 number).1 own.2

  module _ (selector : List Matcher) (low high : ℤ) (entries : List Entry) where
    abbrev question : Question
    question = asking selector setting.script.rules.replicas low high

    exact : named_replicas setting.script.rules.replicas selector ≡ [] → (series : List Series) (sources : List ℕ) → IsCallIn journal used question entries (Some (called.Answer series sources)) → IsQueryAnswer selector low high (triples_of series) (held setting sources)
    exact unnamed series sources call =
        let own = own_end call.own (called.Answer series sources) call.is in
        let came : SeriesRun used.view question call.cache entries (Some own.0) = subst (SeriesRun used.view question call.cache entries) own.1 call.run in
        let present = answer_present used.view question call.cache entries own.0 series sources came own.2 in
        kept_answer setting journal lawful deeds of_bytes honest rules sync used.view sees part selector low high entries call.among call.cache call.earlier
        (λ one inside. (All-contains (λ (z : Entry). Contains journal z × All (λ (x : Entry). z.seq < x.seq) entries) call.earlier one call.known inside).0)
        call.cached call.reads call.own call.run (owed entries present) unnamed series sources own.0.cache
        (own.1 ∙ ap (λ (end : SeriesEnd). Some (record { end = end; cache = own.0.cache })) own.2)
        (call_sources journal entries used question series sources call)

    same_end : (one other : Option SeriesEnd) → one ≡ other → IsCallIn journal used question entries one → IsCallIn journal used question entries other
    same_end one other is call = subst (IsCallIn journal used question entries) is call

    pub call_is_worth : named_replicas setting.script.rules.replicas selector ≡ [] → (end : Option SeriesEnd) → IsCallIn journal used question entries end
        → IsSoundCall setting (watched_call used sync entries) journal rules used question end
    call_is_worth unnamed end call = record {
      found = λ number is. call_explained setting journal lawful deeds of_bytes gateway used sync gave question entries number (same_end end (Some (called.Missing number)) is call);
      undamaged = λ number is. undamaged question entries number (same_end end (Some (called.Damaged number)) is call);
      exact = λ series sources is. exact unnamed series sources (same_end end (Some (called.Answer series sources)) is call);
      named = λ series sources is.
          names_uploads setting journal lawful deeds honest used.last used.view.kept (kept_is_complete setting journal lawful deeds honest rules used sync gave) sources
          (call_sources journal entries used question series sources (same_end end (Some (called.Answer series sources)) is call));
      covered = λ timely quick series sources is ulid settled.
          let f = settled_is_covered setting journal lawful deeds honest gateway used sync gave timely (quick sync gave) ulid settled in
          names_found used.view.kept sources (call_sources journal entries used question series sources (same_end end (Some (called.Answer series sources)) is call)) f.0 f.1 ulid f.2;
    }
