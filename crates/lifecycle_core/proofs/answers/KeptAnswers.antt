-- A call's answer over a view is exact, where the bucket is honest.
use Rattle.base.proofs.Membership.{all_members}
use Rattle.std.proofs.Common.{◌≡◌, ℕ, ℤ, List, [], ◌∷◌, Contains, Option, Some, None, refl}
use Rattle.std.specs.List.{All, AllByRecursion, AllZip, filter}
use Rattle.label_sets.specs.declared.series.Series.{Series}
use Rattle.label_sets.specs.Triples.{triples_of}
use Rattle.block_keys.specs.KeyText.{key_text}
use Rattle.block_keys.specs.declared.key.Key.{Key}
use Rattle.store_ranges.specs.ChunkRanges.{IsSetOf}
use Rattle.store_ranges.specs.Reads.{Cache, Query as Question}
use Rattle.matchers.specs.Selected.{IsQueryAnswer}
use Rattle.matchers.specs.SelectorText.{named_replicas}
use Rattle.matchers.specs.declared.matcher.Matcher.{Matcher}
use Rattle.store_calls.specs.Asking.{IsReadOf}
use Rattle.store_calls.specs.KeptRanges.{IsOfReads}
use Rattle.store_calls.specs.SeriesCalls.{CallEnd, SeriesRun, asking, meets, sources_of}
use Rattle.store_calls.specs.declared.series_call.SeriesEnd.TheVariants as called
use Rattle.sync_filters.specs.declared.found.Found.{Found}
use Rattle.meta_fetcher.specs.declared.rules.SyncRules.{SyncRules}
use Rattle.meta_fetcher.specs.declared.view.View.{View}
use Rattle.world_core.specs.Standing.{IsHonest}
use Rattle.world_core.specs.Worlds.{IsOfBytes}
use Rattle.world_core.specs.declared.entry.Entry.{Entry}
use Rattle.world_core.specs.declared.reply.Reply.TheVariants as reply
use Rattle.script_core.specs.Lawful.{IsLawfulScript}
use Rattle.lifecycle_core.specs.Sights.{IsSight}
use Rattle.lifecycle_core.specs.Breaches.{read_key}
use Rattle.lifecycle_core.specs.Held.{held}
use Rattle.lifecycle_core.specs.Setting.{Setting}
use Rattle.lifecycle_core.proofs.answers.ExactKept.{HoldsList, IsKeptWhole, lists_are_exact}
use Rattle.lifecycle_core.proofs.answers.KeptCalls.{IsHeldFound, call_merges, ever, held_found, held_met, lists_of}
use Rattle.lifecycle_core.proofs.deeds.Words.{AreDeeds}
use Rattle.lifecycle_core.proofs.journals.Told.{IsPart}

module _ (setting : Setting) (journal : List Entry) (lawful : IsLawfulScript setting.script) (deeds : AreDeeds setting journal) (of_bytes : IsOfBytes journal) (honest : IsHonest journal)
    (rules : SyncRules) (sync : List Entry) (view : View) (sees : IsSight rules sync view) (part : IsPart journal sync) where
  abbrev Held : Found → Type 0
  Held = IsHeldFound setting journal lawful deeds of_bytes honest rules sync view sees part

  abbrev lists : (blocks : List Found) → AllByRecursion Held blocks → List (List Series)
  lists blocks all = lists_of setting journal lawful deeds of_bytes honest rules sync view sees part blocks all

  hold_lists : (blocks : List Found) (all : AllByRecursion Held blocks) → AllZip (HoldsList setting journal) blocks (lists blocks all)
  hold_lists [] all = tt
  hold_lists (b ∷ blocks) all = (((all.0.seq, all.0.holds), refl), hold_lists blocks all.1)

  kept_held : AllByRecursion (IsKeptWhole setting journal) view.kept
  kept_held = all_members (IsKeptWhole setting journal) view.kept (λ f among. let h = held_found setting journal lawful deeds of_bytes honest rules sync view sees part f among in (h.seq, h.holds))

  module _ (selector : List Matcher) (low high : ℤ) (entries : List Entry) (inside : (e : Entry) → Contains entries e → Contains journal e) (cache : Cache) (earlier : List Entry) (known : (e : Entry) → Contains earlier e → Contains journal e) (cached : IsOfReads earlier cache)
      (samples : All (λ (one : Entry). (ulid : ℕ) × IsReadOf ulid one.op) earlier) (own : Option CallEnd) (run : SeriesRun view (asking selector setting.script.rules.replicas low high) cache entries own)
      (owed : (e : Entry) → Contains entries e → e.reply ≡ reply.Absent → (k : Key) → read_key e.op ≡ Some k → ever setting journal lawful deeds (key_text k) ≡ None) where
    abbrev question : Question
    question = asking selector setting.script.rules.replicas low high

    abbrev met : List Found
    met = filter (meets question) view.kept

    abbrev met_held : AllByRecursion Held met
    met_held = held_met setting journal lawful deeds of_bytes honest rules sync view sees part question entries inside cache earlier known cached samples own run owed

    pub kept_answer : named_replicas setting.script.rules.replicas selector ≡ [] → (series : List Series) (sources : List ℕ) (after : Cache) → own ≡ Some (record { end = called.Answer series sources; cache = after }) → IsSetOf (sources_of view.kept) sources
        → IsQueryAnswer selector low high (triples_of series) (held setting sources)
    kept_answer unnamed series sources after is set =
        lists_are_exact setting journal selector low high view.kept kept_held (lists met met_held) (hold_lists met met_held) series sources
        (call_merges setting journal lawful deeds of_bytes honest rules sync view sees part question entries inside cache earlier known cached samples own run owed unnamed series sources after is) set
