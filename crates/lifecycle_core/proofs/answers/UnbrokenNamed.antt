-- Where no entry breaks a rule, an answered query names each settled upload.
use Rattle.base.proofs.Membership.{all_members, of_filter}
use Rattle.std.proofs.Common.{ℕ, ◌==◌, List, [], ◌∷◌, ◌++◌, Contains, Some, sym, subst}
use Rattle.std.proofs.lemmas.List.Elements.{Contains-append_left}
use Rattle.label_sets.specs.declared.series.Series.{Series}
use Rattle.world_core.specs.Standing.{IsHonest, stands}
use Rattle.world_core.specs.Worlds.{IsJournal, IsOfBytes}
use Rattle.world_core.specs.declared.entry.Entry.{Entry}
use Rattle.meta_fetcher.specs.declared.sync.SyncEnd.TheVariants as fetched
use Rattle.store_calls.specs.SeriesCalls.{asking}
use Rattle.script_core.specs.Lawful.{IsLawfulScript}
use Rattle.lifecycle_core.specs.Breaches.{IsSeatOf, IsSyncIn, IsUnbroken}
use Rattle.lifecycle_core.specs.Guarantees.{Answered, IsGiven, LeavesNoneOut, Named, NamesAll}
use Rattle.lifecycle_core.specs.Holdings.{Use}
use Rattle.lifecycle_core.specs.Phases.{IsRunOf}
use Rattle.lifecycle_core.specs.Setting.{Setting}
use Rattle.lifecycle_core.specs.SyncsAndCalls.{IsViewOf}
use Rattle.lifecycle_core.specs.Tasks.{End, sync_rules}
use Rattle.lifecycle_core.proofs.answers.EndsAreCalls.{view_of}
use Rattle.lifecycle_core.proofs.answers.GivenParts.{Part, by_gateway, in_journal, made, of_parts, origin, the_call, view}
use Rattle.lifecycle_core.proofs.answers.KeptSources.{call_sources, names_found}
use Rattle.lifecycle_core.proofs.deeds.ActingDeeds.{acting_deeds}
use Rattle.lifecycle_core.proofs.journals.Standing.{parted}
use Rattle.lifecycle_core.proofs.journals.Unbroken.{synced, uploaded}
use Rattle.lifecycle_core.proofs.journals.UnbrokenHonest.{unbroken_is_honest}
use Rattle.lifecycle_core.proofs.phases.ActingRuns.{runs_act}
use Rattle.lifecycle_core.proofs.phases.Stretches.{no_listing}
use Rattle.lifecycle_core.proofs.views.Alone.{alone_here}
use Rattle.lifecycle_core.proofs.views.Named.{tells_names}
use Rattle.lifecycle_core.proofs.views.OneOpening.{ListsNames}
use Rattle.lifecycle_core.proofs.views.Seen.{settled_is_covered}

-- ---- where the bucket is honest, a gateway's sync that gave a view is a whole one

module _ (setting : Setting) (journal : List Entry) (lawful : IsLawfulScript setting.script) (kept : IsJournal setting.script.rules.tick.ms journal) (honest : IsHonest journal) where
  lists_names : (e : Entry) → Contains journal e → ListsNames e.reply
  lists_names e among =
      let p = parted journal e among in
      tells_names (stands p.0) e.op e.reply (kept.kinds p.0 p.1 e p.2) (honest p.0 p.1 e p.2)

  whole_sync : (gateway : ℕ) (used : Use) (entries : List Entry) (v : IsViewOf (sync_rules setting gateway) journal used entries) → IsSeatOf setting gateway v.seat → IsSyncIn setting journal gateway entries (Some (fetched.View used.view))
  whole_sync gateway used [] v sits = absurd (no_listing (sync_rules setting gateway) 999_999 v.sync.run.0 v.sync.run.1)
  whole_sync gateway used (first ∷ others) v sits =
      let earlier : (e : Entry) → Contains v.sync.before e → ListsNames e.reply = λ e inside.
      let front = Contains-append_left v.sync.before (first ∷ others) e inside in
      let seat = Contains-append_left (v.sync.before ++ (first ∷ others)) v.sync.after e front in
      lists_names e (of_filter (λ (x : Entry). x.seat == v.seat) journal e (subst (λ (es : List Entry). Contains es e) (sym v.sync.parts) seat)) in record {
        seat = v.seat;
        sits = sits;
        sync = v.sync;
        alone = alone_here (sync_rules setting gateway) lawful.rules.page_limit_low journal v.seat first others (Some (fetched.View used.view)) v.sync (all_members (λ (e : Entry). ListsNames e.reply) v.sync.before earlier);
      }

-- ---- answered queries

module _ (setting : Setting) (journal : List Entry) (ends : List (List (List End))) (query : Answered) (lawful : IsLawfulScript setting.script) (run : IsRunOf setting journal ends) (of_bytes : IsOfBytes journal) (unbroken : IsUnbroken setting journal)
    (given : IsGiven setting ends query) where
  honest : IsHonest journal
  honest = unbroken_is_honest setting setting.script.rules.tick.ms journal run.kept of_bytes unbroken

  part_names : (named : Named) (series : List Series) → Contains query.named named → Part setting journal ends run query given named series → NamesAll setting journal named
  unfolding view view_of
  part_names named series among part ulid settled =
      let m = made setting journal ends run query given named series among part in
      let sits = m.sits named.used (the_call setting journal ends run query given named series among part).is named.gateway (by_gateway setting journal ends run query given named series among part) in
      let gave = view setting journal ends run query given named series among part in
      let sync = (origin setting journal ends run query given named series among part).entries in
      let whole = whole_sync setting journal lawful run.kept honest named.gateway named.used sync gave sits in
      let quick = synced setting journal unbroken setting.script.rules.tick.ms run.kept.moments named.gateway sync (Some (fetched.View named.used.view)) whole in
      let f = settled_is_covered setting journal lawful (acting_deeds setting journal lawful (runs_act setting journal ends lawful run)).deeds honest named.gateway named.used sync gave (uploaded setting journal unbroken) quick ulid settled in
      names_found named.used.view.kept named.sources
      (call_sources journal m.entries named.used (asking query.selector setting.script.rules.replicas named.low named.high) series named.sources (in_journal setting journal ends run query given named series among part)) f.0 f.1 ulid f.2

  pub none_left_out : LeavesNoneOut setting journal query
  none_left_out = of_parts setting journal ends run query given (NamesAll setting journal) part_names
