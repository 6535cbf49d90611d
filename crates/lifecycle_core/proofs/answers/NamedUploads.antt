-- Where the bucket is honest, and nothing is compacted or deleted, an answered query names each settled upload.
use Rattle.std.proofs.Common.{List, Contains}
use Rattle.label_sets.specs.declared.series.Series.{Series}
use Rattle.world_core.specs.Standing.{IsHonest}
use Rattle.world_core.specs.declared.entry.Entry.{Entry}
use Rattle.store_calls.specs.SeriesCalls.{asking}
use Rattle.script_core.specs.Lawful.{IsLawfulScript}
use Rattle.lifecycle_core.specs.Guarantees.{Answered, IsGiven, LeavesNoneOut, Named, NamesAll}
use Rattle.lifecycle_core.specs.Phases.{IsRunOf}
use Rattle.lifecycle_core.specs.Quiet.{CompactsNothing, DeletesNothing}
use Rattle.lifecycle_core.specs.Setting.{Setting}
use Rattle.lifecycle_core.specs.Tasks.{End}
use Rattle.lifecycle_core.proofs.answers.GivenParts.{Part, in_journal, made, of_parts, origin, view}
use Rattle.lifecycle_core.proofs.answers.KeptSources.{call_sources, names_found}
use Rattle.lifecycle_core.proofs.deeds.ActingDeeds.{acting_deeds}
use Rattle.lifecycle_core.proofs.phases.ActingRuns.{runs_act}
use Rattle.lifecycle_core.proofs.views.Seen.{settled_is_kept}

module _ (setting : Setting) (journal : List Entry) (ends : List (List (List End))) (query : Answered) (lawful : IsLawfulScript setting.script) (deletes : DeletesNothing setting.script) (compacts : CompactsNothing setting.script)
    (run : IsRunOf setting journal ends) (honest : IsHonest journal) (given : IsGiven setting ends query) where
  part_names : (named : Named) (series : List Series) → Contains query.named named → Part setting journal ends run query given named series → NamesAll setting journal named
  part_names named series among part ulid settled =
      let acts = acting_deeds setting journal lawful (runs_act setting journal ends lawful run) in
      let call = in_journal setting journal ends run query given named series among part in
      let f = settled_is_kept setting journal lawful acts.deeds (acts.uncompacted compacts) (acts.undeleted deletes) honest named.gateway named.used (origin setting journal ends run query given named series among part).entries
      (view setting journal ends run query given named series among part) ulid settled in
      names_found named.used.view.kept named.sources
      (call_sources journal (made setting journal ends run query given named series among part).entries named.used (asking query.selector setting.script.rules.replicas named.low named.high) series named.sources call) f.0 f.1 ulid f.2

  pub none_left_out : LeavesNoneOut setting journal query
  none_left_out = of_parts setting journal ends run query given (NamesAll setting journal) part_names
