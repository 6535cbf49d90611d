use Rattle.lifecycle_core.proofs.answers.KeptSources.{call_sources, names_found}
use Rattle.lifecycle_core.proofs.deeds.ActingDeeds.{acting_deeds}
use Rattle.lifecycle_core.proofs.journals.Standing.{parted}
use Rattle.lifecycle_core.proofs.misses.CallMisses.{call_stands}
use Rattle.lifecycle_core.proofs.misses.ReadMisses.{shipped_is, shipped_stands}
use Rattle.lifecycle_core.proofs.views.Seen.{settled_is_kept}
use Rattle.store_calls.specs.SeriesCalls.{asking}
use Rattle.lifecycle_core.proofs.laws.calls_miss_nothing_while_nothing_deletes.Goals as goal

pub returns : goal.returns
returns c = record {
  found = λ setting journal gateway used sync entries question number lawful deletes acts of_bytes gave honest call.
      let a = acting_deeds setting journal lawful acts in
      call_stands setting journal lawful a.deeds of_bytes gateway used sync gave question entries number call honest (a.undeleted deletes);
  read = λ setting journal gateway used sync found e key lawful deletes acts gave honest inside among later reads under absent.
      let a = acting_deeds setting journal lawful acts in
      let at = parted journal e among in
      let s = shipped_is setting found.ulid key under in
      shipped_stands setting journal lawful a.deeds gateway used sync gave found inside at.0 at.1 e at.2 later key s.0 reads s.1 absent under honest (a.undeleted deletes);
  covered = λ setting journal gateway used sync entries selector low high series sources lawful deletes compacts acts gave honest call ulid settled.
      let a = acting_deeds setting journal lawful acts in
      let f = settled_is_kept setting journal lawful a.deeds (a.uncompacted compacts) (a.undeleted deletes) honest gateway used sync gave ulid settled in
      names_found used.view.kept sources (call_sources journal entries used (asking selector setting.script.rules.replicas low high) series sources call) f.0 f.1 ulid f.2;
}
