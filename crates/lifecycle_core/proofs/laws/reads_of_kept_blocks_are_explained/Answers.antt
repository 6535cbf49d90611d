use Rattle.base.proofs.Membership.{contains_first}
use Rattle.std.proofs.Common.{◌∷◌, [], refl}
use Rattle.lifecycle_core.specs.Breaches.{watched_call}
use Rattle.lifecycle_core.proofs.deeds.ActingDeeds.{acting_deeds}
use Rattle.lifecycle_core.proofs.journals.Standing.{parted}
use Rattle.lifecycle_core.proofs.misses.ReadMisses.{put_explained, shipped_explained, shipped_is}
use Rattle.lifecycle_core.proofs.laws.reads_of_kept_blocks_are_explained.Goals as goal

pub returns : goal.returns
returns c = record {
  put = λ setting journal gateway used sync found e key bytes lawful acts of_bytes gave inside among later reads own samples put absent.
      let at = parted journal e among in
      put_explained setting journal lawful (acting_deeds setting journal lawful acts).deeds gateway used sync gave found inside at.0 at.1 e at.2 later key samples reads own absent
      (watched_call used sync (e ∷ [])) (λ honest. (contains_first e [], (key, reads, samples), refl)) of_bytes bytes put;
  shipped = λ setting journal gateway used sync found e key lawful acts of_bytes gave inside among later reads under absent.
      let at = parted journal e among in
      let s = shipped_is setting found.ulid key under in
      shipped_explained setting journal lawful (acting_deeds setting journal lawful acts).deeds gateway used sync gave found inside at.0 at.1 e at.2 later key s.0 reads s.1 absent
      (watched_call used sync (e ∷ [])) (λ honest. (contains_first e [], (key, reads, s.0), refl)) of_bytes under;
}
