use Rattle.lifecycle_core.proofs.deeds.ActingDeeds.{acting_deeds}
use Rattle.lifecycle_core.proofs.views.FewListed.{syncs_find_few}
use Rattle.lifecycle_core.proofs.views.RoundsUndamaged.{compactions_undamaged}
use Rattle.lifecycle_core.proofs.views.Undamaged.{cleanings_undamaged, syncs_undamaged}
use Rattle.lifecycle_core.proofs.view_laws.nothing_is_damaged.Goals as goal

pub returns : goal.returns
returns c = record {
  sync = λ setting journal rules entries number lawful acts honest among.
      syncs_undamaged setting journal lawful (acting_deeds setting journal lawful acts).deeds honest rules entries number among;
  few = λ setting journal rules entries lawful acts honest among.
      syncs_find_few setting journal (acting_deeds setting journal lawful acts).deeds honest rules entries among;
  cleaning = λ setting journal rules entries number lawful acts honest among.
      cleanings_undamaged setting journal lawful (acting_deeds setting journal lawful acts).deeds honest rules entries number among;
  compaction = λ setting journal seat number lawful acts of_bytes honest.
      compactions_undamaged setting journal lawful (acting_deeds setting journal lawful acts).deeds of_bytes honest seat number;
}
