use Rattle.lifecycle_core.proofs.answers.SoundCalls.{call_is_worth}
use Rattle.lifecycle_core.proofs.deeds.ActingDeeds.{acting_deeds}
use Rattle.lifecycle_core.proofs.misses.CallMisses.{call_explained}
use Rattle.lifecycle_core.proofs.laws.calls_are_worth_it.Goals as goal

pub returns : goal.returns
returns c = record {
  explained = λ setting journal gateway used sync entries question number lawful acts of_bytes gave call.
      call_explained setting journal lawful (acting_deeds setting journal lawful acts).deeds of_bytes gateway used sync gave question entries number call;
  worth = λ setting journal gateway used sync entries selector low high end lawful acts of_bytes gave honest unnamed call.
      call_is_worth setting journal lawful (acting_deeds setting journal lawful acts).deeds of_bytes honest gateway used sync gave selector low high entries unnamed end call;
}
