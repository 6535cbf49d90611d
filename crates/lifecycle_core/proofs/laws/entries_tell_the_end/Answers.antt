use Rattle.world_core.proofs.PlanLaws.{one_end}
use Rattle.shipper.specs.Uploads.{upload}
use Rattle.compactor.specs.Compactions.{compaction}
use Rattle.cleaner.specs.Cleanings.{cleaning}
use Rattle.store_calls.proofs.OneCall.{call_tells}
use Rattle.lifecycle_core.proofs.views.SyncEnds.{sync_tells}
use Rattle.lifecycle_core.proofs.laws.entries_tell_the_end.Goals as goal

pub returns : goal.returns
returns c = record {
  upload = λ ulid objects. one_end (upload ulid objects);
  sync = sync_tells;
  compaction = λ rules. one_end (compaction rules);
  cleaning = λ rules. one_end (cleaning rules);
  call = call_tells;
}
