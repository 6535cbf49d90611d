use Rattle.lifecycle_core.proofs.deeds.ActingDeeds.{acting_deeds}
use Rattle.lifecycle_core.proofs.misses.CompactionMisses.{compaction_miss}
use Rattle.lifecycle_core.proofs.block_histories.compactions_miss_nothing_without_cause.Goals as goal

pub returns : goal.returns
returns c = λ setting journal acts seat number lawful of_bytes sits run.
    let a = acting_deeds setting journal lawful acts in
    compaction_miss setting journal lawful a.deeds of_bytes seat number (a.compactors seat sits) run
