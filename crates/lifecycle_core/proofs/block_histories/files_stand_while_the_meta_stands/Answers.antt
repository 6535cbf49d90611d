use Rattle.std.proofs.Common.{◌++◌, refl}
use Rattle.lifecycle_core.proofs.deeds.ActingDeeds.{acting_deeds}
use Rattle.lifecycle_core.proofs.marks.Standing.{files_stand}
use Rattle.lifecycle_core.proofs.block_histories.files_stand_while_the_meta_stands.Goals as goal

pub returns : goal.returns
returns c = λ setting before after ulid seq files bytes lawful acts honest timely put is.
    files_stand setting (before ++ after) lawful (acting_deeds setting (before ++ after) lawful acts).deeds honest ulid timely before after refl seq files bytes put is
