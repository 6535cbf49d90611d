use Rattle.lifecycle_core.proofs.blocks.Contents.{complete_holds, of_whole}
use Rattle.lifecycle_core.proofs.deeds.ActingDeeds.{acting_deeds}
use Rattle.lifecycle_core.proofs.block_histories.complete_blocks_hold_their_sources.Goals as goal

pub returns : goal.returns
returns c = λ setting journal ulid seq meta lawful acts of_bytes honest complete.
    of_whole setting journal ulid seq meta (complete_holds setting journal lawful (acting_deeds setting journal lawful acts).deeds of_bytes honest ulid seq meta complete)
