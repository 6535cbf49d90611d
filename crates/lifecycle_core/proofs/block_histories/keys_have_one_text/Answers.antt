use Rattle.lifecycle_core.proofs.blocks.OneKey.{one_text}
use Rattle.lifecycle_core.proofs.deeds.ActingDeeds.{acting_deeds}
use Rattle.lifecycle_core.proofs.block_histories.keys_have_one_text.Goals as goal

pub returns : goal.returns
returns c = λ setting journal one other key bytes also lawful acts among inside puts too object. one_text setting journal lawful (acting_deeds setting journal lawful acts).deeds one other among inside key bytes also puts too object
