use Rattle.std.proofs.lemmas.List.Elements.{All-contains}
use Rattle.lifecycle_core.specs.PutBlocks.{LiesWithin}
use Rattle.lifecycle_core.proofs.blocks.Known.{complete_is_known}
use Rattle.lifecycle_core.proofs.deeds.ActingDeeds.{acting_deeds}
use Rattle.lifecycle_core.proofs.block_histories.sources_lie_within.Goals as goal

pub returns : goal.returns
returns c = λ setting journal ulid seq meta source lawful acts honest complete among.
    All-contains (LiesWithin setting journal seq meta) meta.sources source (complete_is_known setting journal lawful (acting_deeds setting journal lawful acts).deeds honest ulid seq meta complete).sources among
