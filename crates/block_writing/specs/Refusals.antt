-- Refusals of an index, said of a block.
use Rattle.index_writing.specs.declared.write_refusal.IndexWriteRefusal.{IndexWriteRefusal}
use Rattle.index_writing.specs.declared.write_refusal.IndexWriteRefusal.TheVariants as index
use Rattle.block_meta.specs.declared.build_refusal.BuildRefusal.{BuildRefusal}
use Rattle.block_meta.specs.declared.build_refusal.BuildRefusal.TheVariants.{TooLarge, NoMemory}

abbrev pub build_refusal : IndexWriteRefusal → BuildRefusal
build_refusal index.TooLarge = TooLarge
build_refusal index.NoMemory = NoMemory
