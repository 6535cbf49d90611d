use Rattle.std.proofs.Common.{◌≡◌, take, map}
use Rattle.block_meta.specs.declared.block_files.BlockFiles.{BlockFiles}
use Rattle.compactor.proofs.merging.metas_of.Given as goal

abbrev pub invariant-loop-block : goal.invariant-loop-block
invariant-loop-block l = l.made ≡ map (λ (block : BlockFiles). block.meta) (take l.block-index l.blocks)
