-- What a compaction reads of a block.
use Rattle.std.specs.Prelude.{◌≡◌, ◌≤◌, map, length, Some}
use Rattle.block_keys.specs.Keys.{segment_limit}
use Rattle.block_meta.specs.declared.block_files.BlockFiles.{BlockFiles}
use Rattle.block_merging.specs.PutContent.{AreBytes}
use Rattle.compactor.specs.Named.{named_segments}
use Rattle.compactor.specs.declared.input.Input.{Input}

-- the block's files are those that were read
pub record IsInput (input : Input) (block : BlockFiles) : Type 0 where
  pub meta : block.meta ≡ input.meta
  pub index : block.index ≡ input.index.bytes
  pub segments : block.segments ≡ map (λ segment. segment.bytes) input.segments
  -- as those of all files are
  pub bytes : AreBytes block

-- the block has just the segments that its index names
abbrev pub HasNamed : Input → Type 0
HasNamed input = named_segments input.index.bytes ≡ Some (length input.segments)

-- the block has no more segments than a block may have
abbrev pub HasFew : Input → Type 0
HasFew input = length input.segments ≤ segment_limit
