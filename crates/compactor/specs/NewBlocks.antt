-- The blocks that a compaction uploads, under new ULIDs.
use Rattle.std.specs.Prelude.{ℕ, ◌+◌, ◌*◌, ◌%◌, List}
use Rattle.block_keys.specs.declared.object.Object.{Object}
use Rattle.block_meta.specs.Built.{objects_of}
use Rattle.block_meta.specs.declared.block_files.BlockFiles.{BlockFiles}
use Rattle.block_meta.specs.MetaFields.{fields_of}
use Rattle.block_meta.specs.MetaValue.{meta_text}
use Rattle.moment_core.specs.declared.moment.Moment.{Moment}
use Rattle.ulid_core.specs.Reserved.{least_reserved, reserved_count}
use Rattle.ulid_core.specs.Limits.{entropy_count}

-- The ULID of a block whose upload follows the entry of this number and moment. It has the moment's time, and the number in the last
-- 20 of the bits behind the time, all others of which are set.
abbrev pub new_ulid : ℕ → Moment → ℕ
new_ulid number moment = moment.ms * entropy_count + (least_reserved + number % reserved_count)

-- the objects of a block in the order of their upload
abbrev pub block_objects : ℕ → BlockFiles → List Object
block_objects ulid block = objects_of ulid block.segments block.index (meta_text (fields_of block.meta))
