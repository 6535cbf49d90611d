-- What a call asks for: objects of the blocks that it reads.
use Rattle.std.specs.Prelude.{◌≡◌, ℕ, List, Contains}
use Rattle.block_keys.specs.declared.key.Key.TheVariants.{Index, Segment}
use Rattle.world_core.specs.declared.op.Op.{Op}
use Rattle.world_core.specs.declared.op.Op.TheVariants.{Get, GetRange}
use Rattle.store_ranges.specs.Reads.{Block}

-- The operation reads the index of this block, or a range of it, or a range of one of its segments.
abbrev pub IsReadOf : ℕ → Op → Type 0
IsReadOf ulid (Get (Index own)) = own ≡ ulid
IsReadOf ulid (GetRange (Index own) from len) = own ≡ ulid
IsReadOf ulid (GetRange (Segment own number) from len) = own ≡ ulid
IsReadOf ulid op = ⊥

-- it is a read of one of these blocks
abbrev pub IsReadOfOne : List Block → Op → Type 0
IsReadOfOne blocks op = (block : Block) × Contains blocks block × IsReadOf block.ulid op
