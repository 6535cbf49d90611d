-- Which blocks a marking still counts.
use Rattle.std.specs.Prelude.{ℕ}
use Rattle.compactor.specs.declared.marks.MarkStage.{MarkStage}
use Rattle.compactor.specs.declared.marks.MarkStage.TheVariants.{Fresh, Looking, Putting}

-- the block at hand, if there is one
abbrev pub held : MarkStage → ℕ
held Fresh = 0
held (Looking ulid) = 1
held (Putting ulid looked) = 1
