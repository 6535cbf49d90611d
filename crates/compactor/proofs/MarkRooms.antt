-- How many operations a marking asks for.
use Rattle.std.proofs.Common.{ℕ, ◌+◌, ◌^◌, ◌<◌, length, arith}
use Rattle.compactor.specs.MarkCounts.{held}
use Rattle.compactor.specs.MarkStates.{count_at}
use Rattle.compactor.specs.contracts.marks.MarksMachine.TheImpl.{ghosts}
use Rattle.compactor.specs.declared.marks.MarkStage.{MarkStage}
use Rattle.compactor.specs.declared.marks.MarkStage.TheVariants.{Fresh, Looking, Putting}
use Rattle.compactor.specs.declared.marks.Marks.{Marks}

marks_at : (stage : MarkStage) (put waiting : ℕ) → put + held stage + waiting < 2 ^ 64 → count_at stage waiting < 2 ^ 100
marks_at Fresh put waiting few = omega (arith, few)
marks_at (Looking ulid) put waiting few = omega (arith, few)
marks_at (Putting ulid looked) put waiting few = omega (arith, few)

-- they are fewer than so many
pub marks_few : (m : Marks) → ghosts.measure m < 2 ^ 100
marks_few m = marks_at m.stage m.put (length m.waiting.items) m.counted
