-- How many operations the reads of blocks ask for.
use Rattle.std.proofs.Common.{ℕ, ◌^◌, ◌<◌, ◌≤◌, length, arith}
use Rattle.compactor.specs.ReadRoom.{last_segment}
use Rattle.compactor.specs.ReadStates.{count_at}
use Rattle.compactor.specs.contracts.reads.ReadsMachine.TheImpl.{ghosts}
use Rattle.compactor.specs.declared.reads.ReadStage.{ReadStage}
use Rattle.compactor.specs.declared.reads.ReadStage.TheVariants.{Fresh, Indexing, Segmenting, Over}
use Rattle.compactor.specs.declared.reads.Reads.{Reads}

reads_at : (stage : ReadStage) (waiting : ℕ) → last_segment stage ≤ 999_999 → waiting < 2 ^ 64 → count_at stage waiting < 2 ^ 100
reads_at (Fresh meta) waiting room few = omega (arith, few)
reads_at (Indexing meta) waiting room few = omega (arith, few)
reads_at (Segmenting input more) waiting room few = omega (arith, room, few)
reads_at Over waiting room few = omega (arith, few)

-- they are fewer than so many
pub reads_few : (r : Reads) → ghosts.measure r < 2 ^ 100
reads_few r = reads_at r.stage (length r.waiting.items) r.room (omega (arith, r.waiting.ok.0, r.waiting.small.0, r.waiting.small.1))
