use Rattle.std.proofs.Common.{◌≡◌, ◌-◌}
use Rattle.wire_bytes.specs.Buffer.{IsBuffer, buffered}
use Rattle.wire_bytes.proofs.refill.refill_by_bytes.Given as goal

abbrev pub invariant-loop-count : goal.invariant-loop-count
invariant-loop-count l = record { buffer : IsBuffer l.word l.count; same : buffered l.word l.count l.bytes ≡ buffered l.fn.word l.fn.count l.fn.bytes }

abbrev pub decreases-loop-count : goal.decreases-loop-count
decreases-loop-count l = 64 - l.count
