use Rattle.std.proofs.Common.{◌*◌, ◌^◌, ◌<◌, ◌≤◌, drop, length}
use Rattle.wire_bytes.specs.Bits.{bits_in}
use Rattle.xor_chunks.specs.Known.{state_of}
use Rattle.xor_chunks.proofs.BitPlaces.{EndsAlike, at_time}
use Rattle.xor_chunks.proofs.passing.pass_window.Given as goal

abbrev pub invariant-loop-left : goal.invariant-loop-left
invariant-loop-left l =
    EndsAlike l.fn.count (state_of l.fn.second) (drop l.fn.begin (bits_in l.bytes)) l.left (at_time l.time l.delta (state_of l.fn.second)) (drop l.place (bits_in l.bytes)) × (l.place ≤ 8 * length l.bytes) × (l.left ≤ l.fn.count) × (0 < l.delta) × (l.delta < 2 ^ 62)

abbrev pub decreases-loop-left : goal.decreases-loop-left
decreases-loop-left l = l.left
