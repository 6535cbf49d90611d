-- Where the stretch begins in which a time lies.
use Rattle.std.proofs.Common.{◌≡◌, ℕ, ◌+◌, ◌-◌, ◌*◌, ◌/◌, ◌%◌, ◌<◌, arith}
use Rattle.std.specs.Prelude.{ℤ, pos, negsuc, ◌+ℤ◌, ◌-ℤ◌, ◌*ℤ◌, ◌<ℤ◌, ◌≤ℤ◌}
use Rattle.std.proofs.lemmas.Int.{ints}
use Rattle.group_planner.specs.Parts.{IsStart, start_of}

parts_of_quotient : (a d : ℕ) → 0 < d → (d * (a / d) + a % d ≡ a) × (a % d < d)
parts_of_quotient a d some = (omega arith, omega arith)

above_zero : (d : ℕ) → pos 0 <ℤ pos d → 0 < d
above_zero d h = omega (arith, ints)

multiple_above : (a d q r : ℕ) → d * q + r ≡ a → pos a -ℤ pos r ≡ pos q *ℤ pos d
multiple_above a d q r e = omega (arith, ints)

multiple_below : (a d q r : ℕ) → d * q + r ≡ a → r < d → negsuc a -ℤ pos (d - 1 - r) ≡ negsuc q *ℤ pos d
multiple_below a d q r e lt = omega (arith, ints)

reached_above : (a r : ℕ) → (pos a -ℤ pos r) ≤ℤ pos a
reached_above a r = omega (arith, ints)

reached_below : (a s : ℕ) → (negsuc a -ℤ pos s) ≤ℤ negsuc a
reached_below a s = omega (arith, ints)

last_above : (a d r : ℕ) → r < d → pos a <ℤ ((pos a -ℤ pos r) +ℤ pos d)
last_above a d r lt = omega (arith, ints)

last_below : (a d r : ℕ) → r < d → negsuc a <ℤ ((negsuc a -ℤ pos (d - 1 - r)) +ℤ pos d)
last_below a d r lt = omega (arith, ints)

pub start_is : (range time : ℤ) → pos 0 <ℤ range → IsStart range time (start_of range time)
start_is (pos d) (pos a) some =
    let sizes : (d * (a / d) + a % d ≡ a) × (a % d < d) = parts_of_quotient a d (above_zero d some) in
    record {
      multiple = (pos (a / d), multiple_above a d (a / d) (a % d) sizes.0);
      reached = reached_above a (a % d);
      last = last_above a d (a % d) sizes.1;
    }
start_is (pos d) (negsuc a) some =
    let sizes : (d * (a / d) + a % d ≡ a) × (a % d < d) = parts_of_quotient a d (above_zero d some) in
    record {
      multiple = (negsuc (a / d), multiple_below a d (a / d) (a % d) sizes.0 sizes.1);
      reached = reached_below a (d - 1 - a % d);
      last = last_below a d (a % d) sizes.1;
    }
start_is (negsuc d) time some = absurd (omega (arith, ints))
