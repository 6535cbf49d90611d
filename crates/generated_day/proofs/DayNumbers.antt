-- The numbers of the generated day as text.
use Rattle.std.proofs.Common.{◌≡◌, ℕ, ◌<◌, ◌≤◌, ◌^◌, pos, true, length, ap, arith}
use Rattle.std.proofs.lemmas.Bool.Decides.{nat_tests}
use Rattle.std.proofs.lemmas.Fmt.{length_signed_le}
use Rattle.base.specs.Decimal.{decimal_text, signed_text}
use Rattle.base.proofs.Printed.{printed_signed}
use Rattle.script_core.specs.Spelling.{IsNear}
use Rattle.script_fields.specs.Values.{is_time}
use Rattle.script_core.proofs.SpelledValues.{near_spelled, near_tested}
use Rattle.script_core.proofs.ValueLaws.{time_fits}

pub near_by : (n : ℕ) → n < 2 ^ 62 → IsNear (pos n)
near_by n small =
    let near : is_time (pos n) ≡ true = grind (arith, nat_tests) in near_spelled (pos n) near

pub decimal_short : (n : ℕ) → n < 2 ^ 42 → length (decimal_text n) ≤ 14
unfolding signed_text
decimal_short n small =
    let size = length_signed_le 13 (pos n) (omega (arith, small)) (omega (arith, small)) in
    omega (arith, size, ap (length {A = ℕ}) (printed_signed (pos n) (time_fits (pos n) (near_tested (pos n) (near_by n (omega (arith, small)))))))
