use Rattle.std.proofs.Common.{◌∙◌, sym}
use Rattle.std.specs.Int.{w64}
use Rattle.std.proofs.lemmas.Int.{to_z_pos}
use Rattle.base.proofs.FewDigits.{few_signed}
use Rattle.base.proofs.ParsedSigned.{parsed_signed, signed_not}
use Rattle.base.proofs.number.signed_exact.Goals as goal

pub returns-in-Some : goal.returns-in-Some
returns-in-Some c =
    let few = c.in-Some.ensures in
    few_signed _ _ _ _ c.as_bytes-bytes.ensures.value (to_z_pos w64 _ few.2) few.0 few.1 few.2

pub returns : goal.returns
returns c = c.or.ensures ∙ parsed_signed _ _ (rw c.as_bytes-bytes.ensures.value at (sym c.if-not-are_signed_digits.ensures)) c.parse.ensures.value.0

pub returns-then-not-are_signed_digits : goal.returns-then-not-are_signed_digits
returns-then-not-are_signed_digits c = sym (signed_not _ (rw c.as_bytes-bytes.ensures.value at (sym c.if-not-are_signed_digits.ensures)))
