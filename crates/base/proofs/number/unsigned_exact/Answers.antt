use Rattle.std.proofs.Common.{◌∙◌, sym}
use Rattle.base.proofs.FewDigits.{few_unsigned}
use Rattle.base.proofs.Parsed.{parsed_unsigned, unsigned_not}
use Rattle.base.proofs.number.unsigned_exact.Goals as goal

pub returns-in-Some : goal.returns-in-Some
returns-in-Some c =
    let few = c.in-Some.ensures in
    few_unsigned _ _ _ c.as_bytes-bytes.ensures.value few.0 few.1 few.2

pub returns : goal.returns
returns c = c.or.ensures ∙ parsed_unsigned _ _ (rw c.as_bytes-bytes.ensures.value at (sym c.if-not-are_digits.ensures)) c.parse.ensures.value.0

pub returns-then-not-are_digits : goal.returns-then-not-are_digits
returns-then-not-are_digits c = sym (unsigned_not _ (rw c.as_bytes-bytes.ensures.value at (sym c.if-not-are_digits.ensures)))
