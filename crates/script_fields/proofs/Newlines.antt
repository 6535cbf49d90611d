-- The place of the first newline of a text.
use Rattle.std.proofs.Common.{◌≡◌, ℕ, ◌<◌, ◌≤◌, true, List, length, Option, None, Some, not, ap, arith}
use Rattle.std.specs.Prelude.{position}
use Rattle.std.specs.List.{position_or_len}
use Rattle.std.proofs.lemmas.Bool.{false_from_ne_true}
use Rattle.std.proofs.lemmas.Bool.Decides.{nat_tests}
use Rattle.std.proofs.lemmas.List.Sums.{prefix_len_is}
use Rattle.memchr.specs.Find.{IsFirstByte, Nowhere, Passes, is_byte}
use Rattle.script_fields.specs.Fields.{is_newline}

module _ (text : List ℕ) where
  -- no newline stands before this place, and one stands there unless the text ends
  stands_at : (place : ℕ) → place ≤ length text → Nowhere (Passes (is_byte 10) text) 0 place → (place < length text → Passes (is_byte 10) text place) → position_or_len is_newline text ≡ place
  stands_at place within none there =
      prefix_len_is (λ b. not (is_newline b)) text place 0 within (λ k low. ap not (false_from_ne_true _ (none k (omega arith) low))) (λ low. ap not (there low))

  pub first_newline : (found : Option ℕ) → IsFirstByte (is_byte 10) text found → found ≡ position is_newline text
  first_newline None none =
      let end : position_or_len is_newline text ≡ length text = stands_at (length text) (omega arith) none (λ low. absurd (omega (arith, low))) in
      grind (arith, nat_tests)
  first_newline (Some place) first =
      let at : position_or_len is_newline text ≡ place = stands_at place (omega (arith, first.0.high)) first.0.before (λ _. first.1) in
      grind (arith, nat_tests)
