-- Walks over the lines of a text. An empty line at the end changes nothing of what is found.
use Rattle.std.proofs.Common.{◌≡◌, ℕ, ◌<◌, ◌≤◌, Bool, true, false, nat_lt, List, [], ◌∷◌, length, refl, ap, ◌∙◌, arith}
use Rattle.std.specs.List.{position_or_len, before_first, after_first}
use Rattle.std.proofs.lemmas.List.{drop_all, take_all}
use Rattle.std.proofs.lemmas.List.Splits.{slice_split_first, slice_split_none}
use Rattle.std.proofs.lemmas.List.Sums.{fails_before_first}
use Rattle.std.proofs.lemmas.Bool.Decides.{nat_tests}
use Rattle.script_fields.specs.Fields.{is_newline, lines_of}

module _ {A : Type 0} (found : List (List ℕ) → A) (ends : (line : List ℕ) → found (line ∷ []) ≡ found (line ∷ [] ∷ [])) (text : List ℕ) where
  more_lines : position_or_len is_newline text < length text → found (lines_of text) ≡ found (before_first is_newline text ∷ lines_of (after_first is_newline text))
  more_lines inside = ap found (slice_split_first is_newline text 0 inside)

  last_line : length text ≤ position_or_len is_newline text → found (lines_of text) ≡ found (before_first is_newline text ∷ lines_of (after_first is_newline text))
  last_line none =
      let one = slice_split_none is_newline text (λ k d inside. fails_before_first is_newline text k d (omega arith)) in
      let before : before_first is_newline text ≡ text = take_all _ text none in
      let after : after_first is_newline text ≡ [] = drop_all _ text (omega arith) in
      rw (before, after) (ap found one ∙ ends text)

  by_test : (b : Bool) → nat_lt (position_or_len is_newline text) (length text) ≡ b → found (lines_of text) ≡ found (before_first is_newline text ∷ lines_of (after_first is_newline text))
  by_test true test = more_lines (grind (arith, nat_tests))
  by_test false test = last_line (grind (arith, nat_tests))

  -- what is found of the lines is found of the first one and those behind it
  pub walks_on : found (lines_of text) ≡ found (before_first is_newline text ∷ lines_of (after_first is_newline text))
  walks_on = by_test _ refl
