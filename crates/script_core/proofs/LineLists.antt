-- The lines of a text, one after another.
use Rattle.std.proofs.Common.{◌≡◌, ℕ, ◌+◌, ◌<◌, ◌≤◌, Bool, true, false, nat_lt, ◌==◌, List, [], ◌∷◌, length, Result, Ok, Err, refl, ap, sym, ◌∙◌, arith}
use Rattle.std.specs.List.{position_or_len, before_first, after_first}
use Rattle.std.proofs.lemmas.List.{drop_all, take_all}
use Rattle.std.proofs.lemmas.List.Splits.{slice_split_first, slice_split_none}
use Rattle.std.proofs.lemmas.List.Sums.{fails_before_first}
use Rattle.std.proofs.lemmas.Bool.Decides.{nat_tests}
use Rattle.base.specs.Reading.{◌>>=◌}
use Rattle.script_fields.specs.declared.script_refusal.ScriptRefusal.{ScriptRefusal}
use Rattle.script_fields.specs.Fields.{is_newline, lines_of}
use Rattle.script_core.specs.State.{State}
use Rattle.script_core.specs.Reading.{line_at, lines_at}

-- the empty line says nothing
pub empty_line : (st : State) (number : ℕ) → lines_at st number (lines_of []) ≡ Ok st
unfolding lines_at line_at
empty_line st number = refl

-- what is read of lines that are left
module _ (st : State) (number : ℕ) (text : List ℕ) where
  more_lines : position_or_len is_newline text < length text → lines_at st number (lines_of text) ≡ (line_at st number (before_first is_newline text) >>= λ after. lines_at after (number + 1) (lines_of (after_first is_newline text)))
  unfolding lines_at
  more_lines inside = ap (lines_at st number) (slice_split_first is_newline text 0 inside)

  last_read : (read : Result State ScriptRefusal) → (read >>= λ after. Ok after) ≡ (read >>= λ after. lines_at after (number + 1) (lines_of []))
  last_read (Ok after) = sym (empty_line after (number + 1))
  last_read (Err refusal) = refl

  last_line : length text ≤ position_or_len is_newline text → lines_at st number (lines_of text) ≡ (line_at st number (before_first is_newline text) >>= λ after. lines_at after (number + 1) (lines_of (after_first is_newline text)))
  unfolding lines_at
  last_line none =
      let one = slice_split_none is_newline text (λ k d inside. fails_before_first is_newline text k d (omega arith)) in
      let before : before_first is_newline text ≡ text = take_all _ text none in
      let after : after_first is_newline text ≡ [] = drop_all _ text (omega arith) in
      rw (before, after) (ap (lines_at st number) one ∙ last_read (line_at st number text))

  by_test : (b : Bool) → nat_lt (position_or_len is_newline text) (length text) ≡ b → lines_at st number (lines_of text) ≡ (line_at st number (before_first is_newline text) >>= λ after. lines_at after (number + 1) (lines_of (after_first is_newline text)))
  by_test true test = more_lines (grind (arith, nat_tests))
  by_test false test = last_line (grind (arith, nat_tests))

  -- the first line is read, and then the lines after it
  pub lines_at-next : lines_at st number (lines_of text) ≡ (line_at st number (before_first is_newline text) >>= λ after. lines_at after (number + 1) (lines_of (after_first is_newline text)))
  lines_at-next = by_test _ refl

module _ (st after : State) (number : ℕ) (text line rest : List ℕ) (whole : Result State ScriptRefusal) where
  pub lines_go_on : line ≡ before_first is_newline text → rest ≡ after_first is_newline text → line_at st number line ≡ Ok after → lines_at st number (lines_of text) ≡ whole → lines_at after (number + 1) (lines_of rest) ≡ whole
  lines_go_on line_is rest_is read so_far =
      let first : line_at st number (before_first is_newline text) ≡ Ok after = ap (line_at st number) (sym line_is) ∙ read in
      rw rest_is (sym (lines_at-next st number text ∙ ap (λ r. r >>= λ next. lines_at next (number + 1) (lines_of (after_first is_newline text))) first) ∙ so_far)

  pub lines_refuse : (refusal : ScriptRefusal) → line ≡ before_first is_newline text → line_at st number line ≡ Err refusal → lines_at st number (lines_of text) ≡ whole → whole ≡ Err refusal
  lines_refuse refusal line_is read so_far =
      let first : line_at st number (before_first is_newline text) ≡ Err refusal = ap (line_at st number) (sym line_is) ∙ read in
      sym so_far ∙ lines_at-next st number text ∙ ap (λ r. r >>= λ next. lines_at next (number + 1) (lines_of (after_first is_newline text))) first

lines_end_at : (st : State) (number : ℕ) (text : List ℕ) (whole : Result State ScriptRefusal) → text ≡ [] → lines_at st number (lines_of text) ≡ whole → whole ≡ Ok st
lines_end_at st number text whole none so_far =
    sym so_far ∙ ap (λ t. lines_at st number (lines_of t)) none ∙ empty_line st number

pub lines_end : (st : State) (number : ℕ) (text : List ℕ) (whole : Result State ScriptRefusal) → (length text == 0) ≡ true → lines_at st number (lines_of text) ≡ whole → whole ≡ Ok st
lines_end st number [] whole none so_far = lines_end_at st number [] whole refl so_far
lines_end st number (byte ∷ text) whole none so_far = absurd (grind (arith, nat_tests))
