-- The lines that were read so far, and those that are left.
use Rattle.std.proofs.Common.{◌≡◌, ℕ, ◌+◌, ◌<◌, ◌≤◌, Bool, true, false, nat_lt, List, [], ◌∷◌, ◌++◌, length, Result, Ok, Err, ◌⊎◌, inl, inr, refl, sym, ap, ◌∙◌, subst, arith, append_assoc}
use Rattle.std.specs.List.{position_or_len, before_first, after_first}
use Rattle.std.proofs.lemmas.Bool.Decides.{nat_tests}
use Rattle.std.proofs.lemmas.List.{drop_all, length-append, take_all}
use Rattle.std.proofs.lemmas.List.Splits.{slice_split_first, slice_split_none}
use Rattle.std.proofs.lemmas.List.Sums.{fails_before_first}
use Rattle.base.proofs.Binds.{bind_ok, ok_is}
use Rattle.script_fields.specs.declared.script_refusal.ScriptRefusal.{ScriptRefusal}
use Rattle.script_fields.specs.Fields.{is_newline, lines_of}
use Rattle.script_core.specs.GivenUp.{IsLineGivenUp, AreLinesGivenUp}
use Rattle.script_core.specs.Reading.{line_at, lines_at}
use Rattle.script_core.specs.State.{State}
use Rattle.script_core.proofs.LineLists.{lines_refuse}

-- the lines before those that are left, and what they leave
pub record ReadSoFar (at_first : State) (text left : List ℕ) (number : ℕ) (st : State) : Type 0 where
  pub earlier : List (List ℕ)
  pub count : number ≡ length earlier
  pub read : lines_at at_first 1 earlier ≡ Ok st
  -- Where nothing is left, the last line had no newline, or one that ends the text.
  pub stands : 0 < length left → lines_of text ≡ earlier ++ lines_of left

pub none_read : (text : List ℕ) (st : State) → ReadSoFar st text text 0 st
unfolding lines_at
none_read text st = record { earlier = []; count = refl; read = refl; stands = λ some. refl }

-- one more line
pub lines_at-push : (st after last : State) (number : ℕ) (earlier : List (List ℕ)) (line : List ℕ) → lines_at st number earlier ≡ Ok after → line_at after (number + length earlier) line ≡ Ok last
    → lines_at st number (earlier ++ line ∷ []) ≡ Ok last
unfolding lines_at
lines_at-push st after last number [] line read one =
    let same : st ≡ after = ok_is _ _ read in
    let place : number + 0 ≡ number = omega arith in
    let first : line_at st number line ≡ Ok last = (λ i. line_at (same i) (sym place i) line) ∙ one in
    rw first refl
lines_at-push st after last number (first ∷ earlier) line read one =
    let a = bind_ok (line_at st number first) (λ next. lines_at next (number + 1) earlier) after read in
    let place : number + length (first ∷ earlier) ≡ number + 1 + length earlier = omega arith in
    let others = lines_at-push a.0 after last (number + 1) earlier line a.2 (ap (λ n. line_at after n line) (sym place) ∙ one) in
    let head = a.1 in
    rw head others

-- what is left begins with its first line
more_by : (left : List ℕ) (inside : Bool) → nat_lt (position_or_len is_newline left) (length left) ≡ inside
    → (later : List (List ℕ)) × (lines_of left ≡ before_first is_newline left ∷ later) × (0 < length (after_first is_newline left) → later ≡ lines_of (after_first is_newline left))
more_by left true test =
    (lines_of (after_first is_newline left), slice_split_first is_newline left 0 (grind (arith, nat_tests)), λ some. refl)
more_by left false test =
    let none : length left ≤ position_or_len is_newline left = grind (arith, nat_tests) in
    let one = slice_split_none is_newline left (λ k d within. fails_before_first is_newline left k d (omega arith)) in
    let before : before_first is_newline left ≡ left = take_all _ left none in
    let after : after_first is_newline left ≡ [] = drop_all _ left (omega arith) in
    ([], one ∙ ap (λ line. line ∷ []) (sym before), λ some. absurd (omega (arith, ap length after)))

more_left : (left : List ℕ) → (later : List (List ℕ)) × (lines_of left ≡ before_first is_newline left ∷ later) × (0 < length (after_first is_newline left) → later ≡ lines_of (after_first is_newline left))
more_left left = more_by left (nat_lt (position_or_len is_newline left) (length left)) refl

module _ (at_first : State) (text left line rest : List ℕ) (number : ℕ) (st : State) (so_far : ReadSoFar at_first text left number st) (some : 0 < length left) (line_is : line ≡ before_first is_newline left) where
  begins : (later : List (List ℕ)) × (lines_of text ≡ so_far.earlier ++ line ∷ later) × (0 < length (after_first is_newline left) → later ≡ lines_of (after_first is_newline left))
  begins =
      let more = more_left left in
      (more.0, so_far.stands some ∙ ap (λ ls. so_far.earlier ++ ls) (more.1 ∙ ap (λ l. l ∷ more.0) (sym line_is)), more.2)

  place_is : number + 1 ≡ 1 + length so_far.earlier
  place_is = omega (arith, so_far.count)

  pub one_read : (after : State) → rest ≡ after_first is_newline left → line_at st (number + 1) line ≡ Ok after → ReadSoFar at_first text rest (number + 1) after
  one_read after rest_is read = record {
    earlier = so_far.earlier ++ line ∷ [];
    count = omega (arith, so_far.count, length-append so_far.earlier (line ∷ []));
    read = lines_at-push at_first st after 1 so_far.earlier line so_far.read (ap (λ n. line_at st n line) (sym place_is) ∙ read);
    stands = λ more.
        let later = begins.2 (subst (λ (l : List ℕ). 0 < length l) rest_is more) in
        begins.1 ∙ ap (λ ls. so_far.earlier ++ line ∷ ls) (later ∙ ap lines_of (sym rest_is))
        ∙ sym (append_assoc so_far.earlier (line ∷ []) (lines_of rest));
  }

  -- a line that is given up
  pub one_given_up : (refusal : ScriptRefusal) → IsLineGivenUp st (number + 1) line refusal → AreLinesGivenUp at_first 1 (lines_of text) refusal
  one_given_up refusal (inl memory) = inl memory
  one_given_up refusal (inr large) = inr (
    number + 1,
    large.0,
    record {
      earlier = so_far.earlier;
      line = line;
      later = begins.0;
      stands = begins.1;
      at_is = place_is;
      before = st;
      read = so_far.read;
      spoken = large.1;
      utf8 = large.2;
      asks = large.3;
    },
  )

  -- a line that is refused ends the reading
  pub refused_there : (refusal : ScriptRefusal) (whole : Result State ScriptRefusal) → IsLineGivenUp st (number + 1) line refusal ⊎ (line_at st (number + 1) line ≡ Err refusal)
      → lines_at st (number + 1) (lines_of left) ≡ whole → AreLinesGivenUp at_first 1 (lines_of text) refusal ⊎ (whole ≡ Err refusal)
  refused_there refusal whole (inl given_up) so_far_is = inl (one_given_up refusal given_up)
  refused_there refusal whole (inr refused) so_far_is =
      inr (lines_refuse st st (number + 1) left line rest whole refusal line_is refused so_far_is)
