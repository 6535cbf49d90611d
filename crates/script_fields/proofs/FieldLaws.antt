-- Fields that are cut off a line, and fields that are joined to one.
use Rattle.std.proofs.Common.{◌≡◌, ℕ, ◌+◌, ◌<◌, ◌≤◌, Bool, true, false, not, cond, nat_lt, List, [], ◌∷◌, ◌++◌, length, get_or, take, drop, Option, Some, None, refl, sym, ap, ◌∙◌, arith, append_assoc}
use Rattle.std.specs.List.{list_all, position_or_len, before_first, after_first}
use Rattle.std.proofs.lemmas.Bool.{not-true, not_from_false}
use Rattle.std.proofs.lemmas.Bool.Decides.{nat_tests}
use Rattle.std.proofs.lemmas.List.{length-append, length-take, take_at, drop_at, get_or_at, get_or-take, get_or_append_left}
use Rattle.std.proofs.lemmas.List.Sums.{split_at_first, passes_at_first, position_or_len_is, fails_before_first, AllPass-from_list_all, list_all-from_AllPass}
use Rattle.script_fields.specs.Fields.{is_space, next_field}

-- no byte of the field is a space
abbrev pub no_space : List ℕ → Bool
no_space field = list_all (λ byte. not (is_space byte)) field

-- each byte of such a field
pub spaceless : (field : List ℕ) → no_space field ≡ true → (k : ℕ) (d : ℕ) → k < length field → is_space (get_or field k d) ≡ false
spaceless field free k d below = not-true _ (AllPass-from_list_all (λ byte. not (is_space byte)) field free k d below)

-- before the first space there is none
no_space-before : (text : List ℕ) → no_space (before_first is_space text) ≡ true
no_space-before text =
    list_all-from_AllPass (λ byte. not (is_space byte)) (before_first is_space text) (λ k d below.
    let inside : k < position_or_len is_space text = omega (arith, length-take (position_or_len is_space text) text) in
    not_from_false _ (ap is_space (get_or-take (position_or_len is_space text) text k d inside) ∙ fails_before_first is_space text k d inside))

no_space-whole : (text : List ℕ) → length text ≤ position_or_len is_space text → no_space text ≡ true
no_space-whole text none =
    list_all-from_AllPass (λ byte. not (is_space byte)) text (λ k d below. not_from_false _ (fails_before_first is_space text k d (omega arith)))

-- the byte that is a space
pub space_is : (byte : ℕ) → is_space byte ≡ true → byte ≡ 32
space_is byte e = grind (arith, nat_tests)

-- what was cut off
pub data Cut (left : Option (List ℕ)) (field : List ℕ) (rest : Option (List ℕ)) : Type 0 where
  cut_nothing : left ≡ None → field ≡ [] → rest ≡ None → Cut left field rest
  cut_whole : left ≡ Some field → no_space field ≡ true → rest ≡ None → Cut left field rest
  cut_front : (text : List ℕ) → left ≡ Some (field ++ 32 ∷ text) → no_space field ≡ true → rest ≡ Some text → Cut left field rest

-- where there is a space, the text stands around it
around : (text : List ℕ) → position_or_len is_space text < length text → text ≡ before_first is_space text ++ 32 ∷ after_first is_space text
around text inside =
    split_at_first is_space text 0 inside ∙ ap (λ byte. before_first is_space text ++ byte ∷ after_first is_space text) (space_is (get_or text (position_or_len is_space text) 0) (passes_at_first is_space text 0 inside))

cut_by : (text : List ℕ) (b : Bool) → nat_lt (position_or_len is_space text) (length text) ≡ b → Cut (Some text) (cond {A = List ℕ × Option (List ℕ)} b (before_first is_space text, Some (after_first is_space text)) (text, None)).0 (cond {A = List ℕ × Option (List ℕ)} b (before_first is_space text, Some (after_first is_space text)) (text, None)).1
cut_by text true test =
    cut_front (after_first is_space text) (ap Some (around text (grind (arith, nat_tests)))) (no_space-before text) refl
cut_by text false test = cut_whole refl (no_space-whole text (grind (arith, nat_tests))) refl

pub cut_found : (left : Option (List ℕ)) → Cut left (next_field left).0 (next_field left).1
unfolding next_field
cut_found None = cut_nothing refl refl refl
cut_found (Some text) = cut_by text (nat_lt (position_or_len is_space text) (length text)) refl

-- where the first space of joined texts is
module _ (field text : List ℕ) (free : no_space field ≡ true) where
  within : (k d : ℕ) → k < length field → is_space (get_or (field ++ 32 ∷ text) k d) ≡ false
  within k d below =
      ap is_space (get_or_append_left field (32 ∷ text) d k below) ∙ spaceless field free k d below

  place : position_or_len is_space (field ++ 32 ∷ text) ≡ length field
  place =
      position_or_len_is is_space (field ++ 32 ∷ text) (length field) 0 (omega (arith, length-append field (32 ∷ text))) (λ k below. within k 0 below) (λ _. ap is_space (get_or_at field 32 text 0 (length field) refl))

  inside : nat_lt (position_or_len is_space (field ++ 32 ∷ text)) (length (field ++ 32 ∷ text)) ≡ true
  inside = let p = place in let e = length-append field (32 ∷ text) in grind (arith, nat_tests)

  behind : drop (length field + 1) (field ++ 32 ∷ text) ≡ text
  behind =
      ap (drop (length field + 1)) (sym (append_assoc field (32 ∷ []) text)) ∙ drop_at (field ++ 32 ∷ []) text (length field + 1) (length-append field (32 ∷ []))

  -- a field and what follows its space
  pub cut_again : next_field (Some (field ++ 32 ∷ text)) ≡ (field, Some text)
  unfolding next_field
  cut_again =
      rw inside (λ i. (ap (λ n. take n (field ++ 32 ∷ text)) place i, Some (ap (λ n. drop (n + 1) (field ++ 32 ∷ text)) place i))) ∙ (λ i. (take_at field (32 ∷ text) (length field) refl i, Some (behind i)))

-- a field alone
pub cut_last : (field : List ℕ) → no_space field ≡ true → next_field (Some field) ≡ (field, None)
unfolding next_field
cut_last field free =
    let none : position_or_len is_space field ≡ length field = position_or_len_is is_space field (length field) 0 (omega arith) (λ k below. spaceless field free k 0 below) (λ l. absurd (omega arith)) in
    let test : nat_lt (position_or_len is_space field) (length field) ≡ false = grind (arith, nat_tests) in
    rw test refl
