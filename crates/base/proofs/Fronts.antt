-- Grammars against reading functions: what is read stands in front, and what stands in front is read.
use Rattle.std.proofs.Common.{◌≡◌, ℕ, zero, suc, ◌+◌, List, [], ◌∷◌, ◌++◌, length, take, drop, inl, inr, arith, Result, Ok, refl, sym, ap, subst, ◌∙◌, append_assoc}
use Rattle.std.proofs.lemmas.List.{get_or-drop, get_or-take, get_or_past, length-take, drop_at}
use Rattle.std.proofs.lemmas.Bool.{cases_lt}
use Rattle.base.specs.Members.{members_at}
use Rattle.base.specs.Grammar.{IsBytes, HasFront, AreTexts}
use Rattle.base.proofs.Binds.{ok_is}
use Rattle.base.proofs.Counted.{members_first, members_parts}

-- what is left of bytes is bytes
pub IsBytes-drop : (n : ℕ) (bytes : List ℕ) → IsBytes bytes → IsBytes (drop n bytes)
IsBytes-drop n _ are i = rw get_or-drop (are (n + i))

pub IsBytes-take : (n : ℕ) (bytes : List ℕ) → IsBytes bytes → IsBytes (take n bytes)
IsBytes-take n bytes are i =
    elim (cases_lt i n) [
      | inl lt ↦ rw (get_or-take) (are i)
      | inr le ↦ rw (get_or_past (take n bytes) i 0 (omega (arith, length-take n bytes))) (omega arith)
    ]

pub IsBytes-after : (text after bytes : List ℕ) → bytes ≡ text ++ after → IsBytes bytes → IsBytes after
IsBytes-after text after bytes e are = rw (← drop_at text after (length text) refl, ← e) (IsBytes-drop _ _ are)

-- What is left to read of a state is given by left: of a list it is the list itself, of a cursor the bytes from its place on.
module _ {A S E : Type 0} (left : S → List ℕ) (read : S → Result (A × S) E) (IsText : List ℕ → A → Type 0) where
  -- If a member that is read is in its grammar, then so are all that a loop over a count reads.
  pub members_found : (one : (s : S) (x : A) (t : S) → IsBytes (left s) → read s ≡ Ok (x, t) → HasFront IsText (left s) x (left t)) → (n : ℕ) (s : S) (xs : List A) (t : S) → IsBytes (left s) → members_at read n s ≡ Ok (xs, t) → HasFront (AreTexts IsText) (left s) xs (left t)
  unfolding members_at
  members_found _ zero s _ t are e =
      let p = ok_is {E = E} _ _ e in
      let nothing = subst (λ ys. AreTexts IsText [] ys) (ap (λ q. q.0) p) refl in
      ([], nothing, ap (λ q. left q.1) p)
  members_found one (suc n) s _ t are e =
      let p = members_parts read n s t _ e in
      let first = one s p.0 p.1 are p.3 in
      let others = members_found one n _ _ t (IsBytes-after _ _ _ first.2 are) p.4 in
      let texts : AreTexts IsText (first.0 ++ others.0) (p.0 ∷ p.2) = (first.0, others.0, first.1, others.1, refl) in
      (first.0 ++ others.0, subst (λ ys. AreTexts IsText (first.0 ++ others.0) ys) p.5 texts, first.2 ∙ ap (λ text. first.0 ++ text) others.2 ∙ sym (append_assoc first.0 others.0 (left t)))

  -- If each text of a member is read, whatever follows, then so are texts one after another.
  pub members_again : (one : (s : S) (text : List ℕ) (x : A) (after : List ℕ) → IsText text x → left s ≡ text ++ after → (t : S) × (read s ≡ Ok (x, t)) × (left t ≡ after)) → (s : S) (text : List ℕ) (xs : List A) (after : List ℕ) → AreTexts IsText text xs → left s ≡ text ++ after → (t : S) × (members_at read (length xs) s ≡ Ok (xs, t)) × (left t ≡ after)
  unfolding members_at
  members_again _ s _ [] after are e = (s, refl, e ∙ ap (λ front. front ++ after) are)
  members_again one s _ (x ∷ xs) after are e =
      let whole = e ∙ ap (λ front. front ++ after) are.4 ∙ append_assoc are.0 are.1 after in
      let first = one s are.0 x (are.1 ++ after) are.2 whole in
      let others = members_again one first.0 are.1 xs _ are.3 first.2 in
      (others.0, members_first read _ s _ _ x _ first.1 others.1, others.2)
