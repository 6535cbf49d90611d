-- Members that are told from the one before them, against their texts.
use Rattle.std.proofs.Common.{◌≡◌, ℕ, zero, suc, ◌+◌, ◌*◌, ◌≤◌, List, [], ◌∷◌, ◌++◌, length, Option, Some, Result, Ok, refl, sym, ap, subst, ◌∙◌, append_assoc, length-append, arith}
use Rattle.base.specs.Members.{members_at}
use Rattle.base.specs.Grammar.{IsBytes, HasFront}
use Rattle.base.proofs.Binds.{ok_is}
use Rattle.base.proofs.Counted.{members_first, members_parts}
use Rattle.base.proofs.Fronts.{IsBytes-after}
use Rattle.wire_bytes.specs.Position.{Position, left}
use Rattle.index_parts.specs.Turns.{AreInTurn}

-- a value that was read, as the reading function gave it
pub field_found : {A E : Type 0} (IsText : List ℕ → A → Type 0) (p q r : Position) (text : List ℕ) (s x : A) → IsText text s → left p ≡ text ++ left q → ◌≡◌ {A = Result (A × Position) E} (Ok (s, q)) (Ok (x, r)) → HasFront IsText (left p) x (left r)
field_found {A} {E} IsText p q r text s x is front e = subst (λ y. HasFront IsText (left p) y.0 (left y.1)) (ok_is {E = E} _ _ e) (text, is, front)

-- the same of a member, from which the next one is told
pub turn_found : {A E : Type 0} (IsNext : Option A → List ℕ → A → Type 0) (before : Option A) (p q : Position) (text : List ℕ) (s x : A) (t : Option A × Position) → IsNext before text s → left p ≡ text ++ left q → ◌≡◌ {A = Result (A × (Option A × Position)) E} (Ok (s, (Some s, q))) (Ok (x, t)) → HasFront (IsNext before) (left p) x (left t.1) × (t.0 ≡ Some x)
turn_found {A} {E} IsNext before p q text s x t is front e =
    subst (λ r. HasFront (IsNext before) (left p) r.0 (left r.1.1) × (r.1.0 ≡ Some r.0)) (ok_is {E = E} _ _ e) ((text, is, front), refl)

module _ {A E : Type 0} (read : Option A × Position → Result (A × (Option A × Position)) E) (IsNext : Option A → List ℕ → A → Type 0) where
  -- If each member that is read is in its grammar, then so are all that a loop over a count reads.
  pub turns_found : (one : (before : Option A) (p : Position) (x : A) (t : Option A × Position) → IsBytes (left p) → read (before, p) ≡ Ok (x, t) → HasFront (IsNext before) (left p) x (left t.1) × (t.0 ≡ Some x)) → (n : ℕ) (before : Option A) (p : Position) (xs : List A) (t : Option A × Position)
      → IsBytes (left p) → members_at read n (before, p) ≡ Ok (xs, t) → HasFront (AreInTurn IsNext before) (left p) xs (left t.1)
  unfolding members_at
  turns_found _ zero before p _ t are e =
      let same = ok_is {E = E} _ _ e in
      let nothing = subst (λ ys. AreInTurn IsNext before [] ys) (ap (λ r. r.0) same) refl in
      ([], nothing, ap (λ r. left r.1.1) same)
  turns_found one (suc n) before p _ t are e =
      let m = members_parts read n _ t _ e in
      let first = one before p m.0 m.1 are m.3 in
      let others = turns_found one n _ _ _ t (IsBytes-after _ _ _ first.0.2 are) m.4 in
      let after = subst (λ b. AreInTurn IsNext b others.0 m.2) first.1 others.1 in
      let texts : AreInTurn IsNext before (first.0.0 ++ others.0) (m.0 ∷ m.2) = (first.0.0, others.0, first.0.1, after, refl) in
      (first.0.0 ++ others.0, subst (λ ys. AreInTurn IsNext before (first.0.0 ++ others.0) ys) m.5 texts, first.0.2 ∙ ap (λ a. first.0.0 ++ a) others.2 ∙ sym (append_assoc first.0.0 others.0 (left t.1)))

  -- If each text of a member is read, whatever follows, then so are texts in turn.
  pub turns_again : (one : (before : Option A) (p : Position) (text : List ℕ) (x : A) (after : List ℕ) → IsNext before text x → left p ≡ text ++ after → (q : Position) × (read (before, p) ≡ Ok (x, (Some x, q))) × (left q ≡ after)) → (before : Option A) (p : Position) (text : List ℕ) (xs : List A) (after : List ℕ)
      → AreInTurn IsNext before text xs → left p ≡ text ++ after → (t : Option A × Position) × (members_at read (length xs) (before, p) ≡ Ok (xs, t)) × (left t.1 ≡ after)
  unfolding members_at
  turns_again _ before p _ [] after are e = ((before, p), refl, e ∙ ap (λ a. a ++ after) are)
  turns_again one before p _ (x ∷ xs) after are e =
      let whole = e ∙ ap (λ a. a ++ after) are.4 ∙ append_assoc are.0 are.1 after in
      let first = one before p are.0 x (are.1 ++ after) are.2 whole in
      let others = turns_again one (Some x) first.0 are.1 xs _ are.3 first.2 in
      (others.0, members_first read _ _ _ _ x _ first.1 others.1, others.2)

-- members that each take some bytes are no more than the bytes allow
pub turns_few : {A : Type 0} (IsNext : Option A → List ℕ → A → Type 0) (least : ℕ) → ((before : Option A) (text : List ℕ) (x : A) → IsNext before text x → least ≤ length text) → (before : Option A) (text : List ℕ) (xs : List A) → AreInTurn IsNext before text xs → least * length xs ≤ length text
turns_few IsNext _ one _ _ [] are = omega arith
turns_few IsNext _ one before text (x ∷ xs) are =
    let first = one before are.0 x are.2 in
    let others = turns_few _ _ one _ _ xs are.3 in
    let whole : length text ≡ length are.0 + length are.1 = ap length are.4 ∙ length-append are.0 are.1 in
    omega arith
