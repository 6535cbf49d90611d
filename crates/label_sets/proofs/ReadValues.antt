-- Values and pairs, read as far as some place.
use Rattle.std.proofs.Common.{◌≡◌, ℕ, ◌≤◌, false, List, [], ◌∷◌, ◌++◌, length, take, Result, Ok, Err, refl, sym, ap, ◌∙◌, arith, append_assoc, append-nil, take_at}
use Rattle.std.proofs.lemmas.List.{take-take, length-append}
use Rattle.label_sets.specs.declared.label_refusal.LabelRefusal.{LabelRefusal}
use Rattle.label_sets.specs.Notation.{with_byte, value_at}

-- the same value with these bytes before it
unfoldable pub before : List ℕ → Result (List ℕ × List ℕ) LabelRefusal → Result (List ℕ × List ℕ) LabelRefusal
before bytes (Ok read) = Ok (bytes ++ read.0, read.1)
before bytes (Err refusal) = Err refusal

pub before-nothing : (r : Result (List ℕ × List ℕ) LabelRefusal) → before [] r ≡ r
unfolding before
before-nothing (Ok read) = refl
before-nothing (Err refusal) = refl

pub before-push : (bytes : List ℕ) (byte : ℕ) (r : Result (List ℕ × List ℕ) LabelRefusal) → before (bytes ++ byte ∷ []) r ≡ before bytes (with_byte byte r)
unfolding before with_byte
before-push bytes byte (Ok read) = ap (λ v. Ok (v, read.1)) (append_assoc bytes (byte ∷ []) read.0)
before-push _ _ (Err refusal) = refl

pub before-ok : (bytes value rest : List ℕ) → before bytes (Ok (value, rest)) ≡ Ok (bytes ++ value, rest)
unfolding before
before-ok _ _ _ = refl

pub before-err : (bytes : List ℕ) (e : LabelRefusal) → before bytes (Err e) ≡ Err e
unfolding before
before-err _ e = refl

-- what is kept of a longer front is kept of a shorter one
pub kept_through : (old part first more mid now : List ℕ) → first ≡ old ++ part → mid ≡ first ++ more → take (length mid) now ≡ mid → take (length old) now ≡ old
kept_through old part first more mid _ f e k =
    let l : length old ≤ length mid = omega (arith, ap length e, ap length f, length-append first more, length-append old part) in
    sym (take-take _ _ _ l) ∙ ap (take (length old)) k ∙ ap (take (length old)) (e ∙ ap (λ ws. ws ++ more) f ∙ append_assoc old part more) ∙ take_at _ _ _ refl

-- a byte more
pub value_goes_on : (value more text rest after : List ℕ) (byte : ℕ) → value_at false text ≡ before value (value_at false rest) → value_at false rest ≡ with_byte byte (value_at false after)
    → more ≡ value ++ byte ∷ [] → value_at false text ≡ before more (value_at false after)
value_goes_on value _ _ _ after _ i s m = i ∙ ap (before value) s ∙ sym (before-push _ _ _) ∙ sym (ap (λ v. before v (value_at false after)) m)

-- the closing quote
pub value_ends : (value text rest after : List ℕ) → value_at false text ≡ before value (value_at false rest) → value_at false rest ≡ Ok ([], after) → value_at false text ≡ Ok (value, after)
value_ends value _ _ after i s = i ∙ ap (before value) s ∙ before-ok _ _ _ ∙ ap (λ v. Ok (v, after)) (append-nil value)

-- a refusal
pub value_refused : (value text rest : List ℕ) (e : LabelRefusal) → value_at false text ≡ before value (value_at false rest) → value_at false rest ≡ Err e → value_at false text ≡ Err e
value_refused value _ _ e i s = i ∙ ap (before value) s ∙ before-err _ e
