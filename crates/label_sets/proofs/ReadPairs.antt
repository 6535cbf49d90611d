-- What the readers of values and pairs have read is in the notation.
use Rattle.std.proofs.Common.{◌≡◌, ℕ, ◌<◌, Bool, true, false, ◌||◌, List, [], ◌∷◌, ◌++◌, length, take, drop, Result, Ok, Err, refl, sym, ap, ◌∙◌, subst, arith, append_assoc, eqb, inl, inr}
use Rattle.base.proofs.Binds.{one_answer, ok_is}
use Rattle.std.proofs.lemmas.Bool.{cases_Bool, eqb-true}
use Rattle.std.proofs.lemmas.List.{take-append-drop, length-append}
use Rattle.std.specs.Str.{IsUtf8}
use Rattle.label_sets.specs.declared.label_refusal.LabelRefusal.{LabelRefusal}
use Rattle.label_sets.specs.declared.label_refusal.LabelRefusal.TheVariants.{BadText}
use Rattle.label_sets.specs.Notation.{rest_past, with_byte, value_at, quoted, quoted_byte}
use Rattle.label_sets.proofs.Utf8Parts.{cut_front, cut_rest, unquoted}

not_err : {A : Type 0} (e : LabelRefusal) (x : A) → Err e ≡ Ok x → ⊥
not_err e x h = cc

same_pair : (x : List ℕ × List ℕ) (w after : List ℕ) (r : Result (List ℕ × List ℕ) LabelRefusal) → r ≡ Ok x → r ≡ Ok (w, after) → (x.0 ≡ w) × (x.1 ≡ after)
same_pair x w _ r h k = let e = one_answer x _ r h k in (ap (λ p. p.0) e, ap (λ p. p.1) e)

pub rest_past-only : (byte : ℕ) (text rest : List ℕ) → rest_past byte text ≡ Ok rest → text ≡ byte ∷ rest
unfolding rest_past
rest_past-only _ [] _ e = absurd (not_err _ _ e)
rest_past-only byte (first ∷ text) _ e = elim (cases_Bool _) [
  | inl t ↦ let h = ok_is _ _ (rw t at e) in λ i. eqb-true first byte t i ∷ h i
  | inr f ↦ absurd (not_err _ _ (rw f at e))
]

with_byte-ok : (byte : ℕ) (r : Result (List ℕ × List ℕ) LabelRefusal) (value rest : List ℕ) → with_byte byte r ≡ Ok (value, rest) → (w : List ℕ) × (r ≡ Ok (w, rest)) × (value ≡ byte ∷ w)
unfolding with_byte
with_byte-ok _ (Ok read) _ _ e =
    let p = same_pair _ _ _ _ refl e in
    (read.0, ap (λ after. Ok (read.0, after)) p.1, sym p.0)
with_byte-ok _ (Err refusal) _ _ e = absurd (not_err _ _ e)

-- a backslash or a quote
pub escaped_sign : (byte : ℕ) → (eqb byte 92 || eqb byte 34) ≡ true → quoted_byte byte ≡ 92 ∷ byte ∷ []
unfolding quoted_byte
escaped_sign byte t = elim (cases_Bool _) [
  | inl a ↦ rw (eqb-true byte 92 a)
  | inr a ↦ rw (eqb-true byte 34 (rw a at t))
]

pub plain_byte : (byte : ℕ) → eqb byte 34 ≡ false → eqb byte 10 ≡ false → eqb byte 92 ≡ false → quoted_byte byte ≡ byte ∷ []
unfolding quoted_byte
plain_byte _ q n b = rw (b, q, n)

pub newline : quoted_byte 10 ≡ 92 ∷ 110 ∷ []
unfolding quoted_byte
newline = refl

-- the backslash that was read before the text
abbrev pub escape_mark : Bool → List ℕ
escape_mark true = 92 ∷ []
escape_mark false = []

one_more : (front part text value w rest : List ℕ) (byte : ℕ) → quoted_byte byte ≡ part → value ≡ byte ∷ w → text ≡ quoted w ++ 34 ∷ rest → part ++ text ≡ quoted value ++ 34 ∷ rest
unfolding quoted
one_more _ _ text _ w rest byte q v e =
    ap (λ p. p ++ text) (sym q) ∙ ap (λ t. quoted_byte byte ++ t) e ∙ sym (append_assoc (quoted_byte byte) (quoted w) (34 ∷ rest)) ∙ sym (ap (λ u. quoted u ++ 34 ∷ rest) v)

-- what is read as a value stands in front of a closing quote
value-only : (escaping : Bool) (text value rest : List ℕ) → value_at escaping text ≡ Ok (value, rest) → escape_mark escaping ++ text ≡ quoted value ++ 34 ∷ rest
unfolding value_at quoted
value-only true [] _ _ e = absurd (not_err _ _ e)
value-only false [] _ _ e = absurd (not_err _ _ e)
value-only true (byte ∷ text) value rest e = elim (cases_Bool _) [
  | inl t ↦
      let w = with_byte-ok _ _ _ _ (rw t at e) in
      ap (λ n. 92 ∷ n ∷ text) (eqb-true _ _ t) ∙ one_more [] _ _ value w.0 rest 10 newline w.2 (value-only false text w.0 rest w.1)
  | inr t ↦ elim (cases_Bool _) [
    | inl s ↦
        let w = with_byte-ok _ _ _ _ (rw (t, s) at e) in
        one_more [] _ _ _ _ _ byte (escaped_sign byte s) w.2 (value-only false text w.0 rest w.1)
    | inr s ↦ absurd (not_err _ _ (rw (t, s) at e))
  ]
]
value-only false (byte ∷ text) value rest e = elim (cases_Bool _) [
  | inl q ↦
      let p = same_pair ([], text) value rest (Ok (value, rest)) (sym (rw q at e)) refl in
      (λ i. eqb-true byte 34 q i ∷ p.1 i) ∙ ap (λ v. quoted v ++ 34 ∷ rest) p.0
  | inr q ↦ elim (cases_Bool (eqb byte 10)) [
    | inl n ↦ absurd (not_err (BadText (length (byte ∷ text))) (value, rest) (rw (q, n) at e))
    | inr n ↦ elim (cases_Bool (eqb byte 92)) [
      | inl b ↦ ap (λ n. n ∷ text) (eqb-true byte 92 b) ∙ value-only true text value rest (rw (q, n, b) at e)
      | inr b ↦
          let w = with_byte-ok byte (value_at false text) value rest (rw (q, n, b) at e) in
          one_more [] (byte ∷ []) text value w.0 rest byte (plain_byte byte q n b) w.2 (value-only false text w.0 rest w.1)
    ]
  ]
]

pub value_is_quoted : (text value rest : List ℕ) → value_at false text ≡ Ok (value, rest) → text ≡ quoted value ++ 34 ∷ rest
value_is_quoted text _ _ e = value-only _ _ _ _ e

-- the text of a pair that was read in steps
pub pair_shape : (text name rest after inside value last : List ℕ) (n m : ℕ) → m ≡ n → name ≡ take m text → rest ≡ drop m text → rest_past 61 rest ≡ Ok after → rest_past 34 after ≡ Ok inside → value_at false inside ≡ Ok (value, last)
    → text ≡ name ++ 61 ∷ 34 ∷ (quoted value ++ 34 ∷ last)
pair_shape _ name _ _ _ _ _ n m k e r p q v =
    sym (take-append-drop m _) ∙ (λ i. sym e i ++ sym r i)
    ∙ ap (λ t. name ++ t) (rest_past-only _ _ _ p ∙ ap (λ t. 61 ∷ t) (rest_past-only _ _ _ q ∙ ap (λ t. 34 ∷ t) (value_is_quoted _ _ _ v)))

pub shape_name : (text name value last : List ℕ) → text ≡ name ++ 61 ∷ 34 ∷ (quoted value ++ 34 ∷ last) → IsUtf8 text → IsUtf8 name
shape_name _ _ _ _ e u = cut_front _ _ _ (omega arith) (subst IsUtf8 e u)

inside_shape : (text name value last : List ℕ) → text ≡ name ++ 61 ∷ 34 ∷ (quoted value ++ 34 ∷ last) → IsUtf8 text → IsUtf8 (quoted value ++ 34 ∷ last)
inside_shape _ _ value last e u = cut_rest [] _ 34 (omega arith) (cut_rest _ _ _ (omega arith) (subst IsUtf8 e u))

pub shape_value : (text name value last : List ℕ) → text ≡ name ++ 61 ∷ 34 ∷ (quoted value ++ 34 ∷ last) → IsUtf8 text → IsUtf8 value
shape_value text name value last e u = unquoted value (cut_front _ _ _ (omega arith) (inside_shape _ _ _ _ e u))

pub shape_last : (text name value last : List ℕ) → text ≡ name ++ 61 ∷ 34 ∷ (quoted value ++ 34 ∷ last) → IsUtf8 text → IsUtf8 last
shape_last text _ value last e u = cut_rest _ _ _ (omega arith) (inside_shape _ _ _ _ e u)

pub shape_shorter : (text name value last : List ℕ) → text ≡ name ++ 61 ∷ 34 ∷ (quoted value ++ 34 ∷ last) → length last < length text
shape_shorter _ name value last e = omega (arith, ap length e, length-append name (61 ∷ 34 ∷ (quoted value ++ 34 ∷ last)), length-append (quoted value) (34 ∷ last))
