-- The bits of a step and of a value: what is read is in the grammar, and what is in the grammar is read.
use Rattle.std.proofs.Common.{◌≡◌, ℕ, zero, suc, ◌-◌, ◌^◌, ◌<◌, ◌≤◌, Bool, true, false, List, [], ◌∷◌, ◌++◌, Ok, refl, sym, ap, subst, ◌∙◌, append_assoc, arith, inl, inr, ℤ}
use Rattle.std.specs.Int.{cast_signed, w64}
use Rattle.std.specs.Prelude.{Result}
use Rattle.std.proofs.lemmas.Bool.{lt-ltb, le-ltb, cases_lt}
use Rattle.wire_bytes.specs.Fields.{field_value}
use Rattle.xor_chunks.specs.declared.refusal.XorRefusal.{XorRefusal}
use Rattle.wire_bytes.specs.Bits.{bits_of}
use Rattle.xor_chunks.specs.Steps.{field_at, whole_field_at, change_at, value_at, within_at, opened_at}
use Rattle.xor_chunks.specs.Window.{Window, width_of, IsInside}
use Rattle.xor_chunks.specs.Grammar.{StandsFor, IsRow, IsLongRow, IsChange, unchanged, row_14, row_17, row_20, row_64, IsInWindow, IsOpened, IsValue, same_pattern, in_window, opens}
use Rattle.xor_chunks.proofs.Takes.{take_again, taken}
use Rattle.base.proofs.Bound.{OfValue, of_ok, of_err, of_weaker, of_bind}
use Rattle.wire_bytes.proofs.BitLists.{bits_of-high}

-- The bits begin with a text of the value, and these are left after it.
pub record HasText {V : Type 0} (IsText : List Bool → V → Type 0) (bits : List Bool) (value : V) (after : List Bool) : Type 0 where
  pub text : List Bool
  pub is : IsText text value
  pub whole : bits ≡ text ++ after

-- What a reading function gives of the bits, it gives of their front.
abbrev pub Finds : {V : Type 0} → (List Bool → V → Type 0) → List Bool → Result (V × List Bool) XorRefusal → Type 0
Finds IsText bits read = OfValue read (λ x. HasText IsText bits x.0 x.1)

stands : (width field : ℕ) → StandsFor width field (field_value width field)
stands width field =
    elim (cases_lt (2 ^ (width - 1)) field) [
      | inl lt ↦ rw (lt-ltb (2 ^ (width - 1)) field lt) (inr (lt, refl))
      | inr le ↦ rw (le-ltb (2 ^ (width - 1)) field le) (inl (le, refl))
    ]

stood_for : (width field : ℕ) (z : ℤ) → StandsFor width field z → field_value width field ≡ z
stood_for width field z (inl h) = rw (le-ltb (2 ^ (width - 1)) field h.0) (sym h.1)
stood_for width field z (inr h) = rw (lt-ltb (2 ^ (width - 1)) field h.0) (sym h.1)

row_found : (front : List Bool) (width : ℕ) (bits : List Bool) → Finds (IsRow front width) (front ++ bits) (field_at width bits)
unfolding field_at
row_found front width _ =
    of_bind _ (taken _ _) (λ f t. of_ok (record {
      text = front ++ bits_of width f.0;
      is = record { field = f.0; fits = t.1; text = refl; value = stands _ _ };
      whole = ap (λ a. front ++ a) t.0 ∙ sym (append_assoc front (bits_of width f.0) f.1);
    }))

row_again : (width field : ℕ) (z : ℤ) (after : List Bool) → field < 2 ^ width → StandsFor width field z → field_at width (bits_of width field ++ after) ≡ Ok (z, after)
unfolding field_at
row_again width field z after fits stand = rw (take_again width field after fits) (ap (λ y. Ok (y, after)) (stood_for _ _ z stand))

long_found : (front bits : List Bool) → Finds (IsLongRow front) (front ++ bits) (whole_field_at bits)
unfolding whole_field_at
long_found front _ =
    of_bind _ (taken _ _) (λ f t. of_ok (record {
      text = front ++ bits_of 64 f.0;
      is = record { field = f.0; fits = t.1; text = refl; value = refl };
      whole = ap (λ a. front ++ a) t.0 ∙ sym (append_assoc front (bits_of 64 f.0) f.1);
    }))

long_again : (field : ℕ) (z : ℤ) (after : List Bool) → field < 2 ^ 64 → z ≡ cast_signed w64 field → whole_field_at (bits_of 64 field ++ after) ≡ Ok (z, after)
unfolding whole_field_at
long_again field z after fits value = rw (take_again 64 field after fits) (ap (λ y. Ok (y, after)) (sym value))

-- ---- steps

as_change : (IsOne : List Bool → ℤ → Type 0) (bits : List Bool) (read : Result (ℤ × List Bool) XorRefusal) → ((text : List Bool) (z : ℤ) → IsOne text z → IsChange text z) → Finds IsOne bits read → Finds IsChange bits read
as_change IsOne _ _ f h = of_weaker (λ x t. record { text = t.text; is = f t.text x.0 t.is; whole = t.whole }) h

pub change_found : (bits : List Bool) → Finds IsChange bits (change_at bits)
unfolding change_at
change_found [] = of_err
change_found (false ∷ bits) = of_ok (record { text = false ∷ []; is = unchanged refl refl; whole = refl })
change_found (true ∷ []) = of_err
change_found (true ∷ false ∷ bits) = as_change _ _ _ (λ text z is. row_14 is) (row_found _ _ _)
change_found (true ∷ true ∷ []) = of_err
change_found (true ∷ true ∷ false ∷ bits) = as_change _ _ _ (λ text z is. row_17 is) (row_found _ _ _)
change_found (true ∷ true ∷ true ∷ []) = of_err
change_found (true ∷ true ∷ true ∷ false ∷ bits) = as_change _ _ _ (λ text z is. row_20 is) (row_found _ _ _)
change_found (true ∷ true ∷ true ∷ true ∷ bits) = as_change _ _ _ (λ text z is. row_64 is) (long_found _ _)

pub change_again : (text : List Bool) (z : ℤ) (after : List Bool) → IsChange text z → change_at (text ++ after) ≡ Ok (z, after)
unfolding change_at
change_again _ z _ (unchanged e v) = rw (e, v) refl
change_again text z _ (row_14 r) = rw r.text (row_again _ _ z _ r.fits r.value)
change_again text z _ (row_17 r) = rw r.text (row_again _ _ z _ r.fits r.value)
change_again text z _ (row_20 r) = rw r.text (row_again _ _ z _ r.fits r.value)
change_again text z _ (row_64 r) = rw r.text (long_again _ z _ r.fits r.value)

-- ---- values

within_found : (window : Window) (before : ℕ) (bits : List Bool) → Finds (λ text x. (x.1 ≡ window) × (IsInside window → IsInWindow window before text x.0)) bits (within_at before window bits)
unfolding within_at
within_found window _ _ =
    of_bind _ (taken _ _) (λ f t. of_ok (record {
      text = bits_of window.width f.0;
      is = (refl, λ inside. record { field = f.0; fits = t.1; text = refl; value = refl; inside = inside });
      whole = t.0;
    }))

within_again : (window : Window) (before : ℕ) (text : List Bool) (pattern : ℕ) (after : List Bool) → IsInWindow window before text pattern → within_at before window (text ++ after) ≡ Ok ((pattern, window), after)
unfolding within_at
within_again window _ text _ after h = rw (h.text, take_again window.width h.field after h.fits, h.value) refl

-- six bits of a width
width_text : (w : ℕ) → bits_of 6 (width_of w) ≡ bits_of 6 w
width_text zero = bits_of-high 6 6 1 0 (omega arith)
width_text (suc w) = refl

width_low : (v : ℕ) → 0 < v → v ≤ 64 → (w : ℕ) × (w < 2 ^ 6) × (width_of w ≡ v)
width_low zero some few = absurd (omega arith)
width_low (suc v) some few =
    elim (cases_lt (suc v) 64) [
      | inl lt ↦ (suc v, lt, refl)
      | inr le ↦ (0, omega arith, omega arith)
    ]

width_some : (w : ℕ) → w < 2 ^ 6 → (0 < width_of w) × (width_of w ≤ 64)
width_some zero lt = (omega arith, omega arith)
width_some (suc w) lt = (omega arith, omega arith)

three_parts : (bits a b c d more others after : List Bool) → bits ≡ a ++ more → more ≡ c ++ others → others ≡ d ++ after → b ≡ c → bits ≡ (a ++ b ++ d) ++ after
three_parts _ a b c d _ others after p q r e =
    p ∙ ap (λ x. a ++ x) (q ∙ ap (λ x. x ++ others) (sym e) ∙ ap (λ x. b ++ x) r)
    ∙ sym (append_assoc a b (d ++ after)) ∙ sym (append_assoc (a ++ b) d after)

opened_found : (before : ℕ) (bits : List Bool) → Finds (λ text x. IsInside x.1 → IsOpened before text x.0 x.1) bits (opened_at before bits)
unfolding opened_at
opened_found _ _ =
    of_bind _ (taken 5 _) (λ lead l. of_bind _ (taken 6 _) (λ width w. of_bind _ (taken _ _) (λ f t. of_ok (record {
      text = bits_of 5 lead.0 ++ bits_of 6 (width_of width.0) ++ bits_of (width_of width.0) f.0;
      is = λ inside. record {
        lead = l.1;
        some = (width_some _ w.1).0;
        few = (width_some _ w.1).1;
        within = bits_of (width_of width.0) f.0;
        text = refl;
        field = record { field = f.0; fits = t.1; text = refl; value = refl; inside = inside };
      };
      whole = three_parts _ _ _ _ _ _ _ _ l.0 w.0 t.0 (width_text _);
    }))))

opened_again : (before : ℕ) (text : List Bool) (pattern : ℕ) (window : Window) (after : List Bool) → IsOpened before text pattern window → opened_at before (text ++ after) ≡ Ok ((pattern, window), after)
unfolding opened_at within_at
opened_again before text pattern window after h =
    let w = width_low _ h.some h.few in
    let told : Window = record { lead = window.lead; width = width_of w.0 } in
    let same = ap (λ n. record { lead = window.lead; width = n }) w.2 in
    let width = ap (bits_of 6) (sym w.2) ∙ width_text _ in
    let parts =
    ap (λ x. x ++ after) h.text ∙ append_assoc (bits_of 5 window.lead ++ bits_of 6 window.width) h.within after ∙ append_assoc (bits_of 5 window.lead) (bits_of 6 window.width) (h.within ++ after)
    ∙ ap (λ x. bits_of 5 window.lead ++ (x ++ (h.within ++ after))) width in
    let field =
    within_again _ _ _ _ _ (subst (λ (v : Window). IsInWindow v before h.within pattern) (sym same) h.field) ∙ ap (λ (v : Window). Ok ((pattern, v), after)) same in
    rw (parts, take_again 5 window.lead (bits_of 6 w.0 ++ (h.within ++ after)) h.lead, take_again 6 w.0 (h.within ++ after) w.1) field

pub value_found : (window : Window) (before : ℕ) (bits : List Bool) → Finds (λ text x. IsInside x.1 → IsValue window before text x.0 x.1) bits (value_at before window bits)
unfolding value_at
value_found _ _ [] = of_err
value_found _ _ (false ∷ bits) = of_ok (record { text = false ∷ []; is = λ _. same_pattern refl refl refl; whole = refl })
value_found _ _ (true ∷ []) = of_err
value_found _ _ (true ∷ false ∷ bits) =
    of_weaker (λ x h. record {
      text = true ∷ false ∷ h.text;
      is = λ inside. in_window h.text refl h.is.0 (h.is.1 (subst IsInside h.is.0 inside));
      whole = ap (λ a. true ∷ false ∷ a) h.whole;
    }) (within_found _ _ _)
value_found _ _ (true ∷ true ∷ bits) =
    of_weaker (λ x h. record {
      text = true ∷ true ∷ h.text;
      is = λ inside. opens h.text refl (h.is inside);
      whole = ap (λ a. true ∷ true ∷ a) h.whole;
    }) (opened_found _ _)

pub value_again : (window : Window) (before : ℕ) (text : List Bool) (pattern : ℕ) (next : Window) (after : List Bool) → IsValue window before text pattern next → value_at before window (text ++ after) ≡ Ok ((pattern, next), after)
unfolding value_at
value_again _ _ _ _ _ _ (same_pattern e p w) = rw (e, p, w) refl
value_again _ _ _ _ _ _ (in_window within e w h) = rw (e, w) (within_again _ _ _ _ _ h)
value_again _ _ _ _ _ _ (opens opened e h) = rw e (opened_again _ _ _ _ _ h)

pub value_inside : (window : Window) (before : ℕ) (text : List Bool) (pattern : ℕ) (next : Window) → IsInside window → IsValue window before text pattern next → IsInside next
value_inside _ _ _ _ _ inside (same_pattern e p w) = subst IsInside (sym w) inside
value_inside _ _ _ _ _ inside (in_window within e w h) = subst IsInside (sym w) inside
value_inside _ _ _ _ _ inside (opens opened e h) = h.field.inside
