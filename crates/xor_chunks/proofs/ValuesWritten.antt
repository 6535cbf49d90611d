-- What the writer puts for a step and for a value is in the grammar.
use Rattle.std.proofs.Common.{◌≡◌, ℕ, suc, ◌+◌, ◌-◌, ◌*◌, ◌/◌, ◌%◌, ◌^◌, ◌<◌, ◌≤◌, Bool, true, false, cond, List, [], ◌∷◌, ◌++◌, refl, sym, ap, subst, ◌∙◌, arith, inl, inr, ℤ, pos, negsuc}
use Rattle.std.specs.Prelude.{bit_xor, nat_le, FitsSigned}
use Rattle.std.specs.Int.{cast_unsigned, w64, leading_zeros, trailing_zeros}
use Rattle.std.specs.Int.Bits.{xor_self, xor_assoc, xor_zero_l, xor_zero_r}
use Rattle.std.specs.Ordering.{int_eq}
use Rattle.std.proofs.lemmas.Bool.{and_parts, leb-true, ltb-true, cases_eq, eq-eqb, ne_eqb}
use Rattle.std.proofs.lemmas.Bool.Decides.{Decides-int_eq}
use Rattle.std.proofs.lemmas.Int.{ints, to_z-of_z}
use Rattle.std.proofs.lemmas.Nat.{xor_lt, shr_below, mod_below, pow_pos}
use Rattle.xor_chunks.specs.declared.encoding.WindowSetting.{WindowSetting}
use Rattle.xor_chunks.specs.declared.encoding.WindowSetting.TheVariants.{Unset, Set}
use Rattle.wire_bytes.specs.Bits.{bits_of}
use Rattle.xor_chunks.specs.Window.{Window, whole, IsInside}
use Rattle.xor_chunks.specs.Written.{fits_field, change_bits, trail, window_around, is_around, in_window, reused, coded, kept, value_bits, window_after}
use Rattle.xor_chunks.specs.Grammar.{StandsFor, IsRow, IsChange, unchanged, row_14, row_17, row_20, row_64, IsInWindow, IsValue, same_pattern, in_window as within_window, opens}
use Rattle.wire_bytes.proofs.BitLists.{bits_of-mod}
use Rattle.xor_chunks.proofs.Zeros.{trailing_low, leading_below, counts_apart}

-- the window that a reader has where the writer has set this one or none
abbrev pub seen : WindowSetting → Window
seen Unset = whole
seen (Set w) = w

xor_back : (a b : ℕ) → bit_xor a (bit_xor a b) ≡ b
xor_back a b = sym (xor_assoc a a b) ∙ ap (λ x. bit_xor x b) (xor_self a) ∙ xor_zero_l b

no_change : (a b : ℕ) → bit_xor a b ≡ 0 → b ≡ a
no_change a b e = sym (xor_back a b) ∙ ap (bit_xor a) e ∙ xor_zero_r a

-- ---- values

-- a window that leaves no bit of the change out
record IsAround (w : Window) (change : ℕ) : Type 0 where
  inside : IsInside w
  lead : w.lead ≤ leading_zeros w64 change
  trail : trail w ≤ trailing_zeros w64 change

within_written : (w : Window) (before pattern : ℕ) → before < 2 ^ 64 → pattern < 2 ^ 64 → (bit_xor before pattern ≡ 0 → ⊥) → IsAround w (bit_xor before pattern) → IsInWindow w before (in_window w (bit_xor before pattern)) pattern
within_written w before pattern b p some h =
    let change = bit_xor before pattern in
    let below = xor_lt 64 _ _ b p in
    let inside = h.inside in
    let shifted : 64 - w.lead ≡ w.width + trail w = omega arith in
    let short = subst (λ k. change < 2 ^ k) shifted (leading_below _ _ below h.lead) in
    let low = trailing_low _ _ (omega arith) below h.trail in
    let back : change / 2 ^ trail w * 2 ^ trail w ≡ change = omega arith in
    record {
      field = change / 2 ^ trail w;
      fits = shr_below change w.width (trail w) short;
      text = refl;
      value = sym (ap (bit_xor before) back ∙ xor_back before pattern);
      inside = h.inside;
    }

around_is : (change : ℕ) → change < 2 ^ 64 → (change ≡ 0 → ⊥) → IsAround (window_around change) change × ((window_around change).lead < 32) × (0 < (window_around change).width)
around_is _ below some =
    let apart = counts_apart _ (omega arith) below in
    (record { inside = omega arith; lead = omega arith; trail = omega arith }, omega arith, omega arith)

opens_written : (window : Window) (before pattern : ℕ) → before < 2 ^ 64 → pattern < 2 ^ 64 → (bit_xor before pattern ≡ 0 → ⊥) → IsValue window before (coded Unset (bit_xor before pattern)) pattern (window_around (bit_xor before pattern))
opens_written window before pattern b p some =
    let change = bit_xor before pattern in
    let round = around_is _ (xor_lt 64 _ _ b p) some in
    opens _ refl (record {
      lead = round.1;
      some = round.2;
      few = omega arith;
      within = in_window (window_around change) change;
      text = refl;
      field = within_written _ _ _ b p some round.0;
    })

-- a window that was set lies within a pattern
abbrev pub IsSeen : WindowSetting → Type 0
IsSeen Unset = Unit {0}
IsSeen (Set w) = IsInside w

set_written : (w : Window) (before pattern : ℕ) (round : Bool) → is_around w (bit_xor before pattern) ≡ round → IsInside w → before < 2 ^ 64 → pattern < 2 ^ 64 → (bit_xor before pattern ≡ 0 → ⊥)
    → IsValue w before (coded (cond round (Set w) Unset) (bit_xor before pattern)) pattern (seen (kept (cond round (Set w) Unset) (bit_xor before pattern)))
set_written w before pattern true e inside b p some =
    let change = bit_xor before pattern in
    let both = and_parts (nat_le w.lead (leading_zeros w64 change)) (nat_le (trail w) (trailing_zeros w64 change)) e in
    within_window (in_window w change) refl refl (within_written w _ _ b p some (record { inside = inside; lead = leb-true _ _ both.0; trail = leb-true _ _ both.1 }))
set_written w before _ false e inside b p some = opens_written w _ _ b p some

change_written : (set : WindowSetting) (before pattern : ℕ) → IsSeen set → before < 2 ^ 64 → pattern < 2 ^ 64 → (bit_xor before pattern ≡ 0 → ⊥) → IsValue (seen set) before (coded (reused set (bit_xor before pattern)) (bit_xor before pattern)) pattern (seen (kept (reused set (bit_xor before pattern)) (bit_xor before pattern)))
change_written Unset _ _ h b p some = opens_written _ _ _ b p some
change_written (Set w) _ _ h b p some = set_written w _ _ _ refl h b p some

pub value_written : (set : WindowSetting) (before pattern : ℕ) → IsSeen set → before < 2 ^ 64 → pattern < 2 ^ 64 → IsValue (seen set) before (value_bits set (bit_xor before pattern)) pattern (seen (window_after set (bit_xor before pattern)))
unfolding value_bits window_after
value_written _ before pattern h b p =
    elim (cases_eq _ 0) [
      | inl none ↦ rw (eq-eqb (bit_xor before pattern) 0 none) (same_pattern refl (no_change _ _ none) refl)
      | inr some ↦ rw (ne_eqb (bit_xor before pattern) 0 some) (change_written _ _ _ h b p some)
    ]

kept_of : (w : Window) (before pattern : ℕ) (round : Bool) → IsInside w → before < 2 ^ 64 → pattern < 2 ^ 64 → (bit_xor before pattern ≡ 0 → ⊥) → IsSeen (kept (cond round (Set w) Unset) (bit_xor before pattern))
kept_of w _ _ true h b p some = h
kept_of w _ _ false h b p some = (around_is _ (xor_lt 64 _ _ b p) some).0.inside

kept_after : (set : WindowSetting) (before pattern : ℕ) → IsSeen set → before < 2 ^ 64 → pattern < 2 ^ 64 → (bit_xor before pattern ≡ 0 → ⊥) → IsSeen (kept (reused set (bit_xor before pattern)) (bit_xor before pattern))
kept_after Unset before pattern h b p some = (around_is (bit_xor before pattern) (xor_lt 64 _ _ b p) some).0.inside
kept_after (Set w) _ _ h b p some = kept_of w _ _ _ h b p some

pub kept_seen : (set : WindowSetting) (before pattern : ℕ) → IsSeen set → before < 2 ^ 64 → pattern < 2 ^ 64 → IsSeen (window_after set (bit_xor before pattern))
unfolding window_after
kept_seen set before pattern h b p =
    elim (cases_eq _ 0) [
      | inl none ↦ rw (eq-eqb (bit_xor before pattern) 0 none) h
      | inr some ↦ rw (ne_eqb (bit_xor before pattern) 0 some) (kept_after _ _ _ h b p some)
    ]

-- ---- steps

row_is : (width : ℕ) (front : List Bool) (n : ℕ) (z : ℤ) → StandsFor width (n % 2 ^ width) z → IsRow front width (front ++ bits_of width n) z
row_is width front n z h = record { field = n % 2 ^ width; fits = mod_below n _ (pow_pos _); text = ap (λ a. front ++ a) (sym (bits_of-mod _ n)); value = h }

fits_14 : (z : ℤ) → fits_field 14 z ≡ true → StandsFor 14 (cast_unsigned w64 z % 2 ^ 14) z
fits_14 (pos n) e = let le = leb-true n 8192 e in inl (omega (arith, ints, le), omega (arith, ints, le))
fits_14 (negsuc n) e = let lt = ltb-true (suc n) 8192 e in inr (omega (arith, ints, lt), omega (arith, ints, lt))

fits_17 : (z : ℤ) → fits_field 17 z ≡ true → StandsFor 17 (cast_unsigned w64 z % 2 ^ 17) z
fits_17 (pos n) e = let le = leb-true n 65536 e in inl (omega (arith, ints, le), omega (arith, ints, le))
fits_17 (negsuc n) e = let lt = ltb-true (suc n) 65536 e in inr (omega (arith, ints, lt), omega (arith, ints, lt))

fits_20 : (z : ℤ) → fits_field 20 z ≡ true → StandsFor 20 (cast_unsigned w64 z % 2 ^ 20) z
fits_20 (pos n) e = let le = leb-true n 524288 e in inl (omega (arith, ints, le), omega (arith, ints, le))
fits_20 (negsuc n) e = let lt = ltb-true (suc n) 524288 e in inr (omega (arith, ints, lt), omega (arith, ints, lt))

cast_below : (z : ℤ) → FitsSigned w64 z → cast_unsigned w64 z < 2 ^ 64
cast_below (pos n) fits = omega arith
cast_below (negsuc n) fits = omega arith

rows : (z : ℤ) (none a b d : Bool) → FitsSigned w64 z → int_eq z (pos 0) ≡ none → fits_field 14 z ≡ a → fits_field 17 z ≡ b → fits_field 20 z ≡ d
    → IsChange (cond none (false ∷ []) (cond a (true ∷ false ∷ bits_of 14 (cast_unsigned w64 z)) (cond b (true ∷ true ∷ false ∷ bits_of 17 (cast_unsigned w64 z)) (cond d (true ∷ true ∷ true ∷ false ∷ bits_of 20 (cast_unsigned w64 z)) (true ∷ true ∷ true ∷ true ∷ bits_of 64 (cast_unsigned w64 z)))))) z
rows z true a b d fits e f g h = unchanged refl ((Decides-int_eq z (pos 0)).0 e)
rows z false true b d fits e f g h = row_14 (row_is _ _ _ z (fits_14 z f))
rows z false false true d fits e f g h = row_17 (row_is _ _ _ z (fits_17 z g))
rows z false false false true fits e f g h = row_20 (row_is _ _ _ z (fits_20 z h))
rows z false false false false fits e f g h = row_64 (record { field = cast_unsigned w64 z; fits = cast_below z fits; text = refl; value = sym (to_z-of_z w64 z fits) })

pub step_written : (z : ℤ) → FitsSigned w64 z → IsChange (change_bits z) z
unfolding change_bits
step_written z fits = rows z _ _ _ _ fits refl refl refl refl
