-- What the writer puts, by its rows.
use Rattle.std.proofs.Common.{◌≡◌, ℕ, ◌+◌, ◌-◌, ◌*◌, ◌/◌, ◌%◌, ◌^◌, ◌<◌, Bool, true, false, List, ◌++◌, length, refl, sym, ap, subst, ◌∙◌, append_assoc, arith, ℤ, pos, bit_or, bit_and}
use Rattle.std.specs.Int.{cast_unsigned, w64}
use Rattle.std.specs.Ordering.{int_eq}
use Rattle.std.specs.Prelude.{FitsSigned}
use Rattle.std.proofs.lemmas.Int.{ints}
use Rattle.std.proofs.lemmas.Bool.{false_from_ne_true, eq-eqb, ne_eqb}
use Rattle.std.proofs.lemmas.Bool.Decides.{Decides-int_eq}
use Rattle.std.proofs.lemmas.Nat.{pow-add, shl_whole, or_shifted, mod_below, pow_pos, mul-le}
use Rattle.xor_chunks.specs.declared.encoding.WindowSetting.{WindowSetting}
use Rattle.xor_chunks.specs.declared.encoding.WindowSetting.TheVariants.{Unset, Set}
use Rattle.xor_chunks.specs.Window.{Window}
use Rattle.wire_bytes.specs.Bits.{bits_of}
use Rattle.xor_chunks.specs.Written.{fits_field, change_bits, reused, value_bits, window_after, window_around, trail}
use Rattle.wire_bytes.proofs.BitLists.{length-bits_of, bits_of-mod}
use Rattle.wire_bytes.proofs.Buffers.{bits_of-joined}
use Rattle.xor_chunks.proofs.Takes.{masked}

joined_below : (high count width low : ℕ) → high < 2 ^ count → low < 2 ^ width → high * 2 ^ width + low < 2 ^ (count + width)
joined_below high count width _ p q = omega (arith, pow-add 2 count width, mul-le (high + 1) (2 ^ width) (2 ^ count) (2 ^ width) (omega arith) (omega arith))

-- a field behind the bits of a code
pub code_field : (bits count width number : ℕ) → bits < 2 ^ count → count + width < 64
    → (bit_or (bits * 2 ^ width % 2 ^ 64) (bit_and number (1 * 2 ^ width % 2 ^ 64 - 1)) < 2 ^ (count + width))
    × (bits_of (count + width) (bit_or (bits * 2 ^ width % 2 ^ 64) (bit_and number (1 * 2 ^ width % 2 ^ 64 - 1))) ≡ bits_of count bits ++ bits_of width number)
code_field bits count width number lt room =
    let low = number % 2 ^ width in
    let low-lt = mod_below _ _ (pow_pos _) in
    let shifted : bits * 2 ^ width % 2 ^ 64 ≡ bits * 2 ^ width = shl_whole _ _ width 64 lt (omega arith) in
    let value : bit_or (bits * 2 ^ width % 2 ^ 64) (bit_and number (1 * 2 ^ width % 2 ^ 64 - 1)) ≡ bits * 2 ^ width + low =
    ap (λ w. bit_or w (bit_and number (1 * 2 ^ width % 2 ^ 64 - 1))) shifted ∙ ap (bit_or (bits * 2 ^ width)) (masked _ _ (omega arith)) ∙ or_shifted _ _ _ low-lt in
    let below = joined_below _ _ _ _ lt low-lt in
    (subst (λ v. v < 2 ^ (count + width)) (sym value) below, ap (bits_of (count + width)) value ∙ bits_of-joined _ _ _ _ low-lt ∙ ap (λ a. bits_of count bits ++ a) (bits_of-mod _ _))

pub code_room : (bits count width : ℕ) (code : List Bool) → bits_of count bits ≡ code → length code + width < 64 → count + width < 64
code_room bits count _ _ e room = omega (arith, ap length e, length-bits_of count bits)

-- ---- which row a change is put in

not_equal : (x y : ℤ) → (x ≡ y → ⊥) → int_eq x y ≡ false
not_equal x y ne = false_from_ne_true _ (λ t. ne ((Decides-int_eq x y).0 t))

zero_from : (z : ℤ) → FitsSigned w64 z → cast_unsigned w64 z ≡ 0 → z ≡ pos 0
zero_from z fits e = omega (arith, ints, e)

-- x is the change as the code hands it on
module _ (change x : ℤ) (fits : FitsSigned w64 change) (same : x ≡ change) where
  pub put_none : cast_unsigned w64 change ≡ 0 → bits_of 1 0 ++ bits_of 0 0 ≡ change_bits change
  unfolding change_bits bits_of
  put_none e = rw (zero_from change fits e) refl

  some : (cast_unsigned w64 change ≡ 0 → ⊥) → int_eq change (pos 0) ≡ false
  some ne = not_equal change (pos 0) (λ e. ne (ap (cast_unsigned w64) e))

  pub put_14 : (bits : ℕ) → (cast_unsigned w64 change ≡ 0 → ⊥) → fits_field 14 x ≡ true → bits ≡ cast_unsigned w64 x → bits_of 2 2 ++ bits_of 14 bits ≡ change_bits change
  unfolding change_bits bits_of
  put_14 bits ne a e = let a' = rw same at a in rw (some ne, a', e, same) refl

  pub put_17 : (bits : ℕ) → (cast_unsigned w64 change ≡ 0 → ⊥) → fits_field 14 x ≡ false → fits_field 17 x ≡ true → bits ≡ cast_unsigned w64 x → bits_of 3 6 ++ bits_of 17 bits ≡ change_bits change
  unfolding change_bits bits_of
  put_17 _ ne a b e = let a' = rw same at a in let b' = rw same at b in rw (some, a', b', e, same) refl

  pub put_20 : (bits : ℕ) → (cast_unsigned w64 change ≡ 0 → ⊥) → fits_field 14 x ≡ false → fits_field 17 x ≡ false → fits_field 20 x ≡ true → bits ≡ cast_unsigned w64 x → bits_of 4 14 ++ bits_of 20 bits ≡ change_bits change
  unfolding change_bits bits_of
  put_20 _ ne a b d e = let a' = rw same at a in let b' = rw same at b in let d' = rw same at d in rw (some, a', b', d', e, same) refl

  pub put_64 : (bits : ℕ) → (cast_unsigned w64 change ≡ 0 → ⊥) → fits_field 14 x ≡ false → fits_field 17 x ≡ false → fits_field 20 x ≡ false → bits ≡ cast_unsigned w64 x → bits_of 4 15 ++ bits_of 64 bits ≡ change_bits change
  unfolding change_bits bits_of
  put_64 _ ne a b d e = let a' = rw same at a in let b' = rw same at b in let d' = rw same at d in rw (some, a', b', d', e, same) refl

-- ---- values

pub put_one : (new old code middle part value : List Bool) → new ≡ old ++ middle → middle ≡ code ++ part → part ≡ value → new ≡ old ++ code ++ value
put_one _ old code _ _ value a b e = a ∙ ap (λ x. old ++ x) (b ∙ ap (λ x. code ++ x) e) ∙ sym (append_assoc old code value)

pub put_two : (new between old code middle part tail value : List Bool) → new ≡ between ++ tail → between ≡ old ++ middle → middle ≡ code ++ part → part ++ tail ≡ value → new ≡ old ++ code ++ value
put_two _ _ old code _ part tail _ n a b e =
    n ∙ ap (λ x. x ++ tail) (put_one _ _ _ _ _ _ a b refl) ∙ append_assoc (old ++ code) part tail ∙ ap (λ x. old ++ code ++ x) e

pub value_same : (window : WindowSetting) (change : ℕ) → change ≡ 0 → (bits_of 1 0 ≡ value_bits window change) × (window ≡ window_after window change)
unfolding value_bits window_after bits_of
value_same _ change e = (rw (eq-eqb change 0 e) refl, rw (eq-eqb change 0 e) refl)

pub value_within : (window : WindowSetting) (set : Window) (change : ℕ) → (change ≡ 0 → ⊥) → reused window change ≡ Set set
    → (bits_of 2 2 ++ bits_of set.width (change / 2 ^ trail set) ≡ value_bits window change) × (◌≡◌ {A = WindowSetting} (Set set) (window_after window change))
unfolding value_bits window_after bits_of
value_within _ _ change some e = (rw (ne_eqb change 0 some, e) refl, rw (ne_eqb change 0 some, e) refl)

pub value_opens : (window : WindowSetting) (set : Window) (change : ℕ) → (change ≡ 0 → ⊥) → reused window change ≡ Unset → set ≡ window_around change
    → (((bits_of 2 3 ++ bits_of 5 set.lead) ++ bits_of 6 set.width) ++ bits_of set.width (change / 2 ^ trail set) ≡ value_bits window change) × (◌≡◌ {A = WindowSetting} (Set set) (window_after window change))
unfolding value_bits window_after bits_of
value_opens _ _ change some e round = (rw (ne_eqb change 0 some, e, round) refl, rw (ne_eqb change 0 some, e, round) refl)

pub is_unset : (s : WindowSetting) → ((w : Window) → s ≡ Set w → ⊥) → s ≡ Unset
is_unset Unset h = refl
is_unset (Set w) h = absurd (h w refl)

pub opened_head : (code one two three a b d : List Bool) → one ≡ code ++ a → two ≡ one ++ b → three ≡ two ++ d → three ≡ code ++ ((a ++ b) ++ d)
opened_head code _ _ _ a b d e f g =
    g ∙ ap (λ x. x ++ d) (f ∙ ap (λ x. x ++ b) e) ∙ ap (λ x. x ++ d) (append_assoc code a b) ∙ append_assoc code (a ++ b) d
