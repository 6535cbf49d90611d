-- Taking bits in one piece or in two, and what the first bits tell.
use Rattle.std.proofs.Common.{◌≡◌, ℕ, zero, suc, ◌+◌, ◌-◌, ◌*◌, ◌/◌, ◌%◌, ◌^◌, ◌<◌, ◌≤◌, Bool, true, false, cond, List, [], ◌∷◌, ◌++◌, length, take, drop, Result, Ok, Err, refl, sym, ap, subst, ◌∙◌, append_assoc, arith, inl, inr, ◌⊎◌, length-append, ℤ, pos}
use Rattle.std.specs.Prelude.{replicate, FitsSigned, bit_and}
use Rattle.std.specs.Int.{cast_signed, cast_unsigned, w64}
use Rattle.std.proofs.lemmas.Bool.{lt-ltb, le-ltb, cases_lt}
use Rattle.std.proofs.lemmas.List.{take_at as take_first, drop_at, take-append-drop, take-append-le, length-take-le, replicate_more, take_all, length-replicate}
use Rattle.std.proofs.lemmas.Nat.{shr_below, mod_below, pow_pos, one_shl, and_mask}
use Rattle.std.proofs.lemmas.Int.{to_z-of_z}
use Rattle.std.proofs.Math.Nat.{mod-eq_of_lt}
use Rattle.base.specs.Reading.{◌>>=◌}
use Rattle.base.proofs.Binds.{err_is}
use Rattle.wire_bytes.specs.Fields.{field_value}
use Rattle.xor_chunks.specs.declared.refusal.XorRefusal.{XorRefusal}
use Rattle.xor_chunks.specs.declared.refusal.XorRefusal.TheVariants.{Short}
use Rattle.wire_bytes.specs.Bits.{bits_of, number_of}
use Rattle.wire_bytes.specs.Buffer.{front}
use Rattle.xor_chunks.specs.Steps.{Reads, take_at, field_at, field_behind, whole_field_at, change_at}
use Rattle.base.proofs.Bound.{OfValue, of_ok, of_err}
use Rattle.wire_bytes.proofs.BitLists.{length-bits_of, number_of-bits_of, number_of-lt, bits_of-number_of, bits_of-append, bits_of-mod}

-- ---- taking

pub take_again : (count n : ℕ) (after : List Bool) → n < 2 ^ count → take_at count (bits_of count n ++ after) ≡ Ok (n, after)
unfolding take_at
take_again count n after lt =
    let len = length-bits_of count n in
    rw (le-ltb (length (bits_of count n ++ after)) count (omega (arith, length-append (bits_of count n) after, len)), take_first (bits_of count n) after count len, drop_at (bits_of count n) after count len, number_of-bits_of count n, mod-eq_of_lt lt) refl

pub take_short : (count : ℕ) (bits : List Bool) → length bits < count → take_at count bits ≡ Err Short
unfolding take_at
take_short count bits lt = rw (lt-ltb (length bits) count lt) refl

-- what is taken stood in front
pub taken : (count : ℕ) (bits : List Bool) → OfValue (take_at count bits) (λ x. (bits ≡ bits_of count x.0 ++ x.1) × (x.0 < 2 ^ count))
unfolding take_at
taken count bits = elim (cases_lt (length bits) count) [
  | inl lt ↦ rw (lt-ltb (length bits) count lt) of_err
  | inr le ↦ rw (le-ltb (length bits) count le) (
      let len = length-take-le _ _ le in
      let same = ap (λ k. bits_of k (number_of (take count bits))) (sym len) ∙ bits_of-number_of _ in
      of_ok (sym (take-append-drop _ _) ∙ ap (λ a. a ++ drop count bits) (sym same), subst (λ k. number_of (take count bits) < 2 ^ k) len (number_of-lt _)))
]

pub take_found : (count : ℕ) (bits : List Bool) (n : ℕ) (after : List Bool) → take_at count bits ≡ Ok (n, after) → (bits ≡ bits_of count n ++ after) × (n < 2 ^ count)
take_found _ _ n after e = (taken _ _).holds (n, after) e

-- too few bits, or enough
pub take_cases : (count : ℕ) (bits : List Bool) → (take_at count bits ≡ Err Short) ⊎ ((n : ℕ) × (after : List Bool) × (n < 2 ^ count) × (bits ≡ bits_of count n ++ after))
take_cases count bits = elim (cases_lt (length bits) count) [
  | inl lt ↦ inl (take_short _ _ lt)
  | inr le ↦ inr (
      let len = length-take-le _ _ le in
      let same = sym (ap (λ k. bits_of k (number_of (take count bits))) (sym len) ∙ bits_of-number_of _) in
      (number_of (take count bits), drop count bits, subst (λ k. number_of (take count bits) < 2 ^ k) len (number_of-lt _), sym (take-append-drop _ _) ∙ ap (λ a. a ++ drop count bits) same))
]

enough_taken : (count : ℕ) (bits : List Bool) (e : XorRefusal) → count ≤ length bits → take_at count bits ≡ Err e → ⊥
unfolding take_at
enough_taken count bits e le h = let same = rw (le-ltb (length bits) count le) at h in cc

pub take_err : (count : ℕ) (bits : List Bool) (e : XorRefusal) → take_at count bits ≡ Err e → (e ≡ Short) × (length bits < count)
take_err count bits e h = elim (cases_lt (length bits) count) [
  | inl lt ↦ (sym (err_is {A = ℕ × List Bool} _ e (sym (take_short _ _ lt) ∙ h)), lt)
  | inr le ↦ absurd (enough_taken _ _ e le h)
]

-- a field behind known bits, from both in one piece
pub field_found : (known width both : ℕ) (bits after : List Bool) → take_at (known + width) bits ≡ Ok (both, after) → field_behind known width bits ≡ Ok (field_value width (both % 2 ^ width), after)
unfolding field_behind field_at
field_found known width both _ after e =
    let found = take_found _ _ _ _ e in
    let parts =
    found.0 ∙ ap (λ a. a ++ after) (bits_of-append _ _ _ ∙ ap (λ a. bits_of known (both / 2 ^ width) ++ a) (sym (bits_of-mod _ _))) ∙ append_assoc (bits_of known (both / 2 ^ width)) (bits_of width (both % 2 ^ width)) after in
    let first = ap (take_at known) parts ∙ take_again _ _ _ (shr_below _ _ _ found.1) in
    rw (first, take_again width (both % 2 ^ width) after (mod_below _ _ (pow_pos _))) refl

pub field_short : (known width : ℕ) (bits : List Bool) (e : XorRefusal) → take_at (known + width) bits ≡ Err e → field_behind known width bits ≡ Err e
unfolding field_behind field_at
field_short known width bits e h =
    let short = take_err _ _ e h in
    elim (take_cases known bits) [
      | inl no_known ↦ rw (no_known, short.0) refl
      | inr parts ↦
          let first : take_at known bits ≡ Ok (parts.0, parts.1) = ap (take_at known) parts.3 ∙ take_again _ _ _ parts.2 in
          let lacks : length parts.1 < width = omega (arith, ap length parts.3, length-append (bits_of known parts.0) parts.1, length-bits_of known parts.0) in
          rw (first, take_short width parts.1 lacks, short.0) refl
    ]

-- ---- the first bits

number_of-cons : (bit : Bool) (bits : List Bool) → number_of (bit ∷ bits) ≡ cond bit (2 ^ length bits) 0 + number_of bits
unfolding number_of
number_of-cons _ _ = refl

pub number_of-zeros : (n : ℕ) → number_of (replicate n false) ≡ 0
unfolding number_of
number_of-zeros zero = refl
number_of-zeros (suc n) = omega (arith, number_of-zeros n)

pub front-lt : (n : ℕ) (bits : List Bool) → front n bits < 2 ^ n
front-lt n bits =
    let enough : n ≤ length (bits ++ replicate n false) = omega (arith, length-append bits (replicate n false), length-replicate n false) in
    subst (λ k. front n bits < 2 ^ k) (length-take-le n _ enough) (number_of-lt _)

pub front-nil : (n : ℕ) → front n [] ≡ 0
front-nil n = ap number_of (take_all n (replicate n false) (omega (arith, length-replicate n false))) ∙ number_of-zeros n

pub front-cons : (n : ℕ) (bit : Bool) (bits : List Bool) → front (suc n) (bit ∷ bits) ≡ cond bit (2 ^ n) 0 + front n bits
front-cons n bit bits =
    let next : n + 1 ≡ suc n = omega arith in
    let zeros : replicate (suc n) false ≡ replicate n false ++ false ∷ [] = sym (replicate_more n _ ∙ ap (λ k. replicate k false) next) in
    let enough : n ≤ length (bits ++ replicate n false) = omega (arith, length-append bits (replicate n false), length-replicate n false) in
    let same : take n (bits ++ replicate (suc n) false) ≡ take n (bits ++ replicate n false) =
    ap (λ (a : List Bool). take n a) (ap (λ (a : List Bool). bits ++ a) zeros ∙ sym (append_assoc bits (replicate n false) (false ∷ []))) ∙ take-append-le n _ _ enough in
    number_of-cons _ _ ∙ ap (λ a. cond bit (2 ^ length a) 0 + number_of a) same ∙ ap (λ k. cond bit (2 ^ k) 0 + front n bits) (length-take-le n _ enough)

-- ---- which row a change stands in

pub no_change : (bits : List Bool) → front 1 bits ≡ 0 → change_at bits ≡ (take_at 1 bits >>= λ p. Ok (pos 0, p.1))
unfolding change_at take_at
no_change [] e = refl
no_change (false ∷ bits) e = rw (le-ltb (length (false ∷ bits)) 1 (omega arith)) refl
no_change (true ∷ bits) e = absurd (omega (arith, front-cons 0 true bits))

pub row_10 : (bits : List Bool) → front 2 bits ≡ 2 → change_at bits ≡ field_behind 2 14 bits
unfolding change_at take_at field_behind
row_10 [] e = refl
row_10 (true ∷ []) e = refl
row_10 (true ∷ false ∷ bits) e = rw (le-ltb (length (true ∷ false ∷ bits)) 2 (omega arith)) refl
row_10 (true ∷ true ∷ bits) e = absurd (omega (arith, front-cons 1 true (true ∷ bits), front-cons 0 true bits))
row_10 (false ∷ bits) e = absurd (omega (arith, front-cons 1 false bits, front-lt 1 bits))

pub row_110 : (bits : List Bool) → front 3 bits ≡ 6 → change_at bits ≡ field_behind 3 17 bits
unfolding change_at take_at field_behind
row_110 [] e = refl
row_110 (true ∷ []) e = refl
row_110 (true ∷ true ∷ []) e = refl
row_110 (true ∷ true ∷ false ∷ bits) e = rw (le-ltb (length (true ∷ true ∷ false ∷ bits)) 3 (omega arith)) refl
row_110 (true ∷ true ∷ true ∷ bits) e = absurd (omega (arith, front-cons 2 true (true ∷ true ∷ bits), front-cons 1 true (true ∷ bits), front-cons 0 true bits))
row_110 (true ∷ false ∷ bits) e = absurd (omega (arith, front-cons 2 true (false ∷ bits), front-cons 1 false bits, front-lt 1 bits))
row_110 (false ∷ bits) e = absurd (omega (arith, front-cons 2 false bits, front-lt 2 bits))

pub row_1110 : (bits : List Bool) → front 4 bits ≡ 14 → change_at bits ≡ field_behind 4 20 bits
unfolding change_at take_at field_behind
row_1110 [] e = refl
row_1110 (true ∷ []) e = refl
row_1110 (true ∷ true ∷ []) e = refl
row_1110 (true ∷ true ∷ true ∷ []) e = refl
row_1110 (true ∷ true ∷ true ∷ false ∷ bits) e = rw (le-ltb (length (true ∷ true ∷ true ∷ false ∷ bits)) 4 (omega arith)) refl
row_1110 (true ∷ true ∷ true ∷ true ∷ bits) e = absurd (omega (arith, e, front-cons 3 true (true ∷ true ∷ true ∷ bits), front-cons 2 true (true ∷ true ∷ bits), front-cons 1 true (true ∷ bits), front-cons 0 true bits))
row_1110 (true ∷ true ∷ false ∷ bits) e = absurd (omega (arith, front-cons 3 true (true ∷ false ∷ bits), front-cons 2 true (false ∷ bits), front-cons 1 false bits, front-lt 1 bits))
row_1110 (true ∷ false ∷ bits) e = absurd (omega (arith, front-cons 3 true (false ∷ bits), front-cons 2 false bits, front-lt 2 bits))
row_1110 (false ∷ bits) e = absurd (omega (arith, front-cons 3 false bits, front-lt 3 bits))

pub row_1111 : (bits : List Bool) → front 4 bits ≡ 15 → change_at bits ≡ (take_at 4 bits >>= λ p. whole_field_at p.1)
unfolding change_at take_at
row_1111 [] e = refl
row_1111 (true ∷ []) e = refl
row_1111 (true ∷ true ∷ []) e = refl
row_1111 (true ∷ true ∷ true ∷ []) e = refl
row_1111 (true ∷ true ∷ true ∷ true ∷ bits) e = rw (le-ltb (length (true ∷ true ∷ true ∷ true ∷ bits)) 4 (omega arith)) refl
row_1111 (true ∷ true ∷ true ∷ false ∷ bits) e = absurd (omega (arith, e, front-cons 3 true (true ∷ true ∷ false ∷ bits), front-cons 2 true (true ∷ false ∷ bits), front-cons 1 true (false ∷ bits), front-cons 0 false bits, front-lt 0 bits))
row_1111 (true ∷ true ∷ false ∷ bits) e = absurd (omega (arith, front-cons 3 true (true ∷ false ∷ bits), front-cons 2 true (false ∷ bits), front-cons 1 false bits, front-lt 1 bits))
row_1111 (true ∷ false ∷ bits) e = absurd (omega (arith, front-cons 3 true (false ∷ bits), front-cons 2 false bits, front-lt 2 bits))
row_1111 (false ∷ bits) e = absurd (omega (arith, front-cons 3 false bits, front-lt 3 bits))

-- the low bits, as the code masks them
pub masked : (n width : ℕ) → width < 64 → bit_and n (1 * 2 ^ width % 2 ^ 64 - 1) ≡ n % 2 ^ width
masked n _ lt = ap (λ m. bit_and n (m - 1)) (one_shl _ _ lt) ∙ and_mask n _

-- a signed number as the code gives it
pub cast_is : (z v : ℤ) (after : List Bool) → FitsSigned w64 z → z ≡ v → ◌≡◌ {A = Result (ℤ × List Bool) XorRefusal} (Ok (v, after)) (Ok (cast_signed w64 (cast_unsigned w64 z), after))
cast_is z v after fits e = ap (λ w. Ok (w, after)) (sym e ∙ sym (to_z-of_z w64 z fits))

-- ---- the same, for bits that were taken

pub row_1111_found : (bits middle after : List Bool) (n field : ℕ) → front 4 bits ≡ 15 → take_at 4 bits ≡ Ok (n, middle) → take_at 64 middle ≡ Ok (field, after) → change_at bits ≡ Ok (cast_signed w64 field, after)
unfolding whole_field_at
row_1111_found _ _ _ n _ e h k = row_1111 _ e ∙ rw (h, k) refl

pub row_1111_known_short : (bits : List Bool) (e : XorRefusal) → front 4 bits ≡ 15 → take_at 4 bits ≡ Err e → change_at bits ≡ Err e
row_1111_known_short _ _ e h = row_1111 _ e ∙ rw h refl

pub row_1111_short : (bits middle : List Bool) (n : ℕ) (e : XorRefusal) → front 4 bits ≡ 15 → take_at 4 bits ≡ Ok (n, middle) → take_at 64 middle ≡ Err e → change_at bits ≡ Err e
unfolding whole_field_at
row_1111_short _ _ n _ e h k = row_1111 _ e ∙ rw (h, k) refl

-- what a call read is what was to be read
pub reads_same : {X Y : Type 0} (view : X → Y) (after : List Bool) (result : Result X XorRefusal) (read wanted : Result (Y × List Bool) XorRefusal) → Reads view after result read → read ≡ wanted → Reads view after result wanted
reads_same {Y = Y} view after result _ _ h e = subst (λ r. Reads view after result r) e h
