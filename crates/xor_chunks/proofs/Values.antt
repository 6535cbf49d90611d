-- The bits of a value: the same again, a field in the window that is set, or a field in a new one.
use Rattle.std.proofs.Common.{◌≡◌, ℕ, ◌+◌, ◌/◌, ◌%◌, ◌^◌, ◌<◌, Bool, true, false, List, [], ◌∷◌, ◌++◌, length, Ok, Err, refl, sym, ap, ◌∙◌, append_assoc, arith, inl, inr, ◌⊎◌, length-append}
use Rattle.std.proofs.lemmas.Bool.{le-ltb}
use Rattle.std.proofs.lemmas.Nat.{shr_below, mod_below, pow_pos}
use Rattle.base.specs.Reading.{◌>>=◌}
use Rattle.xor_chunks.specs.declared.refusal.XorRefusal.{XorRefusal}
use Rattle.wire_bytes.specs.Bits.{bits_of}
use Rattle.wire_bytes.specs.Buffer.{front}
use Rattle.xor_chunks.specs.Steps.{take_at, value_at, within_at, opened_at}
use Rattle.xor_chunks.specs.Window.{Window, told_by}
use Rattle.wire_bytes.proofs.BitLists.{length-bits_of, bits_of-append, bits_of-mod}
use Rattle.xor_chunks.proofs.Takes.{take_again, take_found, take_short, take_cases, take_err, front-cons, front-lt}

-- two pieces that are taken at once
pub take_split : (j k n : ℕ) (bits after : List Bool) → take_at (j + k) bits ≡ Ok (n, after) → (take_at j bits ≡ Ok (n / 2 ^ k, bits_of k n ++ after)) × (take_at k (bits_of k n ++ after) ≡ Ok (n % 2 ^ k, after))
take_split j k n _ after e =
    let found = take_found _ _ n _ e in
    let parts = found.0 ∙ ap (λ a. a ++ after) (bits_of-append j k n) ∙ append_assoc (bits_of j (n / 2 ^ k)) (bits_of k n) after in (
      ap (take_at j) parts ∙ take_again j _ _ (shr_below n j k found.1),
      ap (λ a. take_at k (a ++ after)) (sym (bits_of-mod k n)) ∙ take_again k _ _ (mod_below n _ (pow_pos k)),
    )

pub take_split_short : (j k : ℕ) (bits : List Bool) (e : XorRefusal) → take_at (j + k) bits ≡ Err e → (take_at j bits ≡ Err e) ⊎ ((n : ℕ) × (middle : List Bool) × (take_at j bits ≡ Ok (n, middle)) × (take_at k middle ≡ Err e))
take_split_short j k bits e h =
    let short = take_err _ _ e h in
    elim (take_cases j _) [
      | inl lacks ↦ inl (lacks ∙ ap (λ (d : XorRefusal). Err d) (sym short.0))
      | inr parts ↦
          let lacks : length parts.1 < k = omega (arith, ap length parts.3, length-append (bits_of j parts.0) parts.1, length-bits_of j parts.0) in
          inr (parts.0, parts.1, ap (take_at j) parts.3 ∙ take_again j _ _ parts.2, take_short k _ lacks ∙ ap (λ d. Err d) (sym short.0))
    ]

-- ---- by the first bits

pub value_same : (pattern : ℕ) (window : Window) (bits : List Bool) → front 1 bits ≡ 0 → value_at pattern window bits ≡ (take_at 1 bits >>= λ b. Ok ((pattern, window), b.1))
unfolding value_at take_at
value_same _ _ [] e = refl
value_same _ _ (false ∷ bits) e = rw (le-ltb (length (false ∷ bits)) 1 (omega arith)) refl
value_same _ _ (true ∷ bits) e = absurd (omega (arith, front-cons 0 true bits))

pub value_10 : (pattern : ℕ) (window : Window) (bits : List Bool) → front 2 bits ≡ 2 → value_at pattern window bits ≡ (take_at 2 bits >>= λ b. within_at pattern window b.1)
unfolding value_at take_at
value_10 _ _ [] e = refl
value_10 _ _ (true ∷ []) e = refl
value_10 _ _ (true ∷ false ∷ bits) e = rw (le-ltb (length (true ∷ false ∷ bits)) 2 (omega arith)) refl
value_10 _ _ (true ∷ true ∷ bits) e = absurd (omega (arith, front-cons 1 true (true ∷ bits), front-cons 0 true bits))
value_10 _ _ (false ∷ bits) e = absurd (omega (arith, front-cons 1 false bits, front-lt 1 bits))

value_11 : (pattern : ℕ) (window : Window) (bits : List Bool) → front 2 bits ≡ 3 → value_at pattern window bits ≡ (take_at 2 bits >>= λ b. opened_at pattern b.1)
unfolding value_at take_at
value_11 _ _ [] e = refl
value_11 _ _ (true ∷ []) e = refl
value_11 _ _ (true ∷ true ∷ bits) e = rw (le-ltb (length (true ∷ true ∷ bits)) 2 (omega arith)) refl
value_11 _ _ (true ∷ false ∷ bits) e = absurd (omega (arith, front-cons 1 true (false ∷ bits), front-cons 0 false bits, front-lt 0 bits))
value_11 _ _ (false ∷ bits) e = absurd (omega (arith, front-cons 1 false bits, front-lt 1 bits))

-- a window that is told at once with the bits that say so
opened_is : (pattern head : ℕ) (bits after : List Bool) → take_at 11 bits ≡ Ok (head % 2 ^ 11, after) → opened_at pattern bits ≡ within_at pattern (told_by head) after
unfolding opened_at within_at
opened_is _ head _ _ e =
    let parts = take_split 5 6 _ _ _ e in
    let lead : head % 2 ^ 11 / 2 ^ 6 ≡ head / 64 % 32 = omega arith in
    let width : head % 2 ^ 11 % 2 ^ 6 ≡ head % 64 = omega arith in
    rw (parts.0, parts.1, lead, width) refl

pub opened_found : (pattern head : ℕ) (window : Window) (bits after : List Bool) → front 2 bits ≡ 3 → take_at 13 bits ≡ Ok (head, after) → value_at pattern window bits ≡ within_at pattern (told_by head) after
opened_found pattern head window bits after e h =
    let parts = take_split 2 _ _ bits after h in
    value_11 pattern window bits e ∙ rw parts.0 (opened_is pattern head (bits_of 11 head ++ after) _ parts.1)

opened_lacks : (pattern : ℕ) (bits : List Bool) (e : XorRefusal) → take_at 11 bits ≡ Err e → opened_at pattern bits ≡ Err e
unfolding opened_at
opened_lacks _ _ e h =
    elim (take_split_short 5 6 _ e h) [
      | inl lacks ↦ rw lacks refl
      | inr parts ↦ rw (parts.2, parts.3) refl
    ]

pub opened_short : (pattern : ℕ) (window : Window) (bits : List Bool) (e : XorRefusal) → front 2 bits ≡ 3 → take_at 13 bits ≡ Err e → value_at pattern window bits ≡ Err e
opened_short _ _ bits refusal e h =
    value_11 _ _ _ e ∙ elim (take_split_short 2 11 bits refusal h) [
      | inl lacks ↦ rw lacks refl
      | inr parts ↦ rw parts.2 (opened_lacks _ _ _ parts.3)
    ]
