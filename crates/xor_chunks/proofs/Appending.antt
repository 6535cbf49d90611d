-- Samples that are put behind others.
use Rattle.std.proofs.Common.{◌≡◌, ℕ, zero, suc, ◌+◌, ◌-◌, ◌*◌, ◌≤◌, Bool, true, false, List, [], ◌∷◌, ◌++◌, length, Result, Ok, Err, refl, sym, ap, subst, ◌∙◌, length-append, arith, ◌⊎◌, inl, inr}
use Rattle.std.specs.Prelude.{IfOk, IsOkAnd, IsErrAnd}
use Rattle.std.proofs.lemmas.List.{append-nil}
use Rattle.base.specs.Reading.{Gives}
use Rattle.base.specs.Grammar.{IsBytes}
use Rattle.base.proofs.Binds.{ok_is}
use Rattle.label_sets.specs.declared.sample.Sample.{Sample}
use Rattle.xor_chunks.specs.declared.refusal.XorRefusal.{XorRefusal}
use Rattle.xor_chunks.specs.declared.refusal.XorRefusal.TheVariants.{Trailing, NoMemory}
use Rattle.wire_bytes.specs.Bits.{bits_in}
use Rattle.xor_chunks.specs.Samples.{of_first}
use Rattle.xor_chunks.specs.Data.{count_at, first_at, rest_at, samples_at, is_filling, data_at, with_front, with_samples}
use Rattle.xor_chunks.specs.Grammar.{IsText}
use Rattle.xor_chunks.proofs.TextsRead.{data_again, found, text_few}
use Rattle.xor_chunks.proofs.Loops.{regroup}

-- ---- a call that stopped with a refusal

pub gives_stop : {X Y : Type 0} (view : X → Y) (read : Result Y XorRefusal) (r : Result X XorRefusal) (e : XorRefusal) → IsErrAnd r (λ d. d ≡ e) → (e ≡ NoMemory) ⊎ (read ≡ Err e) → Gives NoMemory view r read
gives_stop _ _ (Ok x) e is why = absurd is
gives_stop _ read (Err d) e is why = subst (λ c. (c ≡ NoMemory) ⊎ (read ≡ Err c)) (sym is) why

-- ---- the samples behind a count

pub no_samples : (front : List Sample) (count : ℕ) (bytes : List ℕ) (bits : List Bool) → count ≡ 0 → bits ≡ bits_in bytes → with_front front (samples_at count bytes) ≡ Ok (front, bits)
unfolding samples_at
no_samples front zero _ _ none are = rw (append-nil front, are) refl
no_samples _ (suc count) _ _ none are = absurd cc

pub no_first : (front : List Sample) (count : ℕ) (bytes : List ℕ) (e : XorRefusal) → (count ≡ 0 → ⊥) → first_at bytes ≡ Err e → with_front front (samples_at count bytes) ≡ Err e
unfolding samples_at
no_first _ zero _ e some h = absurd (some refl)
no_first _ (suc count) _ e some h = rw h refl

-- the first sample, and those after it
pub first_steps : (front more : List Sample) (count : ℕ) (first : Sample) (bytes after : List ℕ) → (count ≡ 0 → ⊥) → first_at bytes ≡ Ok (first, after) → more ≡ front ++ first ∷ [] → with_front more (rest_at (count - 1) (of_first first) after) ≡ with_front front (samples_at count bytes)
unfolding samples_at
first_steps _ _ zero _ _ _ some h pushed = absurd (some refl)
first_steps _ _ (suc count) _ _ _ some h pushed =
    let same : suc count - 1 ≡ count = omega arith in
    rw (same, pushed, h) (regroup _ _ _)

-- ---- the whole

front_parts : (front all : List Sample) (left : List Bool) (read : Result (List Sample × List Bool) XorRefusal) → with_front front read ≡ Ok (all, left) → (samples : List Sample) × (read ≡ Ok (samples, left)) × (front ++ samples ≡ all)
front_parts _ _ _ (Ok x) e =
    let same = ok_is {E = XorRefusal} _ _ e in
    (x.0, ap (λ b. Ok (x.0, b)) (ap (λ p. p.1) same), ap (λ p. p.0) same)
front_parts _ _ _ (Err d) e = absurd cc

front_stops : (front : List Sample) (e : XorRefusal) (read : Result (List Sample × List Bool) XorRefusal) → with_front front read ≡ Err e → read ≡ Err e
front_stops _ e (Ok x) h = absurd cc
front_stops _ e (Err d) h = h

module _ (most : ℕ) (front : List Sample) (bytes : List ℕ) where
  pub no_count : (e : XorRefusal) → count_at bytes ≡ Err e → with_samples front (data_at most bytes) ≡ Err e
  unfolding data_at
  no_count e h = rw h refl

  module _ (count : ℕ) (after : List ℕ) (counted : count_at bytes ≡ Ok (count, after)) where
    samples_stop : (e : XorRefusal) → with_front front (samples_at count after) ≡ Err e → with_samples front (data_at most bytes) ≡ Err e
    unfolding data_at
    samples_stop e h = let read = front_stops _ e _ h in rw (counted, read) refl

    pub samples_stopped : (e : XorRefusal) → (e ≡ NoMemory) ⊎ (with_front front (samples_at count after) ≡ Err e) → (e ≡ NoMemory) ⊎ (with_samples front (data_at most bytes) ≡ Err e)
    samples_stopped e (inl none) = inl none
    samples_stopped e (inr h) = inr (samples_stop e h)

    pub left_over : (all : List Sample) (left : List Bool) (filling : Bool) → with_front front (samples_at count after) ≡ Ok (all, left) → filling ≡ is_filling most left → filling ≡ false → with_samples front (data_at most bytes) ≡ Err Trailing
    unfolding data_at
    left_over all left filling h is no' =
        let read = front_parts _ _ _ _ h in
        let none = sym is ∙ no' in
        rw (counted, read.1, none) refl

    pub all_read : (all : List Sample) (left : List Bool) (filling : Bool) → with_front front (samples_at count after) ≡ Ok (all, left) → filling ≡ is_filling most left → filling ≡ true → with_samples front (data_at most bytes) ≡ Ok all
    unfolding data_at
    all_read all left filling h is yes' =
        let read = front_parts _ _ _ _ h in
        let full = sym is ∙ yes' in
        rw (counted, read.1, full) (ap (λ xs. Ok xs) read.2)

pub behind_none : (read : Result (List Sample) XorRefusal) → with_samples [] read ≡ read
behind_none (Ok x) = refl
behind_none (Err e) = refl

-- ---- what the call says

behind_parts : (front all : List Sample) (read : Result (List Sample) XorRefusal) → with_samples front read ≡ Ok all → (samples : List Sample) × (read ≡ Ok samples) × (all ≡ front ++ samples)
behind_parts _ _ (Ok x) e = (x, refl, sym (ok_is {E = XorRefusal} _ _ e))
behind_parts _ _ (Err d) e = absurd cc

module _ {X : Type 0} (view : X → List Sample) (front : List Sample) (bytes : List ℕ) where
  pub appended_found : (r : Result X XorRefusal) → IsBytes bytes → Gives NoMemory view r (with_samples front (data_at 8 bytes)) → IfOk r (λ all. (read : List Sample) × IsText 8 bytes read × (view all ≡ front ++ read))
  appended_found (Ok all) are e = let p = behind_parts front _ _ e in (p.0, found 8 _ (Ok p.0) are p.1, p.2)
  appended_found (Err d) are e = tt

  pub appended_only : (r : Result X XorRefusal) (read : List Sample) → Gives NoMemory view r (with_samples front (data_at 8 bytes)) → IsText 8 bytes read → IsOkAnd r (λ all. view all ≡ front ++ read) ⊎ (r ≡ Err NoMemory)
  appended_only (Ok all) read e is = let again = data_again 8 _ _ is in let p = behind_parts _ _ _ e in inl (p.2 ∙ ap (λ xs. front ++ xs) (ok_is {E = XorRefusal} _ _ (sym p.1 ∙ again)))
  appended_only (Err d) _ (inl none) is = inr (ap (λ x. Err x) none)
  appended_only (Err d) _ (inr e) is = let no' = ap (with_samples front) (data_again 8 _ _ is) in let both = sym e ∙ no' in absurd cc

  pub appended_few : (r : Result X XorRefusal) → IsBytes bytes → Gives NoMemory view r (with_samples front (data_at 8 bytes)) → IfOk r (λ all. length (view all) ≤ length front + 8 * length bytes)
  appended_few (Ok all) are e = let p = appended_found (Ok all) are e in omega (arith, ap length p.2, length-append front p.0, text_few 8 bytes p.0 p.1)
  appended_few (Err d) are e = tt
