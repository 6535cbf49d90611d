-- Numbers of fixed width at a position against their grammar.
use Rattle.std.proofs.Common.{◌≡◌, ℕ, ◌*◌, ◌%◌, ◌^◌, ◌<◌, ◌≤◌, ltb, false, List, [], ◌∷◌, ◌++◌, length, take, Result, Ok, Err, refl, sym, ap, subst, ◌∙◌, arith, inl, inr}
use Rattle.std.specs.Prelude.{◌↔◌, IfOk}
use Rattle.std.specs.Borrow.{Bor}
use Rattle.base.specs.Reading.{Steps}
use Rattle.std.specs.Int.{Width, w8, w16, w32, w64, byte_len, from_be_bytes, to_be_bytes}
use Rattle.std.specs.List.{flat_map}
use Rattle.std.proofs.lemmas.List.Concat.{flat_map-cons}
use Rattle.std.proofs.lemmas.Bool.{cases_lt, ltb-false, le-ltb, lt-ltb}
use Rattle.std.proofs.lemmas.List.{take_at, take-append-drop, length-append, length-take}
use Rattle.std.proofs.lemmas.Nat.{be_bytes_2, be_bytes_4, be_bytes_8, from_be_bytes-to_be_bytes_2, from_be_bytes-to_be_bytes_4, from_be_bytes-to_be_bytes_8}
use Rattle.base.specs.Grammar.{IsBytes, HasFront}
use Rattle.base.proofs.Binds.{cond_ok, ok_is}
use Rattle.wire_bytes.specs.declared.varint.WireRefusal.{WireRefusal}
use Rattle.wire_bytes.specs.declared.varint.WireRefusal.TheVariants.{Short}
use Rattle.wire_bytes.specs.Position.{Position, left, further}
use Rattle.wire_bytes.specs.Fields.{number_at, bytes_at}
use Rattle.wire_bytes.specs.FieldTexts.{IsFixed}
use Rattle.wire_bytes.proofs.FieldLaws.{left-further}
use Rattle.wire_bytes.proofs.ByteFields.{bytes_parts, bytes_split}
use Rattle.base.proofs.Fronts.{IsBytes-take}

-- bytes and their number, both ways
pub record IsWide (w : Width) : Type 0 where
  pub len : (n : ℕ) → length (to_be_bytes w n) ≡ byte_len w
  pub back : (bytes : List ℕ) → length bytes ≡ byte_len w → IsBytes bytes → to_be_bytes w (from_be_bytes w bytes) ≡ bytes
  pub again : (n : ℕ) → n < 2 ^ (8 * byte_len w) → from_be_bytes w (to_be_bytes w n) ≡ n
  pub below : (bytes : List ℕ) → IsBytes bytes → from_be_bytes w bytes < 2 ^ (8 * byte_len w)

one_byte_back : (bytes : List ℕ) → length bytes ≡ 1 → IsBytes bytes → to_be_bytes w8 (from_be_bytes w8 bytes) ≡ bytes
one_byte_back [] len are = absurd (omega arith)
one_byte_back (b ∷ []) len are = let e : b % 256 ≡ b = omega (arith, are 0) in ap (λ n. n ∷ []) e
one_byte_back (b ∷ c ∷ bytes) len are = absurd (omega arith)

pub wide8 : IsWide w8
wide8 = record {
  len = λ n. refl;
  back = one_byte_back;
  again = λ n lt. omega arith;
  below = λ bytes are. omega arith;
}

pub wide16 : IsWide w16
wide16 = record {
  len = λ n. refl;
  back = λ bytes len are. be_bytes_2 bytes _ len are refl;
  again = λ n lt. from_be_bytes-to_be_bytes_2 n lt;
  below = λ bytes are. omega arith;
}

pub wide32 : IsWide w32
wide32 = record {
  len = λ n. refl;
  back = λ bytes len are. be_bytes_4 bytes _ len are refl;
  again = λ n lt. from_be_bytes-to_be_bytes_4 n lt;
  below = λ bytes are. omega arith;
}

pub wide64 : IsWide w64
wide64 = record {
  len = λ n. refl;
  back = λ bytes len are. be_bytes_8 bytes _ len are refl;
  again = λ n lt. from_be_bytes-to_be_bytes_8 n lt;
  below = λ bytes are. omega arith;
}

module _ (w : Width) (wide : IsWide w) where
  number_parts : (p q : Position) (n : ℕ) → number_at w p ≡ Ok (n, q) → (byte_len w ≤ length (left p)) × (from_be_bytes w (take (byte_len w) (left p)) ≡ n) × (further (byte_len w) p ≡ q)
  unfolding number_at
  number_parts p q n e =
      let g = cond_ok _ _ _ _ e in
      let same = ok_is {E = WireRefusal} _ _ g.1 in
      (ltb-false _ _ g.0, ap (λ y. y.0) same, ap (λ y. y.1) same)

  -- what is read is the text of the number
  pub number_found : (p q : Position) (n : ℕ) → IsBytes (left p) → number_at w p ≡ Ok (n, q) → HasFront (IsFixed w) (left p) n (left q)
  number_found p q n are e =
      let x = number_parts p q n e in
      let front = take (byte_len w) (left p) in
      let front_are = IsBytes-take (byte_len w) _ are in
      let text : IsFixed w front n = record {
        digits = sym (wide.back front (omega (arith, length-take (byte_len w) (left p), x.0)) front_are) ∙ ap (to_be_bytes w) x.1;
        fits = subst (λ (k : ℕ). k < 2 ^ (8 * byte_len w)) x.1 (wide.below front front_are);
      } in
      (front, text, sym (take-append-drop _ _) ∙ ap (λ others. front ++ others) (sym (left-further _ p) ∙ ap left x.2))

  -- and it is read again, whatever follows
  pub number_again : (p : Position) (text : List ℕ) (n : ℕ) (after : List ℕ) → IsFixed w text n → left p ≡ text ++ after → number_at w p ≡ Ok (n, further (length text) p)
  unfolding number_at
  number_again p text n after is e =
      let len = ap length is.digits ∙ wide.len n in
      let long : ltb (length (left p)) (byte_len w) ≡ false = le-ltb _ _ (omega (arith, ap length e, length-append text after)) in
      let front : take (byte_len w) (left p) ≡ to_be_bytes w n = ap (take (byte_len w)) e ∙ take_at _ _ _ len ∙ is.digits in
      rw (long, front, wide.again n is.fits, ← len) refl

  pub number_short : (p : Position) → (number_at w p ≡ Err Short) ↔ (length (left p) < byte_len w)
  unfolding number_at
  number_short p = (
    λ e. elim (cases_lt (length (left p)) (byte_len w)) [
      | inl short ↦ short
      | inr long ↦ let no : number_at w p ≡ Ok (from_be_bytes w (take (byte_len w) (left p)), further (byte_len w) p) = rw (le-ltb _ _ long) refl in absurd cc
    ],
    λ short. rw (lt-ltb _ _ short) refl,
  )

-- numbers of four bytes, one behind the other
pub length-four_each : (numbers : List ℕ) → length (flat_map (to_be_bytes w32) numbers) ≡ 4 * length numbers
length-four_each [] = refl
length-four_each (n ∷ numbers) = omega (arith, length-four_each numbers, ap length (flat_map-cons (to_be_bytes w32) n numbers), length-append (to_be_bytes w32 n) (flat_map (to_be_bytes w32) numbers), wide32.len n)

-- ---- bytes that are lent

bytes_enough : (count : ℕ) (p : Position) → count ≤ length (left p) → bytes_at count p ≡ Ok (take count (left p), further count p)
unfolding bytes_at
bytes_enough _ p long = rw (le-ltb _ _ long) refl

bytes_too_few : (count : ℕ) (p : Position) → length (left p) < count → bytes_at count p ≡ Err Short
unfolding bytes_at
bytes_too_few _ p short = rw (lt-ltb _ _ short) refl

pub bytes_found : (count : ℕ) (p q : Position) (r : Result (Bor (List ℕ)) WireRefusal) → Steps (λ bytes. bytes.now) p q r (bytes_at count p) → IfOk r (λ bytes. (length bytes.now ≡ count) × (left p ≡ bytes.now ++ left q))
bytes_found count p q (Ok bytes) e = bytes_split _ p q _ e
bytes_found _ p q (Err d) e = tt

pub bytes_short : (count : ℕ) (p q : Position) (r : Result (Bor (List ℕ)) WireRefusal) → Steps (λ bytes. bytes.now) p q r (bytes_at count p) → (r ≡ Err Short) ↔ (length (left p) < count)
bytes_short _ p q (Ok bytes) e = let x = bytes_parts _ p q _ e in (λ f. absurd cc, λ short. absurd (omega arith))
bytes_short count p q (Err d) e =
    elim (cases_lt (length (left p)) count) [
      | inl short ↦ let no = e.0 in let few = bytes_too_few _ p short in (λ f. short, λ f. cc)
      | inr long ↦ let no = e.0 in let enough = bytes_enough _ p long in absurd cc
    ]
