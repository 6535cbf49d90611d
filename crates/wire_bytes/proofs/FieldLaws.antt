-- Fields at a position against their grammar.
use Rattle.std.proofs.Common.{◌≡◌, ℕ, ◌+◌, ◌*◌, ◌/◌, ◌%◌, ◌≤◌, List, ◌++◌, length, take, drop, Result, Ok, Err, refl, sym, ap, subst, ◌∙◌, arith, inl, inr, ℤ, pos, negsuc}
use Rattle.std.specs.Prelude.{◌↔◌}
use Rattle.std.proofs.lemmas.Bool.{cases_eq, ne_eqb}
use Rattle.std.proofs.lemmas.List.{take-append-drop, drop_at, drop-drop, length-take}
use Rattle.base.specs.Reading.{Steps}
use Rattle.base.specs.Grammar.{IsBytes, HasFront}
use Rattle.base.proofs.Binds.{bind_ok, bind_err, ok_is}
use Rattle.wire_bytes.specs.declared.varint.WireRefusal.{WireRefusal}
use Rattle.wire_bytes.specs.declared.varint.WireRefusal.TheVariants.{Short, Overlong}
use Rattle.wire_bytes.specs.Position.{Position, left, further}
use Rattle.wire_bytes.specs.Fields.{groups_of, uvarint_at, varint_at, zigzag, unzigzag}
use Rattle.wire_bytes.specs.FieldTexts.{IsUvarint, IsVarint, EndsInside, PassesLimit, Found, Only}
use Rattle.wire_bytes.proofs.GroupLaws.{groups_found, groups_again, groups_short, groups_short_again, groups_over, groups_over_again}

pub left-further : (count : ℕ) (p : Position) → left (further count p) ≡ drop count (left p)
left-further count p = sym (drop-drop count p.place p.bytes)

pub left_after : (text after : List ℕ) (p : Position) → left p ≡ text ++ after → left (further (length text) p) ≡ after
left_after text after p e = left-further (length text) p ∙ ap (drop (length text)) e ∙ drop_at text after (length text) refl

-- ---- a step of the code against a reading function

-- a refusal of the code is one of reading
pub refused : {V : Type 0} (p q : Position) (r : Result V WireRefusal) (read : Result (V × Position) WireRefusal) (d : WireRefusal) → Steps (λ v. v) p q r read → (r ≡ Err d) ↔ (read ≡ Err d)
refused p q (Ok v) _ d h = (λ e. absurd cc, λ e. absurd cc)
refused p q (Err c) _ d h = let same = h.0 in (λ e. cc, λ e. cc)

-- a value of reading is the code's
pub stepped : {V : Type 0} (p q : Position) (r : Result V WireRefusal) (read : Result (V × Position) WireRefusal) (v : V) (t : Position) → Steps (λ v. v) p q r read → read ≡ Ok (v, t) → (r ≡ Ok v) × (q ≡ t)
stepped {V} p q (Ok w) _ v t h e =
    let same = ok_is {E = WireRefusal} _ _ (sym h ∙ e) in
    (ap (λ x. Ok x.0) same, ap (λ x. x.1) same)
stepped p q (Err c) _ v t h e = let same = h.0 in absurd cc

-- ---- numbers in base 128

uvarint_is : (p : Position) (n count : ℕ) → groups_of 9 (left p) ≡ Ok (n, count) → uvarint_at p ≡ Ok (n, further count p)
unfolding uvarint_at
uvarint_is p n _ e = rw e refl

uvarint_refused : (p : Position) (d : WireRefusal) → groups_of 9 (left p) ≡ Err d → uvarint_at p ≡ Err d
unfolding uvarint_at
uvarint_refused p d e = rw e refl

uvarint_refusal : (p : Position) (d : WireRefusal) → uvarint_at p ≡ Err d → groups_of 9 (left p) ≡ Err d
unfolding uvarint_at
uvarint_refusal p d e =
    elim (bind_err _ _ d e) [
      | inl refusal ↦ refusal
      | inr x ↦ let no = x.2 in absurd cc
    ]

uvarint_parts : (p q : Position) (n : ℕ) → uvarint_at p ≡ Ok (n, q) → (count : ℕ) × (groups_of 9 (left p) ≡ Ok (n, count)) × (q ≡ further count p)
unfolding uvarint_at
uvarint_parts p q n e =
    let x = bind_ok _ _ _ e in
    let same = ok_is {E = WireRefusal} _ _ x.2 in
    (x.0.1, x.1 ∙ ap (λ y. Ok (y.0, x.0.1)) same, sym (ap (λ y. y.1) same))

-- of a list alone: what is read is a text of the number, and each text is read
pub uvarint_taken : (bytes : List ℕ) (n count : ℕ) → IsBytes bytes → groups_of 9 bytes ≡ Ok (n, count) → IsUvarint (take count bytes) n × (count ≤ length bytes)
uvarint_taken bytes n count are e =
    let reads = groups_found 9 _ n _ are e in
    (record { groups = reads.groups; few = omega (arith, length-take count bytes, reads.few); fits = reads.small }, reads.within)

pub uvarint_given : (text : List ℕ) (n : ℕ) (after : List ℕ) → IsUvarint text n → groups_of 9 (text ++ after) ≡ Ok (n, length text)
uvarint_given _ n _ is = groups_again 9 _ n _ is.groups is.few is.fits

-- what is read is a text of the number
pub uvarint_found : (p q : Position) (n : ℕ) → IsBytes (left p) → uvarint_at p ≡ Ok (n, q) → HasFront IsUvarint (left p) n (left q)
uvarint_found p q n are e =
    let x = uvarint_parts p q n e in
    let text = uvarint_taken _ n _ are x.1 in
    (take x.0 (left p), text.0, sym (take-append-drop _ _) ∙ ap (λ others. take x.0 (left p) ++ others) (sym (ap left x.2 ∙ left-further _ p)))

-- each text is read, whatever follows
pub uvarint_again : (p : Position) (text : List ℕ) (n : ℕ) (after : List ℕ) → IsUvarint text n → left p ≡ text ++ after → uvarint_at p ≡ Ok (n, further (length text) p)
uvarint_again p _ n _ is e = uvarint_is p n _ (ap (groups_of 9) e ∙ uvarint_given _ n _ is)

-- each refusal has its cause
pub uvarint_short : (p : Position) → (uvarint_at p ≡ Err Short) ↔ EndsInside (left p)
uvarint_short p = (
  λ e. let x = groups_short 9 _ (uvarint_refusal p _ e) in record { follows = x.0; few = omega arith },
  λ ends. uvarint_refused p Short (groups_short_again 9 _ ends.follows (omega arith)),
)

pub uvarint_overlong : (p : Position) → (uvarint_at p ≡ Err Overlong) ↔ PassesLimit (left p)
uvarint_overlong p = (
  λ e. let x = groups_over 9 _ (uvarint_refusal p _ e) in record { follows = x.follows; many = x.many; tenth = x.large },
  λ passes. uvarint_refused p Overlong (groups_over_again 9 _ (record { follows = passes.follows; many = passes.many; large = passes.tenth })),
)

-- ---- signed numbers in base 128

pub zigzag-unzigzag : (n : ℕ) → zigzag (unzigzag n) ≡ n
zigzag-unzigzag n =
    elim (cases_eq (n % 2) 0) [
      | inl even ↦ let half : 2 * (n / 2) ≡ n = omega arith in rw even half
      | inr odd ↦ let half : 2 * (n / 2) + 1 ≡ n = omega arith in rw (ne_eqb (n % 2) 0 odd) half
    ]

pub unzigzag-zigzag : (z : ℤ) → unzigzag (zigzag z) ≡ z
unzigzag-zigzag (pos n) =
    let even : 2 * n % 2 ≡ 0 = omega arith in
    let half : 2 * n / 2 ≡ n = omega arith in
    rw (even, half) refl
unzigzag-zigzag (negsuc n) =
    let odd : (2 * n + 1) % 2 ≡ 1 = omega arith in
    let half : (2 * n + 1) / 2 ≡ n = omega arith in
    rw (odd, half) refl

varint_parts : (p q : Position) (z : ℤ) → varint_at p ≡ Ok (z, q) → (n : ℕ) × (uvarint_at p ≡ Ok (n, q)) × (unzigzag n ≡ z)
unfolding varint_at
varint_parts p q z e =
    let x = bind_ok _ _ _ e in
    let same = ok_is {E = WireRefusal} _ _ x.2 in
    (x.0.0, x.1 ∙ ap (λ y. Ok (x.0.0, y.1)) same, ap (λ y. y.0) same)

pub varint_found : (p q : Position) (z : ℤ) → IsBytes (left p) → varint_at p ≡ Ok (z, q) → HasFront IsVarint (left p) z (left q)
varint_found p q z are e =
    let x = varint_parts p q z e in
    let n-is = sym (zigzag-unzigzag _) ∙ ap zigzag x.2 in
    subst (λ n. HasFront IsUvarint (left p) n (left q)) n-is (uvarint_found p q _ are x.1)

pub varint_again : (p : Position) (text : List ℕ) (z : ℤ) (after : List ℕ) → IsVarint text z → left p ≡ text ++ after → varint_at p ≡ Ok (z, further (length text) p)
unfolding varint_at
varint_again p text z after is e = rw (uvarint_again p text (zigzag z) after is e) (ap (λ y. Ok (y, further (length text) p)) (unzigzag-zigzag z))

pub varint_refused : (p : Position) (d : WireRefusal) → (varint_at p ≡ Err d) ↔ (uvarint_at p ≡ Err d)
unfolding varint_at
varint_refused p d = (
  λ e. elim (bind_err _ _ d e) [
    | inl refusal ↦ refusal
    | inr x ↦ let no = x.2 in absurd cc
  ],
  λ e. rw e refl,
)

-- ---- from reading to a call that steps

pub found_from : {V : Type 0} (IsText : List ℕ → V → Type 0) (p q : Position) (r : Result V WireRefusal) (read : Result (V × Position) WireRefusal) → ((v : V) → read ≡ Ok (v, q) → HasFront IsText (left p) v (left q)) → Steps (λ v. v) p q r read → Found IsText p q r
found_from IsText p q (Ok v) _ one h = one v h
found_from IsText p q (Err d) _ one h = tt

pub only_from : {V : Type 0} (IsText : List ℕ → V → Type 0) (p q : Position) (r : Result V WireRefusal) (read : Result (V × Position) WireRefusal) → ((text : List ℕ) (v : V) (after : List ℕ) → IsText text v → left p ≡ text ++ after → read ≡ Ok (v, further (length text) p)) → Steps (λ v. v) p q r read → Only IsText p q r
only_from IsText p q r _ one h text v after is e =
    let s = stepped p q r _ v _ h (one text v after is e) in
    (s.0, ap left s.1 ∙ left_after _ _ p e)

pub ↔-then : {P Q R : Type 0} → (P ↔ Q) → (Q ↔ R) → (P ↔ R)
↔-then p q = (λ x. q.0 (p.0 x), λ x. p.1 (q.1 x))
