-- Texts that are not the same differ at some place, and names in UTF-8 are told apart by the byte at which each of them ends.
use Rattle.std.proofs.Common.{◌≡◌, ◌⊎◌, inl, inr, ℕ, ◌+◌, ◌<◌, ◌/◌, ◌%◌, true, List, [], ◌∷◌, ◌++◌, IsUtf8, refl, sym, ◌∙◌, ap, subst, arith, append_assoc}
use Rattle.std.specs.List.{AllByRecursion, flat_map}
use Rattle.std.proofs.lemmas.Bool.{and_parts, cases_eq, cases_lt, le-ltb, lt-ltb}
use lib.Utf8.{encode, encodes, scalar, scalar_cases, scalars}
use Rattle.lifecycle_core.specs.Breaches.{FirstDiffer}

-- ---- the first place

abbrev pub AreBelow : ℕ → List ℕ → Type 0
AreBelow most bytes = AllByRecursion (λ byte. byte < most) bytes

-- there are two bytes that are the first in which the texts differ
abbrev pub Differ : List ℕ → List ℕ → Type 0
Differ one other = (x : ℕ) × (y : ℕ) × FirstDiffer one other x y

pub same_behind : (begun one other : List ℕ) → Differ one other → Differ (begun ++ one) (begun ++ other)
same_behind begun one other (x, y, (front, left, right, begins, goes, is_x, is_y, apart)) = (
  x,
  y,
  (
    begun ++ front,
    left,
    right,
    ap (λ (l : List ℕ). begun ++ l) begins ∙ sym (append_assoc begun front left),
    ap (λ (l : List ℕ). begun ++ l) goes ∙ sym (append_assoc begun front right),
    is_x,
    is_y,
    apart,
  ),
)

same_first : (byte : ℕ) (one other : List ℕ) → Differ one other → Differ (byte ∷ one) (byte ∷ other)
same_first byte one other apart = same_behind (byte ∷ []) one other apart

pub same_or_differ : (one other : List ℕ) → AreBelow 256 one → AreBelow 256 other → (one ≡ other) ⊎ Differ one other
same_or_differ [] [] low small = inl refl
same_or_differ [] (y ∷ ys) low small = inr (256, y, ([], [], y ∷ ys, refl, refl, refl, refl, λ e. omega (arith, e, small.0)))
same_or_differ (x ∷ xs) [] low small = inr (x, 256, ([], x ∷ xs, [], refl, refl, refl, refl, λ e. omega (arith, e, low.0)))
same_or_differ (x ∷ xs) (y ∷ ys) low small = elim (cases_eq x y) [
  | inl same ↦ elim (same_or_differ xs ys low.1 small.1) [
    | inl rest ↦ inl (cc (same, rest))
    | inr rest ↦ inr (subst (λ (z : ℕ). Differ (x ∷ xs) (z ∷ ys)) same (same_first x xs ys rest))
  ]
  | inr apart ↦ inr (x, y, ([], x ∷ xs, y ∷ ys, refl, refl, refl, refl, apart))
]

-- ---- names

-- names, each with the byte at its end
abbrev pub ended : List (List ℕ) → List ℕ
ended names = flat_map (λ name. name ++ 255 ∷ []) names

-- no byte of a name is such an end
abbrev pub AreNames : List (List ℕ) → Type 0
AreNames names = AllByRecursion (AreBelow 255) names

pub below_both : (most : ℕ) (one other : List ℕ) → AreBelow most one → AreBelow most other → AreBelow most (one ++ other)
below_both most [] other low small = small
below_both most (x ∷ one) other low small = (low.0, below_both most one other low.1 small)

pub below_more : (bytes : List ℕ) → AreBelow 255 bytes → AreBelow 256 bytes
below_more [] low = tt
below_more (x ∷ bytes) low = (omega (arith, low.0), below_more bytes low.1)

pub ended_below : (names : List (List ℕ)) → AreNames names → AreBelow 256 (ended names)
ended_below [] are = tt
ended_below (name ∷ names) are = below_both 256 (name ++ 255 ∷ []) (ended names) (below_both 256 name (255 ∷ []) (below_more name are.0) (omega arith, tt)) (ended_below names are.1)

-- where names end is told by the texts
one_cut : (one other left right : List ℕ) → AreBelow 255 one → AreBelow 255 other → one ++ 255 ∷ left ≡ other ++ 255 ∷ right → (one ≡ other) × (left ≡ right)
one_cut [] [] left right low small is = (refl, cc (is))
one_cut [] (y ∷ other) left right low small is = let e : 255 ≡ y = cc (is) in absurd (omega (arith, e, small.0))
one_cut (x ∷ one) [] left right low small is = let e : x ≡ 255 = cc (is) in absurd (omega (arith, e, low.0))
one_cut (x ∷ one) (y ∷ other) left right low small is =
    let rest = one_cut one other left right low.1 small.1 (cc (is)) in
    let e : x ≡ y = cc (is) in (cc (e, rest.0), rest.1)

no_end : (text rest : List ℕ) → text ++ 255 ∷ rest ≡ [] → ⊥
no_end [] rest is = cc (is)
no_end (x ∷ text) rest is = cc (is)

pub same_names : (one other : List (List ℕ)) → AreNames one → AreNames other → ended one ≡ ended other → one ≡ other
same_names [] [] are so is = refl
same_names [] (y ∷ other) are so is =
    let none : [] ≡ y ++ 255 ∷ ended other = is ∙ append_assoc y (255 ∷ []) (ended other) in absurd (no_end y (ended other) (sym none))
same_names (x ∷ one) [] are so is =
    let none : x ++ 255 ∷ ended one ≡ [] = sym (append_assoc x (255 ∷ []) (ended one)) ∙ is in absurd (no_end x (ended one) none)
same_names (x ∷ one) (y ∷ other) are so is =
    let cut = one_cut x y (ended one) (ended other) are.0 so.0 (sym (append_assoc x (255 ∷ []) (ended one)) ∙ is ∙ append_assoc y (255 ∷ []) (ended other)) in
    let rest = same_names one other are.1 so.1 cut.1 in cc (cut.0, rest)

-- ---- UTF-8

next_low : (n : ℕ) → 128 + n % 64 < 255
next_low n = omega arith

-- no byte of a character is above 244
char_low : (c : ℕ) → c < 1114112 → AreBelow 255 (encode c)
unfolding encode
char_low c fits = elim (cases_lt c 128) [
  | inl one ↦ rw (lt-ltb c 128 one) (omega (arith, one), tt)
  | inr above ↦ elim (cases_lt c 2048) [
    | inl two ↦ rw (le-ltb c 128 above, lt-ltb c 2048 two) (omega (arith, two), (next_low c, tt))
    | inr more ↦ elim (cases_lt c 65536) [
      | inl three ↦ rw (le-ltb c 128 above, le-ltb c 2048 more, lt-ltb c 65536 three) (omega (arith, three), (next_low (c / 64), (next_low c, tt)))
      | inr four ↦ rw (le-ltb c 128 above, le-ltb c 2048 more, le-ltb c 65536 four) (omega (arith, fits), (next_low (c / 4096), (next_low (c / 64), (next_low c, tt))))
    ]
  ]
]

scalar_low : (c : ℕ) → scalar c ≡ true → c < 1114112
scalar_low c is = elim (scalar_cases c is) [ inl low ↦ omega (arith, low) | inr high ↦ high.1 ]

chars_low : (cs : List ℕ) → scalars cs ≡ true → AreBelow 255 (encodes cs)
chars_low [] all = tt
chars_low (c ∷ cs) all =
    let parts = and_parts (scalar c) (scalars cs) all in
    below_both 255 (encode c) (encodes cs) (char_low c (scalar_low c parts.0)) (chars_low cs parts.1)

pub utf8_low : (name : List ℕ) → IsUtf8 name → AreBelow 255 name
utf8_low name (cs, (all, is)) = subst (AreBelow 255) is (chars_low cs all)

pub names_low : (names : List (List ℕ)) → AllByRecursion IsUtf8 names → AreNames names
names_low [] all = tt
names_low (name ∷ names) all = (utf8_low name all.0, names_low names all.1)
