-- What is written for a number is a text of it, and no text of it is shorter.
use Rattle.std.proofs.Common.{◌≡◌, ℕ, zero, suc, ◌+◌, ◌/◌, ◌%◌, ◌^◌, ◌<◌, ◌≤◌, List, [], ◌∷◌, length, refl, ap, ◌∙◌, arith, inl, inr, ℤ, pos, negsuc}
use Rattle.std.specs.Int.{w64}
use Rattle.std.specs.Int.RustNames.{FitsSigned}
use Rattle.std.proofs.lemmas.Bool.{cases_lt, le-ltb, lt-ltb}
use Rattle.wire_bytes.specs.Fields.{zigzag}
use Rattle.wire_bytes.specs.FieldTexts.{IsGroups, IsUvarint, IsVarint}
use Rattle.wire_bytes.specs.Written.{groups_text, uvarint_text, varint_text}
use Rattle.wire_bytes.proofs.GroupLaws.{limit, more_groups}

top_group : (n : ℕ) → groups_text 0 n ≡ n ∷ []
unfolding groups_text
top_group n = refl

thirds : (n : ℕ) → n / 128 / 128 ≡ n / 16384
thirds n = omega arith

one_group : (more n : ℕ) → n < 128 → groups_text more n ≡ n ∷ []
unfolding groups_text
one_group zero n small = refl
one_group (suc more) n small = rw (lt-ltb _ _ small) refl

group_and_more : (more n : ℕ) → 128 ≤ n → groups_text (suc more) n ≡ (128 + n % 128) ∷ groups_text more (n / 128)
unfolding groups_text
group_and_more _ n large = rw (le-ltb _ _ large) refl

pub groups_text_is : (more n : ℕ) → n < limit more → IsGroups (groups_text more n) n
groups_text_is zero n small = rw (one_group 0 n (omega arith)) (omega arith, refl)
groups_text_is (suc more) n small =
    elim (cases_lt n 128) [
      | inl low ↦ rw (one_group (suc more) n low) (low, refl)
      | inr large ↦ rw (group_and_more) (more_groups _ n _ (groups_text more (n / 128)) (omega arith) (omega arith) (omega arith) (groups_text_is more _ (omega arith)))
    ]

-- ---- numbers of at most three groups

pub one_put : (n : ℕ) → n < 128 → uvarint_text n ≡ n ∷ []
one_put n small = one_group 9 n small

pub two_put : (n : ℕ) → 128 ≤ n → n < 16384 → uvarint_text n ≡ (128 + n % 128) ∷ n / 128 ∷ []
two_put n large small = group_and_more 8 n large ∙ ap (λ text. (128 + n % 128) ∷ text) (one_group 8 _ (omega arith))

pub three_put : (n : ℕ) → 16384 ≤ n → n < 2 ^ 21 → uvarint_text n ≡ (128 + n % 128) ∷ (128 + n / 128 % 128) ∷ n / 16384 ∷ []
three_put n large small =
    group_and_more 8 n (omega arith)
    ∙ ap (λ text. (128 + n % 128) ∷ text) (group_and_more 7 _ (omega arith) ∙ ap (λ text. (128 + n / 128 % 128) ∷ text) (one_group 7 _ (omega arith) ∙ ap (λ m. m ∷ []) (thirds n)))

pub two_groups : (n low : ℕ) → low ≡ 128 + n % 128 → low ∷ n / 128 ∷ [] ≡ (128 + n % 128) ∷ n / 128 ∷ []
two_groups n _ is = ap (λ m. m ∷ n / 128 ∷ []) is

pub three_groups : (n low next : ℕ) → low ≡ 128 + n % 128 → next ≡ 128 + n / 128 % 128 → low ∷ next ∷ n / 16384 ∷ [] ≡ (128 + n % 128) ∷ (128 + n / 128 % 128) ∷ n / 16384 ∷ []
three_groups n _ next is are = ap (λ m. m ∷ next ∷ n / 16384 ∷ []) is ∙ ap (λ m. (128 + n % 128) ∷ m ∷ n / 16384 ∷ []) are

pub few_groups : (more n : ℕ) → length (groups_text more n) ≤ suc more
few_groups zero n = rw (top_group) (omega arith)
few_groups (suc more) n =
    elim (cases_lt n 128) [
      | inl low ↦ rw (one_group) (omega arith)
      | inr large ↦ rw (group_and_more more n large) (omega (arith, few_groups more (n / 128)))
    ]

no_fewer : (text : List ℕ) (more n : ℕ) → IsGroups text n → n < limit more → length (groups_text more n) ≤ length text
no_fewer [] _ n are small = absurd are
no_fewer (last ∷ []) more n are small = let low : n < 128 = omega (arith, are.1) in rw (one_group more n low) (omega arith)
no_fewer (low ∷ next ∷ others) zero n are small = omega (arith, few_groups 0 n)
no_fewer (low ∷ next ∷ others) (suc more) n are small =
    elim (cases_lt n 128) [
      | inl one ↦ rw (one_group) (omega arith)
      | inr large ↦
          let high : n / 128 ≡ are.2 = omega arith in
          rw (group_and_more more n large, high) (omega (arith, no_fewer (next ∷ others) more are.2 are.4 (omega arith)))
    ]

pub uvarint_text_is : (n : ℕ) → n < 2 ^ 64 → IsUvarint (uvarint_text n) n
uvarint_text_is n fits = record { groups = groups_text_is 9 n fits; few = few_groups 9 n; fits = fits }

pub uvarint_text_least : (n : ℕ) (text : List ℕ) → IsUvarint text n → length (uvarint_text n) ≤ length text
uvarint_text_least n _ is = no_fewer _ 9 n is.groups is.fits

zigzag_below : (n : ℤ) → FitsSigned w64 n → zigzag n < 2 ^ 64
zigzag_below (pos n) fits = let p = fits.sfits in omega arith
zigzag_below (negsuc n) fits = let p = fits.sfits in omega arith

pub varint_text_is : (n : ℤ) → FitsSigned w64 n → IsVarint (varint_text n) n
unfolding varint_text
varint_text_is n fits = uvarint_text_is _ (zigzag_below n fits)

pub varint_text_least : (n : ℤ) (text : List ℕ) → IsVarint text n → length (varint_text n) ≤ length text
unfolding varint_text
varint_text_least n _ is = uvarint_text_least _ _ is
