-- Keys by the names of their objects, and lawful keys.
use Rattle.std.proofs.Common.{Bor, ◌≡◌, ℕ, ◌+◌, true, Option, None, Some, Ok, List, [], ◌∷◌, ◌++◌, map, length, take, drop, refl, sym, ap, subst, ◌∙◌, codes, append_assoc, length-append, arith}
use Rattle.std.specs.Prelude.{IfSome, MatchOption}
use Rattle.std.specs.Option.{option_copied}
use Rattle.std.specs.Slice.{IsItemAt}
use Rattle.std.specs.List.{before_first, after_first, position_or_len}
use Rattle.std.specs.Int.Digits.{AllBelowBase}
use Rattle.std.proofs.Math.Seq.{take-append_seam, drop-append_seam}
use Rattle.std.proofs.lemmas.Bool.{and_from, and_parts}
use Rattle.std.proofs.lemmas.List.{length-map}
use Rattle.ulid_core.specs.UlidText.{IsUlidText, text_of, ulid_of, character}
use Rattle.ulid_core.proofs.UlidLaws.{ulid_of-only}
use Rattle.block_keys.specs.Keys.{IsLawfulKey, is_lawful_key}
use Rattle.block_keys.specs.KeyText.{key_named, key_within, key_of, is_slash}
use Rattle.block_keys.specs.declared.key.Key.{Key}
use Rattle.block_keys.proofs.KeyLaws.{before_slash}
use Rattle.block_keys.proofs.LawfulKeys.{lawful_key}
use Rattle.cleaner.specs.Objects.{have_lawful_keys}

-- ---- names

cut : (digits name : List ℕ) → AllBelowBase 32 digits
    → (before_first is_slash ((map character digits ++ codes "/") ++ name) ≡ map character digits) × (after_first is_slash ((map character digits ++ codes "/") ++ name) ≡ name)
cut digits name all =
    let text : List ℕ = (map character digits ++ codes "/") ++ name in
    let split : text ≡ map character digits ++ (47 ∷ name) = append_assoc (map character digits) (47 ∷ []) name in
    let place : position_or_len is_slash text ≡ length (map character digits) =
    ap (position_or_len is_slash) split ∙ before_slash digits name all ∙ sym (length-map digits character) in
    let longer : length (map character digits) + 1 ≡ length (map character digits ++ codes "/") = sym (length-append (map character digits) (47 ∷ [])) in (
      ap (λ k. take k text) place ∙ ap (take (length (map character digits))) split ∙ take-append_seam (map character digits) (47 ∷ name),
      ap (λ k. drop (k + 1) text) place ∙ ap (λ k. drop k text) longer ∙ drop-append_seam (map character digits ++ codes "/") name,
    )

-- the text of a block's name is that of the key with the name
pub key_of_name : (ulid : ℕ) (name : List ℕ) → IsUlidText (text_of ulid) ulid → key_of (text_of ulid ++ codes "/" ++ name) ≡ key_named ulid name
unfolding key_of
key_of_name ulid name block =
    let parts = cut block.digits name block.below_base in
    let whole : text_of ulid ++ codes "/" ++ name ≡ (map character block.digits ++ codes "/") ++ name = ap (λ b. (b ++ codes "/") ++ name) block.characters in
    let read : ulid_of (map character block.digits) ≡ Ok ulid = ap ulid_of (sym block.characters) ∙ ulid_of-only (text_of ulid) ulid block in
    ap (λ t. key_within (ulid_of (before_first is_slash t)) (after_first is_slash t)) whole
    ∙ ap (λ b. key_within (ulid_of b) (after_first is_slash ((map character block.digits ++ codes "/") ++ name))) parts.0
    ∙ ap (λ r. key_within r (after_first is_slash ((map character block.digits ++ codes "/") ++ name))) read
    ∙ ap (key_named ulid) parts.1

-- ---- lawful keys

-- with one more
pub lawful_more : (keys : List Key) (k : Key) → have_lawful_keys keys ≡ true → is_lawful_key k ≡ true → have_lawful_keys (keys ++ k ∷ []) ≡ true
lawful_more [] k all one = and_from (is_lawful_key k) true one refl
lawful_more (key ∷ keys) k all one =
    let parts = and_parts (is_lawful_key key) (have_lawful_keys keys) all in
    and_from (is_lawful_key key) (have_lawful_keys (keys ++ k ∷ [])) parts.0 (lawful_more keys k parts.1 one)

-- the first of them
pub lawful_first : (objects : List Key) (object : Key) → have_lawful_keys objects ≡ true → objects ≡ object ∷ drop 1 objects → IsLawfulKey object
lawful_first objects object lawful is =
    lawful_key object (and_parts (is_lawful_key object) (have_lawful_keys (drop 1 objects)) (ap have_lawful_keys (sym is) ∙ lawful)).0

-- the first one that is lent
pub first_lent : (objects : List Key) (lent : Option (Bor Key)) → IsItemAt objects 0 lent → MatchOption (option_copied lent) (objects ≡ []) (λ object. objects ≡ object ∷ drop 1 objects)
first_lent [] None item = refl
first_lent (object ∷ objects) None item = absurd (omega (arith, item.3))
first_lent [] (Some lent) item = absurd (omega (arith, item.3.0))
first_lent (object ∷ objects) (Some lent) item = ap (λ o. o ∷ objects) (sym item.1)

pub lawful_some : (o : Option Key) (k : Key) → IfSome o (λ key. is_lawful_key key ≡ true) → o ≡ Some k → is_lawful_key k ≡ true
lawful_some o k some is = subst (λ (x : Option Key). IfSome x (λ key. is_lawful_key key ≡ true)) is some
