-- What stands behind the first slash of a key's text, and of a segment's name.
use Rattle.std.proofs.Common.{◌≡◌, ℕ, zero, suc, ◌<◌, List, [], ◌∷◌, length, map, get_or, Option, Result, Ok, Err, sym, subst, ◌∙◌, arith, codes, append_assoc, Bor}
use Rattle.std.specs.Prelude.{◌≢◌, MatchOption, IfOk}
use Rattle.std.specs.Int.Digits.{AllBelowBase}
use Rattle.std.proofs.lemmas.Str.Pattern.{IsSplitOnceResult, split_after}
use Rattle.ulid_core.specs.UlidText.{text_of, character}
use Rattle.ulid_core.proofs.Tables.{character-range}
use Rattle.ulid_core.proofs.UlidLaws.{IsUlidText-unique}
use Rattle.block_keys.specs.declared.key.Key.{Key}
use Rattle.block_keys.specs.declared.key.Key.TheVariants.{Segment}
use Rattle.block_keys.specs.Keys.{key_ulid}
use Rattle.block_keys.specs.KeyText.{IsKeyText, key_text, name_of, six_digits}
use Rattle.block_content.specs.Shipped.{IsBehindSlash}

abbrev HasNoSlash : List ℕ → Type 0
HasNoSlash text = (i : ℕ) → i < length text → get_or text i 0 ≢ 47

none_yet : HasNoSlash []
none_yet i lt = absurd (omega (arith, lt))

one_more : (c : ℕ) (cs : List ℕ) → c ≢ 47 → HasNoSlash cs → HasNoSlash (c ∷ cs)
one_more c cs first others zero lt = first
one_more c cs first others (suc i) lt = others i (omega (arith, lt))

digits_no_slash : (digits : List ℕ) → AllBelowBase 32 digits → HasNoSlash (map character digits)
digits_no_slash [] all = none_yet
digits_no_slash (d ∷ digits) all = one_more (character d) (map character digits) (λ e. let r = character-range d all.0 in absurd (omega (arith, r, e))) (digits_no_slash digits all.1)

-- a key's text has its name behind the first slash
pub key_behind : (text : List ℕ) (key : Key) → text ≡ key_text key → IsKeyText text key → IsBehindSlash text (text_of (key_ulid key)) (name_of key)
unfolding key_text
key_behind text key is written =
    let block = written.is_block in
    let same : map character block.digits ≡ text_of (key_ulid key) = sym block.characters ∙ IsUlidText-unique written.block (key_ulid key) block in
    record { text_is = is ∙ append_assoc (text_of (key_ulid key)) (codes "/") (name_of key); first = subst HasNoSlash same (digits_no_slash block.digits block.below_base) }

letters : HasNoSlash (codes "chunks")
letters =
    one_more 99 (104 ∷ 117 ∷ 110 ∷ 107 ∷ 115 ∷ []) (λ e. absurd (omega (arith, e))) (one_more 104 (117 ∷ 110 ∷ 107 ∷ 115 ∷ []) (λ e. absurd (omega (arith, e)))
    (one_more 117 (110 ∷ 107 ∷ 115 ∷ []) (λ e. absurd (omega (arith, e))) (one_more 110 (107 ∷ 115 ∷ []) (λ e. absurd (omega (arith, e)))
    (one_more 107 (115 ∷ []) (λ e. absurd (omega (arith, e))) (one_more 115 [] (λ e. absurd (omega (arith, e))) none_yet)))))

-- a segment's name has its digits behind the slash
pub segment_behind : (name : List ℕ) (ulid number : ℕ) → name ≡ name_of (Segment ulid number) → IsBehindSlash name (codes "chunks") (six_digits number)
unfolding name_of
segment_behind name ulid number is = record { text_is = is; first = letters }

-- ---- where a text is cut

pub cut_behind : (text before rest : List ℕ) (r : Option (Bor (List ℕ) × Bor (List ℕ))) → IsSplitOnceResult 47 text r → IsBehindSlash text before rest → MatchOption r ⊥ (λ x. (x.0.now ≡ before) × (x.1.now ≡ rest))
cut_behind text before rest r cut is = split_after 47 text before rest r cut (omega arith) is.text_is is.first

-- ---- names that are handed on

pub moved_name : {E : Type 0} (r : Result (List ℕ) E) (a b : List ℕ) → IfOk r (λ t. t ≡ a) → a ≡ b → IfOk r (λ t. t ≡ b)
moved_name (Ok t) a b is same = is ∙ same
moved_name (Err e) a b is same = tt
