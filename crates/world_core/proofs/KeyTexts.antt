-- Texts of keys are keys of a bucket.
use Rattle.std.proofs.Common.{◌≡◌, ◌==◌, not, true, ℕ, ◌≤◌, List, [], ◌∷◌, ◌++◌, map, length, sym, ap, ◌∙◌, subst, arith, append_assoc}
use Rattle.std.proofs.lemmas.Bool.Decides.{nat_tests}
use Rattle.std.specs.Int.Digits.{AllBelowBase}
use Rattle.ulid_core.specs.UlidText.{character}
use Rattle.block_keys.specs.KeyText.{IsKeyText}
use Rattle.block_keys.specs.declared.key.Key.{Key}
use Rattle.bucket_core.specs.Contents.{IsKey}
use Rattle.ulid_core.proofs.Tables.{character-range}

-- a key's text begins with a character of its ULID, which is no slash
no_slash : (c : ℕ) → 48 ≤ c → not (c == 47) ≡ true
no_slash c high = grind (arith, nat_tests)

starts : (digits others : List ℕ) → length digits ≡ 26 → AllBelowBase 32 digits → IsKey (map character digits ++ others)
starts [] others count low = absurd (omega arith)
starts (d ∷ ds) others count low = no_slash (character d) (omega (arith, character-range d low.0))

pub IsKey-text : (bytes text : List ℕ) (key : Key) → bytes ≡ text → IsKeyText text key → IsKey bytes
IsKey-text bytes text key same is =
    let b = is.is_block in
    let split : bytes ≡ map character b.digits ++ (47 ∷ is.name) = same ∙ is.text_is ∙ append_assoc is.block (47 ∷ []) is.name ∙ ap (λ t. t ++ (47 ∷ is.name)) b.characters in
    subst IsKey (sym split) (starts b.digits (47 ∷ is.name) b.count b.below_base)
