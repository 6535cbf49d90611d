-- One file: what reading it gives is what the shelf has.
use Rattle.std.proofs.Common.{◌≡◌, ℕ, ◌<◌, ◌≤◌, List, length, Bool, true, false, cond, Option, None, Some, Result, Ok, Err, refl, sym, ap, subst, ◌∙◌, arith, ◌⊎◌, inl, inr}
use Rattle.std.specs.Prelude.{IsSomeAnd, IfSome, nat_lt}
use Rattle.std.proofs.lemmas.Bool.Decides.{nat_tests}
use Rattle.base.proofs.Binds.{cond_ok, cond_is, ok_is, err_is}
use Rattle.block_keys.specs.declared.key.Key.{Key}
use Rattle.block_keys.specs.KeyText.{key_text}
use Rattle.block_content.specs.declared.check_refusal.CheckRefusal.{CheckRefusal}
use Rattle.block_content.specs.declared.check_refusal.CheckRefusal.TheVariants.{NoFile, TooLarge}
use Rattle.bucket_core.specs.Contents.{Contents}
use Rattle.bucket_core.specs.Files.{ShowsFile}
use Rattle.bucket_core.specs.declared.answer.ShelfAnswer.{ShelfAnswer}
use Rattle.block_loading.specs.Loading.{HasFile, limit_of}
use Rattle.block_loading.specs.LoadReading.{Loads, file_in, file_at}
use Rattle.block_loading.specs.declared.load_refusal.LoadRefusal.{LoadRefusal}
use Rattle.block_loading.specs.declared.load_refusal.LoadRefusal.TheVariants.{Refused}

module _ (most : ℕ) (bytes : List ℕ) where
  pub small : nat_lt most (length bytes) ≡ false → length bytes ≤ most
  small e = grind (arith, nat_tests)

  pub not_large : length bytes ≤ most → nat_lt most (length bytes) ≡ false
  not_large le = grind (arith, nat_tests)

  large : nat_lt most (length bytes) ≡ true → most < length bytes
  large e = grind (arith, nat_tests)

  pub is_large : most < length bytes → nat_lt most (length bytes) ≡ true
  is_large lt = grind (arith, nat_tests)

in_found : (key : Key) (file : Option (List ℕ)) (bytes : List ℕ) → file_in key file ≡ Ok bytes → (file ≡ Some bytes) × (length bytes ≤ limit_of key)
in_found key None bytes e = absurd cc
in_found key (Some other) bytes e =
    let p = cond_ok _ _ _ _ e in
    let same : other ≡ bytes = ok_is {E = LoadRefusal} other bytes p.1 in
    (ap (λ (b : List ℕ). Some b) same, subst (λ (b : List ℕ). length b ≤ limit_of key) same (small (limit_of key) other p.0))

-- why a file is refused
abbrev pub RefusesFile : Contents → Key → CheckRefusal → Type 0
RefusesFile told key refusal = ((refusal ≡ NoFile key) × (told (key_text key) ≡ None)) ⊎ ((refusal ≡ TooLarge key) × IsSomeAnd (told (key_text key)) (λ bytes. limit_of key < length bytes))

in_refused : (key : Key) (file : Option (List ℕ)) (e : LoadRefusal) → file_in key file ≡ Err e → (refusal : CheckRefusal) × (e ≡ Refused refusal) × (((refusal ≡ NoFile key) × (file ≡ None)) ⊎ ((refusal ≡ TooLarge key) × IsSomeAnd file (λ bytes. limit_of key < length bytes)))
in_refused key None e h = (NoFile key, err_is {A = List ℕ} e (Refused (NoFile key)) (sym h), inl (refl, refl))
in_refused key (Some bytes) e h =
    elim (cond_is (nat_lt (limit_of key) (length bytes)) (Err (Refused (TooLarge key))) (Ok bytes) (Err e) h) [
      | inl (over, same) ↦ (TooLarge key, err_is {A = List ℕ} e (Refused (TooLarge key)) (sym same), inr (refl, large (limit_of key) bytes over))
      | inr (under, same) ↦ absurd cc
    ]

in_large : (key : Key) (file : Option (List ℕ)) → IsSomeAnd file (λ bytes. limit_of key < length bytes) → file_in key file ≡ Err (Refused (TooLarge key))
in_large key None is = absurd is
in_large key (Some bytes) is = rw (is_large (limit_of key) bytes is) refl

module _ (told : Contents) (key : Key) where
  pub file_found : (bytes : List ℕ) → file_at told key ≡ Ok bytes → HasFile told key bytes
  unfolding file_at
  file_found bytes e = let is = in_found key (told (key_text key)) bytes e in record { stands = is.0; within = is.1 }

  pub file_again : (bytes : List ℕ) → HasFile told key bytes → file_at told key ≡ Ok bytes
  unfolding file_at
  file_again bytes is = ap (file_in key) is.stands ∙ ap (λ (b : Bool). cond b (Err (Refused (TooLarge key))) (Ok bytes)) (not_large (limit_of key) bytes is.within)

  pub file_refused : (e : LoadRefusal) → file_at told key ≡ Err e → (refusal : CheckRefusal) × (e ≡ Refused refusal) × RefusesFile told key refusal
  unfolding file_at
  file_refused e h = in_refused key (told (key_text key)) e h

  pub file_absent : told (key_text key) ≡ None → file_at told key ≡ Err (Refused (NoFile key))
  unfolding file_at
  file_absent none = ap (file_in key) none

  pub file_large : IsSomeAnd (told (key_text key)) (λ bytes. limit_of key < length bytes) → file_at told key ≡ Err (Refused (TooLarge key))
  unfolding file_at
  file_large is = in_large key (told (key_text key)) is

-- ---- what the shelf showed

pub read_is : (r : Result (List ℕ) LoadRefusal) (files : Option Contents) (told : Contents) (key : Key) (name : List ℕ) (answer : ShelfAnswer) → IfSome files (λ t. ShowsFile (t name) answer) → files ≡ Some told → name ≡ key_text key
    → ((file : Option (List ℕ)) → ShowsFile file answer → Loads (λ b. b) r (file_in key file)) → Loads (λ b. b) r (file_at told key)
unfolding file_at
read_is r files told key name answer shown same named says =
    let at : ShowsFile (told name) answer = subst (λ (f : Option Contents). IfSome f (λ t. ShowsFile (t name) answer)) same shown in
    says (told (key_text key)) (subst (λ (n : List ℕ). ShowsFile (told n) answer) named at)
