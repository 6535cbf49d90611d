-- Objects of a list stand under keys alone.
use Rattle.std.specs.Prelude.{◌≡◌, true, cond, List, [], ◌∷◌, Some, IsSome, is_some}
use Rattle.std.specs.Str.{bytes_eq}
use Rattle.std.proofs.Common.{sym, ◌∙◌, ap, inl, inr, ℕ}
use Rattle.std.proofs.lemmas.Bool.{cases_Bool, and_parts}
use Rattle.std.proofs.lemmas.Slice.Eq.{bytes_eq-Decides}
use Rattle.bucket_core.specs.Contents.{Contents, is_key, IsKey}
use Rattle.bucket_core.specs.Stored.{object_in, have_keys}
use Rattle.bucket_core.specs.declared.objects.Stored.{Stored}

some_is_key : (os : List Stored) → have_keys os ≡ true → (key : List ℕ) → IsSome (object_in os key) → IsKey key
some_is_key [] keys key some = cc
some_is_key (o ∷ os) keys key some =
    let parts : _ = and_parts (is_key o.key) (have_keys os) keys in
    elim (cases_Bool (bytes_eq o.key key)) [
      | inl same ↦ ap is_key (sym ((bytes_eq-Decides o.key key).0 same)) ∙ parts.0
      | inr differs ↦ some_is_key os parts.1 key (sym (ap (λ b. is_some (cond b (Some o.bytes) (object_in os key))) differs) ∙ some)
    ]

pub told_is_key : (os : List Stored) → have_keys os ≡ true → (c : Contents) (key : List ℕ) → Some (object_in os) ≡ Some c → IsSome (c key) → IsKey key
told_is_key os keys c key told some =
    let same : object_in os ≡ c = cc in
    some_is_key os keys key (ap (λ f. is_some (f key)) same ∙ some)
