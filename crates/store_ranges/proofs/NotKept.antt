-- A range that a cache has not got.
use Rattle.std.proofs.Common.{◌≡◌, Bool, List, ◌∷◌, Option, Some, None, option_map, refl, ap, ◌∙◌}
use Rattle.std.specs.Map.{lookup, lookup_entry, remove_entry}
use Rattle.std.specs.Option.{option_map_or}
use Rattle.lru.proofs.Pairs.{lookup-lookup_entry}
use Rattle.lru.specs.LruCache.{promoted}

-- where no value is found, no pair is
none_found : {K V : Type 0} (o : Option (K × V)) → option_map (λ e. e.1) o ≡ None → o ≡ None
none_found None is = refl
none_found (Some e) is = absurd (cc (is))

module _ {K V : Type 0} (test : K → Bool) where
  pub no_entry : (es : List (K × V)) → lookup test es ≡ None → lookup_entry test es ≡ None
  no_entry es is = none_found (lookup_entry test es) (lookup-lookup_entry test es ∙ is)

  -- nothing moves to the front
  pub not_promoted : (es : List (K × V)) → lookup test es ≡ None → promoted test es ≡ es
  not_promoted es is = ap (λ (o : Option (K × V)). option_map_or (λ e. e ∷ remove_entry test es) o es) (no_entry es is)
