-- What holds of all pairs of a cache holds of them after a use, and after a range was kept of which it holds.
use Rattle.std.proofs.Common.{◌≡◌, Bool, true, false, cond, List, [], ◌∷◌, ◌-◌, take, Option, Some, None, refl, sym, subst}
use Rattle.std.specs.Prelude.{All}
use Rattle.std.specs.List.{AllByRecursion}
use Rattle.std.specs.Map.{lookup, lookup_entry, remove_entry}
use Rattle.std.specs.Option.{option_map_or}
use Rattle.std.proofs.lemmas.List.Elements.{All-cons, All-from_recursion, All-take, recursion_from_All}
use Rattle.lru.specs.LruCache.{LruCache, promoted, put_entries}
use Rattle.store_ranges.proofs.NotKept.{no_entry}

module _ {K V : Type 0} (P : K × V → Type 0) where
  abbrev Each : List (K × V) → Type 0
  Each es = AllByRecursion P es

  module _ (test : K → Bool) where
    by_test : (b : Bool) (e : K × V) (es less : List (K × V)) → P e → Each es → Each less → Each (cond b es (e ∷ less))
    by_test true e es less one all fewer = all
    by_test false e es less one all fewer = (one, fewer)

    removed : (es : List (K × V)) → Each es → Each (remove_entry test es)
    removed [] all = tt
    removed (e ∷ es) all = by_test (test e.0) e es (remove_entry test es) all.0 all.1 (removed es all.1)

    here_or_later : (b : Bool) (e found : K × V) (later : Option (K × V)) → P e → (later ≡ Some found → P found) → cond b (Some e) later ≡ Some found → P found
    here_or_later true e found later one more is = let same : e ≡ found = cc (is) in subst P same one
    here_or_later false e found later one more is = more is

    found_is : (es : List (K × V)) (found : K × V) → Each es → lookup_entry test es ≡ Some found → P found
    found_is [] found all is = absurd (cc (is))
    found_is (e ∷ es) found all is = here_or_later (test e.0) e found (lookup_entry test es) all.0 (found_is es found all.1) is

    by_entry : (o : Option (K × V)) (es : List (K × V)) → lookup_entry test es ≡ o → Each es → Each (option_map_or (λ e. e ∷ remove_entry test es) o es)
    by_entry None es is all = all
    by_entry (Some found) es is all = (found_is es found all is, removed es all)

    -- the pair that was used goes first
    pub all_promoted : (es : List (K × V)) → All P es → All P (promoted test es)
    all_promoted es all = All-from_recursion P (promoted test es) (by_entry (lookup_entry test es) es refl (recursion_from_All P es all))

  -- a pair that is kept, whose range was not there
  pub all_kept : (eq : K → K → Bool) (cache : LruCache K V) (k : K) (v : V) → lookup (eq k) cache.entries ≡ None → P (k, v) → All P cache.entries → All P (put_entries eq cache k v)
  all_kept eq cache k v none one all =
      subst (λ (o : Option (K × V)). All P (option_map_or (λ e. (e.0, v) ∷ remove_entry (eq k) cache.entries) o ((k, v) ∷ take (cache.cap - 1) cache.entries)))
      (sym (no_entry (eq k) cache.entries none)) (All-cons P (k, v) (take (cache.cap - 1) cache.entries) one (All-take P (cache.cap - 1) cache.entries all))
