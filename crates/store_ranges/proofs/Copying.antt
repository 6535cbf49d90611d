-- A cache that is filled again from its ranges, the one that was used longest ago first.
use Rattle.std.proofs.Common.{◌≡◌, ℕ, ◌+◌, ◌-◌, ◌<◌, ◌≤◌, Bool, true, false, List, [], ◌∷◌, ◌++◌, length, map, take, Option, Some, None, refl, sym, ◌∙◌, ap, ap₂, subst, arith, length-append, append_assoc, append-nil}
use Rattle.std.specs.List.{AllByRecursion, IsDistinct}
use Rattle.std.specs.Map.{keys_of, lookup_entry, remove_entry}
use Rattle.std.specs.Option.{option_map_or}
use Rattle.std.proofs.lemmas.List.{take_all}
use Rattle.lru.specs.LruCache.{LruCache, lru_cache, put_entries}

module _ {K V : Type 0} (eq : K → K → Bool) where
  -- a key that differs from all is not found
  unfound : (k : K) (es : List (K × V)) → AllByRecursion (λ q. eq k q ≡ false) (keys_of es) → lookup_entry (eq k) es ≡ None
  unfound k [] none = refl
  unfound k (e ∷ es) none = let first : eq k e.0 ≡ false = none.0 in rw first (unfound k es none.1)

  -- each key differs from those behind it
  behind : (front : List (K × V)) (e : K × V) (es : List (K × V)) → IsDistinct eq (keys_of (front ++ e ∷ es)) → AllByRecursion (λ q. eq e.0 q ≡ false) (keys_of es)
  unfolding IsDistinct
  behind [] e es apart = apart.0
  behind (x ∷ front) e es apart = behind front e es apart.1

  -- so it is put in front of them
  pub put_in_front : (all front es : List (K × V)) (c next : LruCache K V) (k : K) (v : V) → IsDistinct eq (keys_of all) → length all ≤ c.cap → all ≡ front ++ (k, v) ∷ es → c.entries ≡ es → next ≡ lru_cache (put_entries eq c k v) c.cap → (next.entries ≡ (k, v) ∷ es) × (next.cap ≡ c.cap)
  put_in_front all front es c next k v apart room parts own is =
      let none : lookup_entry (eq k) c.entries ≡ None = ap (lookup_entry (eq k)) own ∙ unfound k es (behind front (k, v) es (subst (λ l. IsDistinct eq (keys_of l)) parts apart)) in
      let long = ap length parts ∙ length-append front ((k, v) ∷ es) in
      let fits : length c.entries ≤ c.cap - 1 = (let same = ap length own in omega (arith, long, room, same)) in
      let put : put_entries eq c k v ≡ (k, v) ∷ es =
      ap (λ o. option_map_or (λ e. (e.0, v) ∷ remove_entry (eq k) c.entries) o ((k, v) ∷ take (c.cap - 1) c.entries)) none ∙ ap (λ l. (k, v) ∷ l) (take_all (c.cap - 1) c.entries fits ∙ own) in
      (ap (λ (x : LruCache K V). x.entries) is ∙ put, ap (λ (x : LruCache K V). x.cap) is)

  -- the last that is left is put
  pub copy_step : (all old new : List (K × V)) (c next : LruCache K V) (cap : ℕ) (k : K) (v : V) → IsDistinct eq (keys_of all) → length all ≤ cap → (all ≡ old ++ c.entries) × (c.cap ≡ cap) → old ≡ new ++ (k, v) ∷ []
      → next ≡ lru_cache (put_entries eq c k v) c.cap → (all ≡ new ++ next.entries) × (next.cap ≡ cap)
  copy_step all old new c next cap k v apart room (parts, same) last is =
      let whole : all ≡ new ++ (k, v) ∷ c.entries = parts ∙ ap (λ (l : List (K × V)). l ++ c.entries) last ∙ append_assoc new ((k, v) ∷ []) c.entries in
      let put = put_in_front all new c.entries c next k v apart (subst (λ (n : ℕ). length all ≤ n) (sym same) room) whole refl is in
      (whole ∙ ap (λ (l : List (K × V)). new ++ l) (sym put.0), put.1 ∙ same)

-- nothing was put yet
pub none_copied : {K V : Type 0} (of made : LruCache K V) (left : List (K × V)) (cap : ℕ) → left ≡ of.entries → made ≡ lru_cache [] cap → cap ≡ of.cap → (of.entries ≡ left ++ made.entries) × (made.cap ≡ of.cap)
none_copied {K} {V} of made left cap all none same = (
  sym (ap₂ (λ (a b : List (K × V)). a ++ b) all (ap (λ (x : LruCache K V). x.entries) none) ∙ append-nil of.entries),
  ap (λ (x : LruCache K V). x.cap) none ∙ same,
)

-- none is left
pub copied : {K V : Type 0} (of made : LruCache K V) (left : List (K × V)) → (of.entries ≡ left ++ made.entries) × (made.cap ≡ of.cap) → left ≡ [] → made ≡ of
copied of made left (parts, same) none =
    ap₂ lru_cache (sym (parts ∙ ap (λ l. l ++ made.entries) none)) same
