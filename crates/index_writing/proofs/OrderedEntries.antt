-- Lists each member of which stands in a relation to those behind it.
use Rattle.std.proofs.lemmas.List.Elements.{All-from_recursion, recursion_from_All, Contains-get_or}
use Rattle.std.proofs.lemmas.List.Kept.{AllPairs-cons}
use Rattle.std.proofs.Common.{ℕ, suc, ◌<◌, arith, List, [], ◌∷◌, ◌++◌, map, Option, Some}
use Rattle.std.specs.List.{AllByRecursion, AllPairs, Contains}
use Rattle.base.specs.Order.{InOrderAfter}
use Rattle.base.proofs.Lists.{AllByRecursion-append}
use Rattle.base.proofs.Membership.{contains_first, contains_later, all_members}

abbrev pub Below : ℕ → ℕ → Type 0
Below n m = n < m

module _ {A : Type 0} (R : A → A → Type 0) where
  pub no_pairs : AllPairs R []
  no_pairs i j d below within = absurd (omega arith)

  pub pairs_cons : (x : A) (xs : List A) → AllByRecursion (R x) xs → AllPairs R xs → AllPairs R (x ∷ xs)
  pairs_cons x _ first others = AllPairs-cons R x _ (All-from_recursion (R x) _ first) others

  pub first_pairs : (x : A) (xs : List A) → AllPairs R (x ∷ xs) → AllByRecursion (R x) xs
  first_pairs x _ all = recursion_from_All (R x) _ (λ k d within. all 0 (suc k) d (omega arith) (omega arith))

  pub later_pairs : (x : A) (xs : List A) → AllPairs R (x ∷ xs) → AllPairs R xs
  later_pairs x _ all i j d below within = all (suc i) (suc j) d (omega arith) (omega arith)

  pub pairs_append : (xs ys : List A) → AllPairs R xs → AllPairs R ys → ((x y : A) → Contains xs x → Contains ys y → R x y) → AllPairs R (xs ++ ys)
  pairs_append [] _ up others across = others
  pairs_append (x ∷ xs) ys up others across =
      pairs_cons x _ (AllByRecursion-append _ xs _ (first_pairs x _ up) (all_members _ ys (λ y h. across x y (contains_first x _) h)))
      (pairs_append xs _ (later_pairs x _ up) others (λ z y h i. across z y (contains_later x z _ h) i))

  -- another relation that follows from this one at members
  pub pairs_so : (S : A → A → Type 0) (xs : List A) → ((x y : A) → Contains xs x → Contains xs y → R x y → S x y) → AllPairs R xs → AllPairs S xs
  pairs_so S xs so up i j d below within = so _ _ (Contains-get_or xs i d (omega arith)) (Contains-get_or xs j d within) (up i j d below within)

-- in pairs, each may follow those before it
module _ {A B : Type 0} (MayFollow : Option B → B → Type 0) (f : A → B) where
  abbrev Next : A → A → Type 0
  Next x y = MayFollow (Some (f x)) (f y)

  pub pairs_in_order : (before : Option B) (xs : List A) → AllByRecursion (λ x. MayFollow before (f x)) xs → AllPairs Next xs → InOrderAfter MayFollow before (map f xs)
  pairs_in_order _ [] all up = tt
  pairs_in_order _ (x ∷ xs) all up = (all.0, pairs_in_order (Some (f x)) xs (first_pairs Next x _ up) (later_pairs Next x _ up))
