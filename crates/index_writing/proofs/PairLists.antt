-- Loops over two lists at once, which append what each pair makes: what is left, behind what was appended, makes the whole.
use Rattle.base.proofs.Lists.{AllByRecursion-push}
use Rattle.std.proofs.Common.{◌≡◌, ℕ, ◌+◌, ◌<◌, List, [], ◌∷◌, ◌++◌, length, get_or, take, zip, sym, ap, subst, ◌∙◌, refl, append_assoc, ◌⊎◌, inl, inr}
use Rattle.std.specs.List.{AllByRecursion, flat_map}
use Rattle.std.proofs.lemmas.List.{append-nil, take_more}
use Rattle.std.proofs.lemmas.List.Concat.{flat_map-cons}

module _ {A B C : Type 0} (F : List A → List B → List C) where
  pub two_more : (g : A → B → List C) → ((x : A) (y : B) (xs : List A) (ys : List B) → F (x ∷ xs) (y ∷ ys) ≡ g x y ++ F xs ys) → (xs rest : List A) (ys others : List B) (x : A) (y : B) (old new whole : List C) → xs ≡ x ∷ rest → ys ≡ y ∷ others → old ++ F xs ys ≡ whole → new ≡ old ++ g x y → new ++ F rest others ≡ whole
  two_more g law xs rest ys others x y old new _ first second so_far is =
      let next = ap (λ l. F l ys) first ∙ ap (F (x ∷ rest)) second ∙ law x y rest others in
      ap (λ l. l ++ F rest others) is ∙ append_assoc old (g x y) (F rest others) ∙ ap (λ l. old ++ l) (sym next) ∙ so_far

  pub two_all : ((ys : List B) → F [] ys ≡ []) → ((xs : List A) → F xs [] ≡ []) → (xs : List A) (ys : List B) (old whole : List C) → (xs ≡ []) ⊎ (ys ≡ []) → old ++ F xs ys ≡ whole → old ≡ whole
  two_all none _ _ ys old _ (inl e) so_far = sym (append-nil old) ∙ ap (λ l. old ++ l) (sym (ap (λ l. F l ys) e ∙ none ys)) ∙ so_far
  two_all _ none xs _ old _ (inr e) so_far = sym (append-nil old) ∙ ap (λ l. old ++ l) (sym (ap (F xs) e ∙ none xs)) ∙ so_far

module _ {A B : Type 0} where
  zip_nil : (xs : List A) (ys : List B) → ys ≡ [] → zip xs ys ≡ []
  zip_nil [] ys e = refl
  zip_nil (x ∷ xs) ys e = ap (zip (x ∷ xs)) e

  -- the texts of pairs
  pub pairs_more : (text_of : A × B → List ℕ) (xs rest : List A) (ys others : List B) (x : A) (y : B) (old new whole : List ℕ) → (xs ≡ x ∷ rest) × (ys ≡ y ∷ others) → old ++ flat_map text_of (zip xs ys) ≡ whole → new ≡ old ++ text_of (x, y) → new ++ flat_map text_of (zip rest others) ≡ whole
  pairs_more text_of xs rest ys others x y old new whole is so_far put = two_more (λ xs ys. flat_map text_of (zip xs ys)) (λ x y. text_of (x, y)) (λ x y xs ys. flat_map-cons text_of (x, y) (zip xs ys)) xs rest ys others x y old new whole is.0 is.1 so_far put

  pub pairs_all : (text_of : A × B → List ℕ) (xs : List A) (ys : List B) (old whole : List ℕ) → (xs ≡ []) ⊎ (ys ≡ []) → old ++ flat_map text_of (zip xs ys) ≡ whole → old ≡ whole
  pairs_all text_of = two_all (λ xs ys. flat_map text_of (zip xs ys)) (λ ys. refl) (λ xs. ap (flat_map text_of) (zip_nil xs [] refl))

  -- what holds of the pairs that are left
  pub fit_more : (P : A × B → Type 0) (xs rest : List A) (ys others : List B) (x : A) (y : B) → (xs ≡ x ∷ rest) × (ys ≡ y ∷ others) → P (x, y) → AllByRecursion P (zip rest others) → AllByRecursion P (zip xs ys)
  fit_more P xs rest ys others x y is one all = subst (AllByRecursion P) (sym (ap (λ l. zip l ys) is.0 ∙ ap (zip (x ∷ rest)) is.1)) (one, all)

  pub fit_end : (P : A × B → Type 0) (xs : List A) (ys : List B) → (xs ≡ []) ⊎ (ys ≡ []) → AllByRecursion P (zip xs ys)
  fit_end P _ ys (inl e) = subst (λ l. AllByRecursion P (zip l ys)) (sym e) tt
  fit_end P xs ys (inr e) = subst (AllByRecursion P) (sym (zip_nil xs ys e)) tt

pub all_take_more : {A : Type 0} (P : A → Type 0) (d : A) (xs : List A) (i : ℕ) (x : A) → AllByRecursion P (take i xs) → P x → x ≡ get_or xs i d → i < length xs → AllByRecursion P (take (i + 1) xs)
all_take_more {A} P d xs i x all one at lt = subst (λ l. AllByRecursion P l) (sym (take_more _ i d lt ∙ ap (λ n. take i xs ++ n ∷ []) (sym at))) (AllByRecursion-push P _ x all one)
