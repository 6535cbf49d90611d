-- There is one way to cut a list into its longest stretches.
use Rattle.std.proofs.Common.{◌≡◌, List, [], ◌∷◌, ◌++◌, refl, sym, ap₂, subst, ◌∙◌}
use Rattle.std.specs.Prelude.{flat_map}
use Rattle.std.specs.List.{AllByRecursion}
use Rattle.store_ranges.specs.Stretches.{Stretch, members, last_behind, AreJoined, IsJoined, BeginAnew, AreLongest, AreStretches}

module _ {A : Type 0} (Joins : A → A → Type 0) where
  -- what is known of the stretches that make up a list
  abbrev pub AreCut : List (Stretch A) → Type 0
  AreCut stretches = AllByRecursion (IsJoined Joins) stretches × AreLongest Joins stretches

  abbrev pub AsOther : List (Stretch A) → Type 0
  AsOther ones = (others : List (Stretch A)) → AreCut ones → AreCut others → flat_map members ones ≡ flat_map members others → ones ≡ others

  -- the other cut goes on with a member that joins where this one begins anew: that cannot be
  begins_there : (one two : A) (twos : List A) (next : List (Stretch A)) → BeginAnew Joins one next → flat_map members next ≡ two ∷ twos → Joins one two → ⊥
  begins_there one two twos [] anew same joins = cc
  begins_there one two twos (first ∷ next) anew same joins =
      let begins : first.first ≡ two = cc in
      anew (subst (Joins one) (sym begins) joins)

  abbrev Same : A → List A → List (Stretch A) → A → List A → List (Stretch A) → Type 0
  Same x xs ones y ys others = (x ≡ y) × (xs ≡ ys) × (ones ≡ others)

  within : (ones : List (Stretch A)) → AsOther ones → (xs : List A) (x y : A) (ys : List A) (others : List (Stretch A)) → AreJoined Joins x xs → BeginAnew Joins (last_behind x xs) ones → AreCut ones → AreJoined Joins y ys → BeginAnew Joins (last_behind y ys) others → AreCut others → x ∷ (xs ++ flat_map members ones) ≡ y ∷ (ys ++ flat_map members others) → Same x xs ones y ys others
  within ones as_other [] x y [] others joined anew cut joins news cuts same =
      let head : x ≡ y = cc in
      let rest : flat_map members ones ≡ flat_map members others = cc in
      (head, refl, as_other others cut cuts rest)
  within ones as_other [] x y (y2 ∷ ys) others joined anew cut joins news cuts same =
      let head : x ≡ y = cc in
      let rest : flat_map members ones ≡ y2 ∷ (ys ++ flat_map members others) = cc in
      absurd (begins_there x y2 (ys ++ flat_map members others) ones anew rest (subst (λ z. Joins z y2) (sym head) joins.0))
  within ones as_other (x2 ∷ xs) x y [] others joined anew cut joins news cuts same =
      let head : x ≡ y = cc in
      let rest : flat_map members others ≡ x2 ∷ (xs ++ flat_map members ones) = cc in
      absurd (begins_there y x2 (xs ++ flat_map members ones) others news rest (subst (λ z. Joins z x2) head joined.0))
  within ones as_other (x2 ∷ xs) x y (y2 ∷ ys) others joined anew cut joins news cuts same =
      let head : x ≡ y = cc in
      let rest : x2 ∷ (xs ++ flat_map members ones) ≡ y2 ∷ (ys ++ flat_map members others) = cc in
      let later = within ones as_other xs x2 y2 ys others joined.1 anew cut joins.1 news cuts rest in
      (head, ap₂ (λ z zs. z ∷ zs) later.0 later.1, later.2)

  abbrev made : A → List A → Stretch A
  made x xs = record { first = x; others = xs }

  one_list : (ones : List (Stretch A)) → AsOther ones
  one_list [] [] cut cuts same = refl
  one_list [] (other ∷ others) cut cuts same = absurd (cc)
  one_list (one ∷ ones) [] cut cuts same = absurd (cc)
  one_list (one ∷ ones) (other ∷ others) cut cuts same =
      let first = within ones (one_list ones) one.others one.first other.first other.others others cut.0.0 cut.1.0 (cut.0.1, cut.1.1) cuts.0.0 cuts.1.0 (cuts.0.1, cuts.1.1) same in
      ap₂ (λ s ss. s ∷ ss) (ap₂ made first.0 first.1) first.2

  pub one_cut : (list : List A) (one other : List (Stretch A)) → AreStretches Joins list one → AreStretches Joins list other → one ≡ other
  one_cut list one other is so = one_list one other (is.joined, is.longest) (so.joined, so.longest) (is.whole ∙ sym so.whole)
