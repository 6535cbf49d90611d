-- The listed numbers ascending, each once: the one list that rises and has their members.
use Rattle.std.proofs.Common.{◌≡◌, ◌↔◌, ℕ, ◌<◌, ◌≤◌, List, [], ◌∷◌, Less, Equal, Greater, Ordering, nat_cmp, fold, ◌⊎◌, inl, inr, All, Contains, refl, sym, ap₂, subst, ◌∙◌, arith}
use Rattle.std.specs.List.{AllByRecursion}
use Rattle.std.specs.List.Sorted.{IsStrictlySortedBy, IsStrictlyIncreasing}
use Rattle.std.specs.Ordering.{match_ordering}
use Rattle.std.specs.BTreeSet.{insert_key}
use Rattle.std.proofs.lemmas.Cmp.{nat_cmp_total}
use Rattle.std.proofs.lemmas.List.Elements.{All-contains, All-contains_itself, All-head, All-nil, All-tail, All-from_recursion, recursion_from_All}
use Rattle.std.proofs.lemmas.Map.Views.{All-insert_key}
use Rattle.std.proofs.lemmas.Map.Keys.{sorted_from_strictly_increasing, IsStrictlyIncreasing-from_sorted}
use Rattle.base.proofs.Bools.{nat_cmp-Less, lt-from_Less, same-from_Equal, gt-from_Greater}
use Rattle.base.proofs.Lists.{AllByRecursion-weaker}
use Rattle.base.proofs.Membership.{contains_first, contains_later, no_member, member_cases, each_member}
use Rattle.block_meta.specs.Lawful.{ascending}

first_in : (x u : ℕ) (xs : List ℕ) → x ≡ u → Contains (x ∷ xs) u
first_in x u xs e = subst (Contains (x ∷ xs)) e (contains_first x _)

abbrev IsBelow : ℕ → List ℕ → Type 0
IsBelow x xs = AllByRecursion (λ y. nat_cmp x y ≡ Less) xs

pub above_all : (x u : ℕ) (xs : List ℕ) → AllByRecursion (λ y. nat_cmp x y ≡ Less) xs → Contains xs u → x < u
above_all x u _ h c = lt-from_Less x u (each_member _ _ u h c)

-- ---- one number more

insert_rises_at : (k x : ℕ) (xs : List ℕ) (o : Ordering) → nat_cmp k x ≡ o → IsStrictlySortedBy nat_cmp (x ∷ xs) → IsStrictlySortedBy nat_cmp (insert_key nat_cmp xs k) → IsStrictlySortedBy nat_cmp (match_ordering o (k ∷ x ∷ xs) (x ∷ xs) (x ∷ insert_key nat_cmp xs k))
unfolding IsStrictlySortedBy
insert_rises_at k x _ Less e h later = ((e, AllByRecursion-weaker _ _ (λ y less. nat_cmp_total.trans k x y e less) _ h.0), h)
insert_rises_at k x _ Equal e h later = h
insert_rises_at k x _ Greater e h later = (recursion_from_All _ _ (All-insert_key _ k (λ y. nat_cmp x y ≡ Less) _ (All-from_recursion _ _ h.0) (nat_cmp-Less x k (gt-from_Greater k x e))), later)

insert_rises : (k : ℕ) (xs : List ℕ) → IsStrictlySortedBy nat_cmp xs → IsStrictlySortedBy nat_cmp (insert_key nat_cmp xs k)
unfolding IsStrictlySortedBy
insert_rises k [] h = (tt, tt)
insert_rises k (x ∷ xs) h = insert_rises_at k x xs (nat_cmp k x) refl h (insert_rises k xs h.1)

insert_to_at : (k x u : ℕ) (xs made : List ℕ) (o : Ordering) → nat_cmp k x ≡ o → (Contains xs u ⊎ (k ≡ u) → Contains made u) → Contains (x ∷ xs) u ⊎ (k ≡ u) → Contains (match_ordering o (k ∷ x ∷ xs) (x ∷ xs) (x ∷ made)) u
insert_to_at k x u xs _ Less e later (inl c) = contains_later k u (x ∷ xs) c
insert_to_at k x u xs _ Less e later (inr f) = first_in k u (x ∷ xs) f
insert_to_at k x u _ _ Equal e later (inl c) = c
insert_to_at k x u _ _ Equal e later (inr f) = first_in x u _ (sym (same-from_Equal k x e) ∙ f)
insert_to_at k x u _ _ Greater e later (inl c) = elim (member_cases x u _ c) [ inl f ↦ first_in x u _ f | inr d ↦ contains_later x u _ (later (inl d)) ]
insert_to_at k x u _ _ Greater e later (inr f) = contains_later x u _ (later (inr f))

insert_to : (k u : ℕ) (xs : List ℕ) → Contains xs u ⊎ (k ≡ u) → Contains (insert_key nat_cmp xs k) u
insert_to k u [] (inl c) = absurd (no_member u c)
insert_to k u [] (inr e) = first_in k u [] e
insert_to k u (x ∷ xs) c = insert_to_at k x u xs _ (nat_cmp k x) refl (insert_to k u xs) c

-- ---- all of them

fold_rises : (made xs : List ℕ) → IsStrictlySortedBy nat_cmp made → IsStrictlySortedBy nat_cmp (fold (insert_key nat_cmp) made xs)
fold_rises _ [] h = h
fold_rises made (x ∷ xs) h = fold_rises (insert_key nat_cmp made x) xs (insert_rises x _ h)

fold_all : (P : ℕ → Type 0) (made xs : List ℕ) → All P made → All P xs → All P (fold (insert_key nat_cmp) made xs)
fold_all _ _ [] old all = old
fold_all P made (x ∷ xs) old all = fold_all P (insert_key nat_cmp made x) xs (All-insert_key _ x P _ old (All-head P x _ all)) (All-tail P x _ all)

fold_to : (u : ℕ) (made xs : List ℕ) → Contains made u ⊎ Contains xs u → Contains (fold (insert_key nat_cmp) made xs) u
fold_to u _ [] (inl c) = c
fold_to u _ [] (inr c) = absurd (no_member u c)
fold_to u made (x ∷ xs) (inl c) = fold_to u (insert_key nat_cmp made x) xs (inl (insert_to x u made (inl c)))
fold_to u made (x ∷ xs) (inr c) = fold_to u (insert_key nat_cmp made x) xs (elim (member_cases x u _ c) [ inl e ↦ inl (insert_to x u made (inr e)) | inr d ↦ inr d ])

pub ascending_rises : (xs : List ℕ) → IsStrictlyIncreasing (ascending xs)
unfolding IsStrictlySortedBy
ascending_rises xs = IsStrictlyIncreasing-from_sorted _ (fold_rises [] xs tt)

pub ascending_same : (xs : List ℕ) (u : ℕ) → Contains xs u ↔ Contains (ascending xs) u
ascending_same xs u = (λ c. fold_to u [] xs (inr c), All-contains (Contains xs) _ u (fold_all (Contains xs) [] xs (All-nil _) (All-contains_itself xs)))

-- ---- there is one such list

least : (x u : ℕ) (xs : List ℕ) → IsBelow x xs → Contains (x ∷ xs) u → x ≤ u
least x u _ h c = elim (member_cases x u _ c) [ inl e ↦ omega arith | inr d ↦ omega (arith, above_all x u _ h d) ]

without_first : (x u : ℕ) (xs ys : List ℕ) → IsBelow x xs → (Contains (x ∷ xs) u → Contains (x ∷ ys) u) → Contains xs u → Contains ys u
without_first x u _ _ h to c = elim (member_cases x u _ (to (contains_later x u _ c))) [ inl e ↦ let p = above_all x u _ h c in absurd (omega arith) | inr d ↦ d ]

unique_sorted : (xs ys : List ℕ) → IsStrictlySortedBy nat_cmp xs → IsStrictlySortedBy nat_cmp ys → ((u : ℕ) → Contains xs u ↔ Contains ys u) → xs ≡ ys
unfolding IsStrictlySortedBy
unique_sorted [] [] hx hy same = refl
unique_sorted [] (y ∷ ys) hx hy same = absurd (no_member y ((same y).1 (contains_first y _)))
unique_sorted (x ∷ xs) [] hx hy same = absurd (no_member x ((same x).0 (contains_first x _)))
unique_sorted (x ∷ xs) (y ∷ ys) hx hy same =
    let p = least y x _ hy.0 ((same x).0 (contains_first x _)) in
    let q = least x y _ hx.0 ((same y).1 (contains_first y _)) in
    let e : x ≡ y = omega arith in
    let hy' = subst (λ n. IsBelow n ys) (sym e) hy.0 in
    let same' = subst (λ n. (u : ℕ) → Contains (x ∷ xs) u ↔ Contains (n ∷ ys) u) (sym e) same in
    ap₂ (λ n ns. n ∷ ns) e (unique_sorted xs ys hx.1 hy.1 (λ u. (without_first x u xs ys hx.0 (same' u).0, without_first x u ys xs hy' (same' u).1)))

-- a list that rises and has the members of the listed ones is those ascending
pub ascending_only : (listed xs : List ℕ) → IsStrictlyIncreasing xs → ((u : ℕ) → Contains listed u ↔ Contains xs u) → ascending listed ≡ xs
ascending_only listed xs rising same =
    unique_sorted (ascending listed) _ (sorted_from_strictly_increasing _ (ascending_rises listed)) (sorted_from_strictly_increasing _ rising)
    (λ u. (λ c. (same u).0 ((ascending_same listed u).1 c), λ c. (ascending_same listed u).0 ((same u).1 c)))
