-- What sorting texts and dropping repeats leave, and the number of a text among them.
use Rattle.std.proofs.Common.{◌≡◌, ℕ, zero, suc, ◌+◌, ◌<◌, ◌≤◌, Bool, true, false, cond, List, [], ◌∷◌, length, get_or, sym, ap, subst, arith}
use Rattle.std.specs.List.{prefix_len}
use Rattle.std.specs.List.Sorted.{IsSortedBy, IsSorted, IsStable, IsStrictlySortedBy, IsPartitionedBy, IsPartitionPoint}
use Rattle.std.specs.Cmp.{IsStrictWeakOrder}
use Rattle.std.specs.Cmp.Lexicographic.{nat_list_cmp_total, texts_ties}
use Rattle.std.proofs.lemmas.List.Sorted.{ranks_by}
use Rattle.std.proofs.lemmas.List.Kept.{IsStrictlySortedBy-dedup}
use Rattle.base.proofs.Bools.{Less-from_is_lt, is_lt-from_Less}
use Rattle.base.proofs.Lists.{AllByRecursion-at}
use Rattle.label_sets.specs.Labels.{compare_texts, is_lesser_text}
use Rattle.label_sets.specs.Ordered.{in_order}
use Rattle.label_sets.proofs.StableSorts.{NoneLess, Rises, in_order-from_sort, Rises-in_order}
use Rattle.index_parts.specs.declared.index_series.IndexSeries.{IndexSeries}
use Rattle.index_writing.specs.SymbolsInUse.{texts_of, symbols_of, number_of}

pub texts_order : IsStrictWeakOrder is_lesser_text
texts_order = ranks_by nat_list_cmp_total (λ text. text)

pub texts_sorted : (xs ys : List (List ℕ)) → IsSorted compare_texts ys → IsStable compare_texts xs ys → ys ≡ in_order is_lesser_text xs
texts_sorted xs ys sorted stable = in_order-from_sort is_lesser_text texts_order xs ys sorted stable

-- ---- in order

none_less_at : {A : Type 0} (less : A → A → Bool) (x : A) (ys : List A) (k : ℕ) (d : A) → NoneLess less x ys → k < length ys → less (get_or ys k d) x ≡ false
none_less_at _ x [] k d none lt = absurd (omega arith)
none_less_at _ x (y ∷ ys) zero d none lt = none.0
none_less_at less x (y ∷ ys) (suc k) d none lt = none_less_at less x ys k d none.1 (omega arith)

pub sorted_from_rises : {A : Type 0} (less : A → A → Bool) (xs : List A) → Rises less xs → IsSortedBy less xs
sorted_from_rises less [] rises k d low high = absurd (omega arith)
sorted_from_rises less (x ∷ xs) rises zero d low high = none_less_at less x _ 0 d rises.0 (omega arith)
sorted_from_rises less (x ∷ xs) rises (suc k) d low high =
    let next : suc k + 1 ≡ suc (k + 1) = omega arith in
    subst (λ n. less (get_or (x ∷ xs) n d) (get_or xs k d) ≡ false) (sym next) (sorted_from_rises less xs rises.1 k d (omega arith) (omega arith))

pub symbols_strict : (list : List IndexSeries) → IsStrictlySortedBy compare_texts (symbols_of list)
unfolding symbols_of
symbols_strict list =
    IsStrictlySortedBy-dedup nat_list_cmp_total texts_ties _
    (sorted_from_rises _ _ (Rises-in_order is_lesser_text texts_order (texts_of list)))

-- ---- the number of a text

pub partitioned : (symbols : List (List ℕ)) (text : List ℕ) → IsStrictlySortedBy compare_texts symbols → IsPartitionedBy (λ symbol. is_lesser_text symbol text) symbols
unfolding IsStrictlySortedBy
partitioned [] _ strict i j d le lt less = absurd (omega arith)
partitioned (x ∷ xs) _ strict zero zero d le lt less = less
partitioned (x ∷ xs) text strict zero (suc j) d le lt less =
    is_lt-from_Less _ (nat_list_cmp_total.trans x (get_or xs j d) text (AllByRecursion-at _ _ j d strict.0 (omega arith)) (Less-from_is_lt _ less))
partitioned (x ∷ xs) _ strict (suc i) zero d le lt less = absurd (omega arith)
partitioned (x ∷ xs) text strict (suc i) (suc j) d le lt less = partitioned xs _ strict.1 i j d (omega arith) (omega arith) less

prefix_at : {A : Type 0} (p : A → Bool) (xs : List A) (i : ℕ) → i ≤ length xs → ((k : ℕ) (d : A) → k < i → p (get_or xs k d) ≡ true) → ((k : ℕ) (d : A) → i ≤ k → k < length xs → p (get_or xs k d) ≡ false) → i ≡ prefix_len p xs
prefix_at p [] i within below above = omega arith
prefix_at p (x ∷ xs) zero within below above = sym (ap (λ b. cond b (1 + prefix_len p xs) 0) (above 0 x (omega arith) (omega arith)))
prefix_at p (x ∷ xs) (suc i) within below above =
    let others : i ≡ prefix_len p xs = prefix_at p xs i (omega arith) (λ k d lt. below (suc k) d (omega arith)) (λ k d le lt. above (suc k) d (omega arith) (omega arith)) in
    let here = ap (λ b. cond b (1 + prefix_len p xs) 0) (below 0 x (omega arith)) in
    omega arith

pub number_found : (symbols : List (List ℕ)) (text : List ℕ) (i : ℕ) → i ≤ length symbols → IsPartitionPoint (λ symbol. is_lesser_text symbol text ≡ true) (λ symbol. is_lesser_text symbol text ≡ false) symbols i → i ≡ number_of symbols text
unfolding number_of
number_found _ _ i within point = prefix_at _ _ i within (λ k d lt. point.0 k d (omega arith) lt) (λ k d le lt. point.1 k d le lt)
