-- Samples at ascending times, merged: the first sample at each time.
use Rattle.std.proofs.Common.{◌≡◌, ℕ, zero, suc, ◌+◌, ◌-◌, ◌<◌, ◌≤◌, true, false, cond, List, [], ◌∷◌, ◌++◌, length, take, drop, get_or, refl, sym, ap, ◌∙◌, subst, arith, append_assoc, append-nil, ◌⊎◌, inl, inr, Option}
use Rattle.std.specs.Ordering.{is_lt, is_eq, ordering_reverse}
use Rattle.std.specs.Prelude.{All, Some, None, MatchOption, is_some, slice_get, nat_lt}
use Rattle.std.specs.List.{AllByRecursion, dedup, dedup_from}
use Rattle.std.specs.List.Sorted.{IsStrictlySortedBy, IsSortedBy, IsPartitionedBy, IsPartitionPoint}
use Rattle.std.proofs.lemmas.Bool.{true≢false, ltb-true, ltb-false}
use Rattle.std.proofs.lemmas.Cmp.{int_cmp_total}
use Rattle.std.proofs.lemmas.List.{drop_more, drop_all, take_all, length-drop, take-append-drop}
use Rattle.std.proofs.lemmas.List.Elements.{recursion_from_All, All-from_recursion}
use Rattle.std.proofs.lemmas.List.Sorted.{sorted_far}
use Rattle.std.proofs.lemmas.Map.Keys.{sorted_from_all_adjacent, Less-from_sorted}
use Rattle.label_sets.specs.declared.sample.Sample.{Sample}
use Rattle.label_sets.proofs.RepeatedNames.{tied}
use Rattle.base.specs.Ordered.{placed, in_order}
use Rattle.base.proofs.Bools.{by_bool, Less-from_is_lt, is_lt-from_Less}
use Rattle.base.proofs.Lists.{take_none, drop_none, AllByRecursion-append, AllByRecursion-weaker}
use Rattle.base.proofs.Order.{sorted_drop}
use Rattle.vertical_merge.specs.Joined.{compare_times, has_lesser_time, has_same_time, first_samples}
use Rattle.vertical_merge.proofs.Firsts.{own_class, find-firsts, ascending-firsts, same_found}
use Rattle.vertical_merge.proofs.Orders.{times_total, times_ranked}

-- ---- times before others

-- the time is before each of theirs
abbrev pub IsBefore : Sample → List Sample → Type 0
IsBefore one others = AllByRecursion (λ other. has_lesser_time one other ≡ true) others

abbrev pub Climbs : List Sample → Type 0
Climbs [] = Unit {0}
Climbs (x ∷ xs) = IsBefore x xs × Climbs xs

pub climbs : (xs : List Sample) → IsStrictlySortedBy compare_times xs → Climbs xs
unfolding IsStrictlySortedBy
climbs [] up = tt
climbs (x ∷ xs) up = (AllByRecursion-weaker _ _ (λ y e. is_lt-from_Less (compare_times x y) e) _ up.0, climbs xs up.1)

climbs-drop : (count : ℕ) (xs : List Sample) → Climbs xs → Climbs (drop count xs)
climbs-drop zero _ up = subst Climbs (sym (drop_none _)) up
climbs-drop (suc count) [] up = tt
climbs-drop (suc count) (x ∷ xs) up = climbs-drop count _ up.1

-- what is not after a time that is before a third is before it
before_third : (x y z : Sample) → has_lesser_time y x ≡ false → has_lesser_time y z ≡ true → has_lesser_time x z ≡ true
before_third x y z n l = by_bool (has_lesser_time x z) (λ t. t) (λ f. absurd (true≢false (sym l ∙ times_ranked.chain y x z n f)))

pub before_too : (x y : Sample) (zs : List Sample) → has_lesser_time y x ≡ false → IsBefore y zs → IsBefore x zs
before_too x y _ n all = AllByRecursion-weaker _ _ (λ z l. before_third x y z n l) _ all

pub other_time : (x y : Sample) → has_lesser_time x y ≡ true → has_same_time y x ≡ false
other_time x y l = ap is_eq (int_cmp_total.antisymm y.time x.time ∙ ap ordering_reverse (Less-from_is_lt _ l))

pub same_time : (x y : Sample) → has_lesser_time x y ≡ false → has_lesser_time y x ≡ false → has_same_time y x ≡ true
same_time x y f g = tied _ g (sym (ap is_lt (int_cmp_total.antisymm x.time y.time)) ∙ f)

-- ---- what holds of all holds of all in order

all-placed : (P : Sample → Type 0) (x : Sample) (ys : List Sample) → P x → AllByRecursion P ys → AllByRecursion P (placed has_lesser_time x ys)
unfolding placed
all-placed P x [] p all = (p, tt)
all-placed P x (y ∷ ys) p all = elim (has_lesser_time y x) as (λ b. AllByRecursion P (cond b (y ∷ placed has_lesser_time x ys) (x ∷ y ∷ ys))) [
  | true ↦ (all.0, all-placed P x ys p all.1)
  | false ↦ (p, all)
]

all-in_order : (P : Sample → Type 0) (xs : List Sample) → AllByRecursion P xs → AllByRecursion P (in_order has_lesser_time xs)
unfolding in_order
all-in_order P [] all = tt
all-in_order P (x ∷ xs) all = all-placed P x (in_order has_lesser_time xs) all.0 (all-in_order P xs all.1)

before-in_order : (x : Sample) (ys : List Sample) → IsBefore x ys → IsBefore x (in_order has_lesser_time ys)
before-in_order x _ all = all-in_order _ _ all

-- ---- the sample that comes first

placed-first : (x : Sample) (ys : List Sample) → IsBefore x ys → placed has_lesser_time x ys ≡ x ∷ ys
unfolding placed
placed-first x [] all = refl
placed-first x (y ∷ ys) all = rw (times_ranked.one_way x y all.0) refl

kept-first : (x : Sample) (ys : List Sample) → IsBefore x ys → dedup_from has_same_time x ys ≡ x ∷ dedup has_same_time ys
kept-first x [] all = refl
kept-first x (y ∷ ys) all = rw (other_time x y all.0) refl

first-front : (x : Sample) (ys : List Sample) → IsBefore x ys → first_samples (x ∷ ys) ≡ x ∷ first_samples ys
unfolding first_samples in_order
first-front x _ all =
    let then = before-in_order x _ all in
    ap (dedup has_same_time) (placed-first x _ then) ∙ kept-first x _ then

in_order-later : (y : Sample) (xs ys : List Sample) → IsBefore y xs → IsBefore y ys
    → in_order has_lesser_time (xs ++ y ∷ ys) ≡ y ∷ in_order has_lesser_time (xs ++ ys)
unfolding in_order placed
in_order-later y [] _ p q = placed-first y _ (before-in_order y _ q)
in_order-later y (x ∷ xs) ys p q = ap (placed has_lesser_time x) (in_order-later y xs _ p.1 q)
    ∙ ap (λ b. cond b (y ∷ placed has_lesser_time x (in_order has_lesser_time (xs ++ ys))) (x ∷ y ∷ in_order has_lesser_time (xs ++ ys))) p.0

first-later : (y : Sample) (xs ys : List Sample) → IsBefore y xs → IsBefore y ys → first_samples (xs ++ y ∷ ys) ≡ y ∷ first_samples (xs ++ ys)
unfolding first_samples
first-later y _ _ p q = ap (dedup has_same_time) (in_order-later y _ _ p q)
    ∙ kept-first y _ (before-in_order y _ (AllByRecursion-append _ _ _ p q))

-- of two at one time the first stays
first-both : (x y : Sample) (xs ys : List Sample) → has_lesser_time x y ≡ false → has_lesser_time y x ≡ false → IsBefore x xs → IsBefore y ys
    → first_samples (x ∷ xs ++ y ∷ ys) ≡ x ∷ first_samples (xs ++ ys)
unfolding first_samples in_order placed
first-both x y xs ys f g p q =
    let left = in_order has_lesser_time (xs ++ ys) in
    let all = AllByRecursion-append _ _ _ p (before_too x y _ g q) in
    ap (λ zs. dedup has_same_time (placed has_lesser_time x zs)) (in_order-later y _ _ (before_too y x _ f p) q)
    ∙ ap (λ b. dedup has_same_time (cond b (y ∷ placed has_lesser_time x left) (x ∷ y ∷ left))) g
    ∙ ap (λ b. cond b (dedup_from has_same_time x left) (x ∷ dedup_from has_same_time y left)) (same_time x y f g)
    ∙ kept-first x _ (before-in_order x _ all)

-- samples at ascending times are their own first samples
pub itself : (xs : List Sample) → IsStrictlySortedBy compare_times xs → first_samples xs ≡ xs
unfolding first_samples
itself xs up = same_found times_total _ xs (ascending-firsts times_total xs) up (λ t. find-firsts times_total _ (own_class times_total t) xs)

-- ---- what is before all others stays

front_stays : (first then others : List Sample) → Climbs (first ++ then) → AllByRecursion (λ x. IsBefore x others) first
    → first_samples ((first ++ then) ++ others) ≡ first ++ first_samples (then ++ others)
front_stays [] _ _ up all = refl
front_stays (x ∷ xs) then others up all =
    first-front x _ (AllByRecursion-append _ _ _ up.0 all.0)
    ∙ ap (λ (l : List Sample). x ∷ l) (front_stays xs then others up.1 all.1)

-- ---- a merge, sample by sample

-- one more of the first list
one_put : (xs ys made : List Sample) (x y : Sample) → Climbs (x ∷ xs) → Climbs (y ∷ ys) → has_lesser_time x y ≡ true
    → (made ++ x ∷ []) ++ first_samples (xs ++ y ∷ ys) ≡ made ++ first_samples (x ∷ xs ++ y ∷ ys)
one_put xs ys made x y up rise l =
    let later : IsBefore x (y ∷ ys) = (l, before_too x y _ (times_ranked.one_way x y l) rise.0) in
    append_assoc made (x ∷ []) (first_samples (xs ++ y ∷ ys))
    ∙ ap (λ zs. made ++ zs) (sym (first-front x _ (AllByRecursion-append _ _ _ up.0 later)))

-- one more of the second
other_put : (xs ys made : List Sample) (x y : Sample) → Climbs (x ∷ xs) → Climbs (y ∷ ys) → has_lesser_time y x ≡ true
    → (made ++ y ∷ []) ++ first_samples (x ∷ xs ++ ys) ≡ made ++ first_samples (x ∷ xs ++ y ∷ ys)
other_put xs ys made x y up rise l =
    let later : IsBefore y (x ∷ xs) = (l, before_too y x _ (times_ranked.one_way y x l) up.0) in
    append_assoc made (y ∷ []) (first_samples (x ∷ xs ++ ys))
    ∙ ap (λ zs. made ++ zs) (sym (first-later y (x ∷ xs) _ later rise.0))

-- one of both
both_put : (xs ys made : List Sample) (x y : Sample) → Climbs (x ∷ xs) → Climbs (y ∷ ys) → has_lesser_time x y ≡ false → has_lesser_time y x ≡ false
    → (made ++ x ∷ []) ++ first_samples (xs ++ ys) ≡ made ++ first_samples (x ∷ xs ++ y ∷ ys)
both_put xs ys made x y up rise f g = append_assoc made (x ∷ []) (first_samples (xs ++ ys))
    ∙ ap (λ zs. made ++ zs) (sym (first-both x y _ _ f g up.0 rise.0))

-- the rest, where one list is at its end
rest_put : (xs ys : List Sample) → IsStrictlySortedBy compare_times xs → IsStrictlySortedBy compare_times ys → (xs ≡ []) ⊎ (ys ≡ []) → first_samples (xs ++ ys) ≡ xs ++ ys
rest_put _ ys up rise (inl e) = ap (λ l. first_samples (l ++ ys)) e ∙ itself _ rise ∙ ap (λ l. l ++ ys) (sym e)
rest_put xs _ up rise (inr e) = ap (λ l. first_samples (xs ++ l)) e ∙ ap first_samples (append-nil xs) ∙ itself _ up ∙ sym (append-nil xs) ∙ ap (λ l. xs ++ l) (sym e)

-- ---- what the loop keeps

pub one_more : (samples others made next total : List Sample) (here there : ℕ) (d e : Sample) → IsStrictlySortedBy compare_times samples → IsStrictlySortedBy compare_times others
    → here < length samples → there < length others → has_lesser_time (get_or samples here d) (get_or others there e) ≡ true → next ≡ made ++ get_or samples here d ∷ []
    → made ++ first_samples (drop here samples ++ drop there others) ≡ total → next ++ first_samples (drop (here + 1) samples ++ drop there others) ≡ total
one_more samples others made _ _ here there d e up rise within among l is was =
    let x = get_or samples here d in
    let y = get_or others there e in
    let xs = drop (here + 1) samples in
    let ys = drop (there + 1) others in
    let ex = drop_more samples here d within in
    let ey = drop_more others there e among in
    ap (λ zs. zs ++ first_samples (xs ++ drop there others)) is
    ∙ ap (λ zs. (made ++ x ∷ []) ++ first_samples (xs ++ zs)) ey
    ∙ one_put _ _ _ x y (subst Climbs ex (climbs-drop _ _ (climbs _ up))) (subst Climbs ey (climbs-drop _ _ (climbs _ rise))) l
    ∙ ap (λ zs. made ++ first_samples (zs ++ y ∷ ys)) (sym ex) ∙ ap (λ zs. made ++ first_samples (drop here samples ++ zs)) (sym ey) ∙ was

pub other_more : (samples others made next total : List Sample) (here there : ℕ) (d e : Sample) → IsStrictlySortedBy compare_times samples → IsStrictlySortedBy compare_times others
    → here < length samples → there < length others → has_lesser_time (get_or others there e) (get_or samples here d) ≡ true → next ≡ made ++ get_or others there e ∷ []
    → made ++ first_samples (drop here samples ++ drop there others) ≡ total → next ++ first_samples (drop here samples ++ drop (there + 1) others) ≡ total
other_more samples others made next _ here there d e up rise within among l is was =
    let x : Sample = get_or samples here d in
    let y : Sample = get_or others there e in
    let xs : List Sample = drop (here + 1) samples in
    let ys : List Sample = drop (there + 1) others in
    let ex : drop here samples ≡ x ∷ xs = drop_more samples here d within in
    let ey = drop_more others there e among in
    ap (λ zs. zs ++ first_samples (drop here samples ++ ys)) is
    ∙ ap (λ zs. (made ++ y ∷ []) ++ first_samples (zs ++ ys)) ex
    ∙ other_put _ _ _ x y (subst Climbs ex (climbs-drop _ _ (climbs _ up))) (subst Climbs ey (climbs-drop _ _ (climbs _ rise))) l
    ∙ ap (λ zs. made ++ first_samples (zs ++ y ∷ ys)) (sym ex) ∙ ap (λ zs. made ++ first_samples (drop here samples ++ zs)) (sym ey) ∙ was

pub both_more : (samples others made next total : List Sample) (here there : ℕ) (d e : Sample) → IsStrictlySortedBy compare_times samples → IsStrictlySortedBy compare_times others
    → here < length samples → there < length others → has_lesser_time (get_or samples here d) (get_or others there e) ≡ false → has_lesser_time (get_or others there e) (get_or samples here d) ≡ false
    → next ≡ made ++ get_or samples here d ∷ []
    → made ++ first_samples (drop here samples ++ drop there others) ≡ total → next ++ first_samples (drop (here + 1) samples ++ drop (there + 1) others) ≡ total
both_more samples others made _ _ here there d e up rise within among f g is was =
    let x = get_or samples here d in
    let y = get_or others there e in
    let xs = drop (here + 1) samples in
    let ys = drop (there + 1) others in
    let ex = drop_more samples here d within in
    let ey = drop_more others there e among in
    ap (λ zs. zs ++ first_samples (xs ++ ys)) is
    ∙ both_put _ _ _ x y (subst Climbs ex (climbs-drop _ _ (climbs _ up))) (subst Climbs ey (climbs-drop _ _ (climbs _ rise))) f g
    ∙ ap (λ zs. made ++ first_samples (zs ++ y ∷ ys)) (sym ex) ∙ ap (λ zs. made ++ first_samples (drop here samples ++ zs)) (sym ey) ∙ was

rest_from : (xs : List Sample) (place : ℕ) → take (length xs - place) (drop place xs) ≡ drop place xs
rest_from xs place = let long = length-drop place xs in take_all (length xs - place) (drop place xs) (omega (arith, long))

pub all_put : (samples others made next all total : List Sample) (here there : ℕ) → IsStrictlySortedBy compare_times samples → IsStrictlySortedBy compare_times others
    → (length samples ≤ here) ⊎ (length others ≤ there) → next ≡ made ++ take (length samples - here) (drop here samples) → all ≡ next ++ take (length others - there) (drop there others)
    → made ++ first_samples (drop here samples ++ drop there others) ≡ total → all ≡ total
all_put samples others made next _ _ here there up rise end is more was =
    let none : (drop here samples ≡ []) ⊎ (drop there others ≡ []) = elim end [
      | inl le ↦ inl (drop_all _ _ le)
      | inr le ↦ inr (drop_all _ _ le)
    ] in
    more ∙ ap (λ zs. next ++ zs) (rest_from others there) ∙ ap (λ zs. zs ++ drop there others) (is ∙ ap (λ zs. made ++ zs) (rest_from samples here)) ∙ append_assoc made (drop here samples) (drop there others)
    ∙ ap (λ zs. made ++ zs) (sym (rest_put _ _ (sorted_drop compare_times _ _ up) (sorted_drop compare_times _ _ rise) none)) ∙ was

-- ---- where the merge begins

falls_nowhere : (xs : List Sample) → IsStrictlySortedBy compare_times xs → IsSortedBy has_lesser_time xs
falls_nowhere xs up = λ k d _ lt. times_ranked.one_way (get_or xs k d) (get_or xs (k + 1) d)
    (is_lt-from_Less _ (Less-from_sorted _ _ k _ d up (omega arith) lt))

pub partitioned : (xs : List Sample) (first : Sample) → IsStrictlySortedBy compare_times xs → IsPartitionedBy (λ x. has_lesser_time x first) xs
partitioned xs first up = λ i j d le lt l. before_third (get_or xs i d) (get_or xs j d) first (sorted_far has_lesser_time times_ranked _ (falls_nowhere _ up) i j d le lt) l

all-taken : (P : Sample → Type 0) (xs : List Sample) (count : ℕ) → count ≤ length xs → ((k : ℕ) (d : Sample) → k < count → P (get_or xs k d)) → AllByRecursion P (take count xs)
all-taken P xs zero le h = subst (AllByRecursion P) (sym (take_none xs)) tt
all-taken P [] (suc count) le h = tt
all-taken P (x ∷ xs) (suc count) le h = (h 0 x (omega arith), all-taken P _ count (omega arith) (λ k d lt. h (suc k) d (omega arith)))

before_all : (one first : Sample) (others : List Sample) → IsStrictlySortedBy compare_times others → slice_get others 0 ≡ Some first → has_lesser_time one first ≡ true → IsBefore one others
before_all _ _ [] rise at l = tt
before_all one first (y ∷ ys) rise at l =
    let e : y ≡ first = cc in
    let here = subst (λ z. has_lesser_time one z ≡ true) (sym e) l in
    (here, before_too one y _ (times_ranked.one_way one y here) (climbs _ rise).0)

pub front_before : (samples others : List Sample) (count : ℕ) (first : Sample) → IsStrictlySortedBy compare_times others → count ≤ length samples → slice_get others 0 ≡ Some first
    → IsPartitionPoint (λ x. has_lesser_time x first ≡ true) (λ x. has_lesser_time x first ≡ false) samples count
    → All (λ one. All (λ other. has_lesser_time one other ≡ true) others) (take count samples)
front_before samples others count first rise le at point =
    let before : Sample → Type 0 = λ one. All (λ other. has_lesser_time one other ≡ true) others in
    All-from_recursion before _ (all-taken _ _ _ le
    (λ k d lt. All-from_recursion (λ other. has_lesser_time (get_or samples k d) other ≡ true) others (before_all (get_or samples k d) _ _ rise at (point.0 k d (omega arith) lt))))

all_by : (others xs : List Sample) → AllByRecursion (λ one. All (λ other. has_lesser_time one other ≡ true) others) xs → AllByRecursion (λ x. IsBefore x others) xs
all_by _ [] all = tt
all_by others (x ∷ xs) all = (recursion_from_All (λ other. has_lesser_time x other ≡ true) others all.0, all_by others xs all.1)

pub tail_ascends : (lent tail xs : List Sample) (count : ℕ) → IsStrictlySortedBy compare_times xs → tail ≡ drop count xs → lent ≡ tail → IsStrictlySortedBy compare_times lent
tail_ascends _ _ _ _ up is same = subst (IsStrictlySortedBy compare_times) (sym (same ∙ is)) (sorted_drop compare_times _ _ up)

pub merged_behind : (made kept tail lent samples others : List Sample) (count : ℕ) → IsStrictlySortedBy compare_times samples → kept ≡ take count samples → tail ≡ drop count samples
    → lent ≡ samples → All (λ one. All (λ other. has_lesser_time one other ≡ true) others) (take count lent)
    → made ≡ kept ++ first_samples (tail ++ others) → made ≡ first_samples (samples ++ others)
merged_behind _ _ tail _ samples others count up is_kept is_tail same lent_before is =
    let all =
    subst (λ l. All (λ one. All (λ other. has_lesser_time one other ≡ true) others) (take count l)) same lent_before in
    let parts = take-append-drop _ _ in
    let before =
    all_by _ _ (recursion_from_All (λ one. All (λ other. has_lesser_time one other ≡ true) others) _ all) in
    is ∙ ap (λ zs. zs ++ first_samples (tail ++ others)) is_kept ∙ ap (λ zs. take count samples ++ first_samples (zs ++ others)) is_tail
    ∙ sym (front_stays _ _ _ (subst Climbs (sym parts) (climbs _ up)) before)
    ∙ ap (λ zs. first_samples (zs ++ others)) parts

pub merged_from : (made kept none before tail again lent samples others : List Sample) (count : ℕ) → IsStrictlySortedBy compare_times samples → kept ≡ none ++ before → none ≡ []
    → before ≡ take count again → tail ≡ drop count again → again ≡ samples → lent ≡ samples → All (λ one. All (λ other. has_lesser_time one other ≡ true) others) (take count lent)
    → made ≡ kept ++ first_samples (tail ++ others) → made ≡ first_samples (samples ++ others)
merged_from _ _ _ before _ _ _ _ _ count up is_kept is_none is_before is_tail same_again same lent_before is =
    merged_behind _ _ _ _ _ _ _ up (is_kept ∙ ap (λ zs. zs ++ before) is_none ∙ is_before ∙ ap (take count) same_again)
    (is_tail ∙ ap (drop count) same_again) same lent_before is

-- others behind all samples
pub all_behind : (made lent samples others : List Sample) (count : ℕ) → IsStrictlySortedBy compare_times samples → IsStrictlySortedBy compare_times others → length samples ≤ count
    → lent ≡ samples → All (λ one. All (λ other. has_lesser_time one other ≡ true) others) (take count lent) → made ≡ samples ++ others → made ≡ first_samples (samples ++ others)
all_behind _ _ samples _ count up rise whole same lent_before is =
    merged_behind _ _ _ _ _ _ _ up (sym (take_all count samples whole)) (sym (drop_all _ _ whole)) same lent_before
    (is ∙ ap (λ zs. samples ++ zs) (sym (itself _ rise)))

-- ---- where times fall nowhere

all_rise : (xs : List Sample) → ((k : ℕ) (d : Sample) → k + 1 < length xs → has_lesser_time (get_or xs k d) (get_or xs (k + 1) d) ≡ true) → IsStrictlySortedBy compare_times xs
unfolding IsStrictlySortedBy
all_rise [] h = tt
all_rise (x ∷ xs) h = sorted_from_all_adjacent times_total (x ∷ xs) x (λ k lt. Less-from_is_lt (compare_times (get_or (x ∷ xs) k x) (get_or (x ∷ xs) (k + 1) x)) (h k x lt))

pub none_falls : (xs : List Sample) (middle : ℕ) (left : Option ℕ)
    → ((k : ℕ) (d : Sample) → middle ≤ k → k + 1 < length xs → has_lesser_time (get_or xs k d) (get_or xs (k + 1) d) ≡ true)
    → MatchOption left ((k : ℕ) (d : Sample) → k < middle → k + 1 < length xs → has_lesser_time (get_or xs k d) (get_or xs (k + 1) d) ≡ true) (λ place. (0 < place) × (place < length xs))
    → MatchOption left (IsStrictlySortedBy compare_times xs) (λ place. (0 < place) × (place < length xs))
none_falls xs _ (Some place) later found = found
none_falls xs middle None later sooner = all_rise _ (λ k d lt. by_bool (nat_lt k middle) (λ t. sooner k d (ltb-true k middle t) lt) (λ f. later k d (ltb-false k middle f) lt))

pub as_it_is : (made xs : List Sample) → made ≡ xs → IsStrictlySortedBy compare_times xs → made ≡ first_samples xs
as_it_is _ _ is up = is ∙ sym (itself _ up)

pub as_it_was : (found : Option ℕ) (made items lent samples : List Sample) → is_some found ≡ false
    → MatchOption found (IsStrictlySortedBy compare_times lent) (λ place. (0 < place) × (place < length lent))
    → lent ≡ items → items ≡ samples → made ≡ items → made ≡ first_samples samples
as_it_was (Some place) _ _ _ _ none up same was is = absurd (true≢false none)
as_it_was None _ _ _ _ none up same was is = as_it_is _ _ (is ∙ was) (subst (IsStrictlySortedBy compare_times) (same ∙ was) up)
