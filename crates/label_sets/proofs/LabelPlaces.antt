-- Where a name stands in a label set.
use Rattle.std.proofs.Common.{◌≡◌, ◌≢◌, ℕ, zero, suc, ◌+◌, ◌<◌, ◌≤◌, Bool, true, false, cond, List, [], ◌∷◌, length, get_or, Some, None, is_some, Result, Ok, Err, IfOk, IfErr, refl, sym, ap, ◌∙◌, subst, arith, inl, inr}
use Rattle.std.specs.declared.cmp.Ordering.{Ordering}
use Rattle.std.specs.declared.cmp.Ordering.TheVariants.{Less, Equal, Greater}
use Rattle.std.specs.Ordering.{ordering_reverse, is_lt}
use Rattle.std.specs.Cmp.Lexicographic.{nat_list_cmp_total}
use Rattle.std.specs.List.{insert}
use Rattle.std.specs.List.Sorted.{IsSortedBy, IsBinarySearchResult, IsSearchInRange}
use Rattle.std.proofs.lemmas.List.Sorted.{searchable_from_sorted}
use Rattle.label_sets.specs.declared.label.Label.{Label}
use Rattle.label_sets.specs.Labels.{compare_texts, ComesBefore, StandsBefore, IsLabelSet, value_of, has_lesser_name, added}
use Rattle.label_sets.specs.declared.label_refusal.LabelRefusal.TheVariants.{EmptyName, EmptyValue, Repeated}
use Rattle.label_sets.specs.Ordered.{placed}
use Rattle.std.specs.Bool.{◌==◌}
use Rattle.std.proofs.lemmas.Bool.{cases_lt}
use Rattle.label_sets.proofs.OrderedLabels.{IsLabelSet-placed}
use Rattle.label_sets.proofs.LabelValues.{value_hit, value_miss, value_nil, same_text, before_differs, compare_self}
use Rattle.base.proofs.Lists.{some-from_length}

after_is_not_less : (one other : List ℕ) → ComesBefore one other → is_lt (compare_texts other one) ≡ false
after_is_not_less one other b = ap is_lt (nat_list_cmp_total.antisymm other one ∙ ap ordering_reverse b)

rises : (xs : List Label) → IsLabelSet xs → (k : ℕ) (d : Label) → suc k < length xs → is_lt (compare_texts (get_or xs (suc k) d).name (get_or xs k d).name) ≡ false
rises [] h k d l = absurd (omega arith)
rises (x ∷ []) h k d l = absurd (omega arith)
rises (x ∷ y ∷ ys) h zero d l = after_is_not_less x.name y.name h.2.0
rises (x ∷ y ∷ ys) h (suc k) d l = rises (y ∷ ys) h.3 k d (omega arith)

label_names_rise : (xs : List Label) → IsLabelSet xs → IsSortedBy (λ a b. is_lt (compare_texts a.name b.name)) xs
label_names_rise xs h k d low high = subst (λ (n : ℕ). is_lt (compare_texts (get_or xs n d).name (get_or xs k d).name) ≡ false) {x = suc k} {y = k + 1} (omega arith) (rises _ h k d (omega arith))

before_read : (name : List ℕ) (ls : List Label) (j : ℕ) (d : Label) → StandsBefore name ls → j < length ls → ComesBefore name (get_or ls j d).name
before_read _ [] j d h l = absurd (omega arith)
before_read _ (x ∷ xs) zero d h l = h.0
before_read name (x ∷ xs) (suc j) d h l = before_read name xs j d h.1 (omega arith)

value_at_place : (xs : List Label) (name : List ℕ) (i : ℕ) (d : Label) → IsLabelSet xs → i < length xs → (get_or xs i d).name ≡ name → value_of xs name ≡ Some (get_or xs i d).value
value_at_place [] name i d h l e = absurd (omega arith)
value_at_place (x ∷ xs) name zero d h l e = value_hit x _ _ e
value_at_place (x ∷ xs) name (suc i) d h l e =
    value_miss x _ _ (λ s. before_differs x.name (get_or xs i d).name (before_read _ _ i d h.2 (omega arith)) (s ∙ sym e))
    ∙ value_at_place xs _ i d h.3 (omega arith) e

value_nowhere : (xs : List Label) (name : List ℕ) → ((k : ℕ) (d : Label) → k < length xs → (get_or xs k d).name ≢ name) → value_of xs name ≡ None
value_nowhere [] _ h = value_nil _
value_nowhere (x ∷ xs) _ h = value_miss x _ _ (h 0 x (omega arith)) ∙ value_nowhere _ _ (λ k d l. h (suc k) d (omega arith))

order_apart : (one other : List ℕ) (r : Ordering) → compare_texts one other ≡ r → (r ≡ Equal → ⊥) → one ≢ other
order_apart one _ r e n s = n (sym e ∙ subst (λ t. compare_texts one t ≡ Equal) s (compare_self one))

insert_is_placed : (xs : List Label) (i : ℕ) (l : Label) → i ≤ length xs
    → ((k : ℕ) (d : Label) → k < i → compare_texts (get_or xs k d).name l.name ≡ Less)
    → ((k : ℕ) (d : Label) → i ≤ k → k < length xs → compare_texts (get_or xs k d).name l.name ≡ Greater)
    → insert xs i l ≡ placed has_lesser_name l xs
unfolding placed
insert_is_placed [] zero l low p q = refl
insert_is_placed [] (suc i) l low p q = absurd (omega arith)
insert_is_placed (x ∷ xs) zero l low p q = sym (ap (λ r. cond (is_lt r) (x ∷ placed has_lesser_name l xs) (l ∷ x ∷ xs)) (q 0 x (omega arith) (omega arith)))
insert_is_placed (x ∷ xs) (suc i) l low p q =
    ap (λ ws. x ∷ ws) (insert_is_placed _ i l (omega arith) (λ k d a. p (suc k) d (omega arith)) (λ k d a b. q (suc k) d (omega arith) (omega arith)))
    ∙ sym (ap (λ r. cond (is_lt r) (x ∷ placed has_lesser_name l xs) (l ∷ x ∷ xs)) (p 0 x (omega arith)))

pub found_place : (r : Result ℕ ℕ) (xs : List Label) (name : List ℕ) → IsLabelSet xs → IsSearchInRange r (length xs)
    → IsBinarySearchResult (λ l. compare_texts l.name name) xs r
    → IfOk r (λ i. (i < length xs) × ((d : Label) → value_of xs name ≡ Some (get_or xs i d).value))
found_place (Ok i) xs name h l is = (l, λ d. value_at_place xs name i d h l (same_text _ _ (is d)))
found_place (Err i) _ _ h l is = tt

pub absent_place : (r : Result ℕ ℕ) (xs : List Label) (name : List ℕ) → IsLabelSet xs → IsSearchInRange r (length xs)
    → IsBinarySearchResult (λ l. compare_texts l.name name) xs r
    → IfErr r (λ i. (i ≤ length xs) × (value_of xs name ≡ None) × ((l : Label) → l.name ≡ name → insert xs i l ≡ placed has_lesser_name l xs))
absent_place (Ok i) xs _ h l is = tt
absent_place (Err i) xs name h l is =
    let at = is (searchable_from_sorted nat_list_cmp_total (λ (x : Label). x.name) xs name (label_names_rise _ h)) in (
      l,
      value_nowhere _ _ (λ k d b. elim (cases_lt k i) [
        | inl a ↦ order_apart _ _ _ (at.0 k d (omega arith) a) (λ e. cc)
        | inr a ↦ order_apart _ _ _ (at.1 k d a b) (λ e. cc)
      ]),
      λ m e. insert_is_placed xs i m l
          (λ k d a. subst (λ n. compare_texts (get_or xs k d).name n ≡ Less) (sym e) (at.0 k d (omega arith) a))
          (λ k d a b. subst (λ n. compare_texts (get_or xs k d).name n ≡ Greater) (sym e) (at.1 k d a b)),
    )

-- a vector that took the label at its place, or did not, is a label set
pub IsLabelSet-inserted : (r : Bool) (seen old new : List Label) (i : ℕ) (l : Label) (name : List ℕ) {value : List ℕ} → seen ≡ old → new ≡ cond r (insert old i l) old → l ≡ record { name = name; value = value }
    → (length name == 0) ≡ false → (length value == 0) ≡ false → value_of seen name ≡ None
    → ((m : Label) → m.name ≡ name → insert seen i m ≡ placed has_lesser_name m seen) → IsLabelSet old → IsLabelSet new
IsLabelSet-inserted false seen old _ i l _ e now is n v none put h = subst IsLabelSet (sym now) h
IsLabelSet-inserted true _ old _ i l name e now is n v none put h =
    let same = ap (λ m. m.name) is in
    let here = subst (λ ls. insert ls i l ≡ placed has_lesser_name l ls) e (put l same) in
    subst IsLabelSet (sym (now ∙ here))
    (IsLabelSet-placed l _ (λ d. some-from_length name n (sym same ∙ d)) (λ d. some-from_length l.value (ap (λ t. length t == 0) (ap (λ m. m.value) is) ∙ v) d)
    (ap (value_of old) same ∙ subst (λ ls. value_of ls name ≡ None) e none) h)

-- the refusal of a name that the set has
pub added-repeated : (old : List Label) (name value v : List ℕ) → (length name == 0) ≡ false → (length value == 0) ≡ false → value_of old name ≡ Some v → added old name value ≡ Err Repeated
unfolding added
added-repeated old name value v n m here =
    ap (λ b. cond b (Err EmptyName) (cond (length value == 0) (Err EmptyValue) (cond (is_some (value_of old name)) (Err Repeated) (Ok (placed has_lesser_name (record { name = name; value = value }) old))))) n
    ∙ ap (λ b. cond b (Err EmptyValue) (cond (is_some (value_of old name)) (Err Repeated) (Ok (placed has_lesser_name (record { name = name; value = value }) old)))) m
    ∙ ap (λ o. cond (is_some o) (Err Repeated) (Ok (placed has_lesser_name (record { name = name; value = value }) old))) here
