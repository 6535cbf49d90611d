-- Labels put in the order of their names make a set with the same values.
use Rattle.std.proofs.Common.{◌≡◌, ◌≢◌, ◌⊎◌, ℕ, true, false, cond, List, [], ◌∷◌, ◌++◌, Some, None, refl, sym, ap, ◌∙◌, subst, inl, inr}
use Rattle.base.proofs.Bools.{Less-from_is_lt, swap_tests, by_order}
use Rattle.std.specs.declared.cmp.Ordering.{Ordering}
use Rattle.std.specs.declared.cmp.Ordering.TheVariants.{Less}
use Rattle.std.specs.Ordering.{ordering_reverse, is_lt}
use Rattle.std.specs.Cmp.Lexicographic.{nat_list_cmp_total, bytes_decides}
use Rattle.std.specs.Str.{bytes_eq}
use Rattle.std.specs.Option.{option_or}
use Rattle.std.proofs.lemmas.Bool.{true≢false}
use Rattle.label_sets.specs.declared.label.Label.{Label}
use Rattle.label_sets.specs.Labels.{ComesBefore, StandsBefore, IsLabelSet, MakeASet, value_of, has_lesser_name}
use Rattle.label_sets.specs.Ordered.{placed, in_order}
use Rattle.label_sets.proofs.LabelValues.{by_bool, before_differs, same_text, value_hit, value_miss, value_of-below, StandsBefore-trans, some_not_none}

not_less_from : (r : Ordering) → is_lt r ≡ false → r ≡ Less → ⊥
not_less_from r h e = true≢false (ap is_lt (sym e) ∙ h)

names_apart : (l m : Label) (name : List ℕ) → has_lesser_name m l ≡ true → bytes_eq m.name name ≡ true → bytes_eq l.name name ≡ true → ⊥
names_apart l m name t p q = before_differs m.name _ (Less-from_is_lt _ t) ((bytes_decides m.name name).0 p ∙ sym ((bytes_decides l.name name).0 q))

pub value_of-placed : (l : Label) (ls : List Label) (name : List ℕ) → value_of (placed has_lesser_name l ls) name ≡ value_of (l ∷ ls) name
unfolding placed value_of
value_of-placed l [] _ = refl
value_of-placed l (m ∷ ms) name = by_bool (has_lesser_name m l)
    (λ t. ap (λ b. value_of (cond b (m ∷ placed has_lesser_name l ms) (l ∷ m ∷ ms)) name) t
    ∙ ap (λ v. cond (bytes_eq m.name name) (Some m.value) v) (value_of-placed l ms _)
    ∙ swap_tests _ _ _ _ _ (names_apart l m _ t))
    (λ f. ap (λ b. value_of (cond b (m ∷ placed has_lesser_name l ms) (l ∷ m ∷ ms)) name) f)

pub value_of-in_order : (ls : List Label) (name : List ℕ) → value_of (in_order has_lesser_name ls) name ≡ value_of ls name
unfolding in_order value_of
value_of-in_order [] _ = refl
value_of-in_order (l ∷ ls) name = value_of-placed l _ _ ∙ ap (λ v. cond (bytes_eq l.name name) (Some l.value) v) (value_of-in_order ls _)

StandsBefore-placed : (name : List ℕ) (l : Label) (ls : List Label) → ComesBefore name l.name → StandsBefore name ls → StandsBefore name (placed has_lesser_name l ls)
unfolding placed
StandsBefore-placed _ l [] b h = (b, tt)
StandsBefore-placed name l (m ∷ ms) b h = elim (has_lesser_name m l) as (λ t. StandsBefore name (cond t (m ∷ placed has_lesser_name l ms) (l ∷ m ∷ ms))) [
  | true ↦ (h.0, StandsBefore-placed name l ms b h.1)
  | false ↦ (b, h)
]

goes_first : (l m : Label) (ms : List Label) → has_lesser_name m l ≡ false → value_of (m ∷ ms) l.name ≡ None → ComesBefore l.name m.name
goes_first l m ms f none = by_order _
    (λ e. absurd (not_less_from _ f e))
    (λ e. absurd (some_not_none m.value (value_of (m ∷ ms) l.name) (value_hit m _ _ (same_text _ _ e)) none))
    (λ e. nat_list_cmp_total.antisymm l.name m.name ∙ ap ordering_reverse e)

pub IsLabelSet-placed : (l : Label) (ls : List Label) → l.name ≢ [] → l.value ≢ [] → value_of ls l.name ≡ None → IsLabelSet ls → IsLabelSet (placed has_lesser_name l ls)
unfolding placed
IsLabelSet-placed l [] n v none h = (n, v, tt, tt)
IsLabelSet-placed l (m ∷ ms) n v none h = by_bool (has_lesser_name m l)
    (λ t. let b = Less-from_is_lt _ t in
    subst (λ b. IsLabelSet (cond b (m ∷ placed has_lesser_name l ms) (l ∷ m ∷ ms))) (sym t) (
      h.0,
      h.1,
      StandsBefore-placed _ l _ b h.2,
      IsLabelSet-placed l _ n v (sym (value_miss m _ _ (before_differs _ _ b)) ∙ none) h.3,
    ))
    (λ f. let b = goes_first l m _ f none in
    subst (λ b. IsLabelSet (cond b (m ∷ placed has_lesser_name l ms) (l ∷ m ∷ ms))) (sym f)
    (n, v, (b, StandsBefore-trans _ _ _ b h.2), h))

pub IsLabelSet-in_order : (ls : List Label) → MakeASet ls → IsLabelSet (in_order has_lesser_name ls)
unfolding in_order
IsLabelSet-in_order [] h = tt
IsLabelSet-in_order (l ∷ ls) h = IsLabelSet-placed l _ h.0 h.1 (value_of-in_order ls l.name ∙ h.2) (IsLabelSet-in_order ls h.3)

pub MakeASet-from_set : (ls : List Label) → IsLabelSet ls → MakeASet ls
MakeASet-from_set [] h = tt
MakeASet-from_set (l ∷ ls) h = (h.0, h.1, value_of-below l.name ls h.2, MakeASet-from_set ls h.3)

pub value_of-append : (xs ys : List Label) (name : List ℕ) → value_of (xs ++ ys) name ≡ option_or (value_of xs name) (value_of ys name)
unfolding value_of
value_of-append [] _ _ = refl
value_of-append (x ∷ xs) ys name = elim (bytes_eq x.name name) as (λ b. cond b (Some x.value) (value_of (xs ++ ys) name) ≡ option_or (cond b (Some x.value) (value_of xs name)) (value_of ys name)) [
  | true ↦ refl
  | false ↦ value_of-append xs _ _
]

-- no name is in both lists
abbrev pub AreApart : List Label → List Label → Type 0
AreApart xs ys = (name : List ℕ) → (value_of xs name ≡ None) ⊎ (value_of ys name ≡ None)

not_first : {P : Type 0} (x : Label) (xs : List Label) → (value_of (x ∷ xs) x.name ≡ None) ⊎ P → P
not_first x xs (inl none) = absurd (some_not_none x.value (value_of (x ∷ xs) x.name) (value_hit x _ _ refl) none)
not_first x _ (inr p) = p

none_later : (x : Label) (xs : List Label) (name : List ℕ) → value_of (x ∷ xs) name ≡ None → value_of xs name ≡ None
none_later x xs name none = by_bool (bytes_eq x.name name)
    (λ t. absurd (some_not_none x.value (value_of (x ∷ xs) name) (value_hit x _ _ ((bytes_decides x.name name).0 t)) none))
    (λ f. sym (value_miss x _ _ (λ e. true≢false (sym ((bytes_decides x.name name).1 e) ∙ f))) ∙ none)

apart_later : (x : Label) (xs ys : List Label) → AreApart (x ∷ xs) ys → AreApart xs ys
apart_later x _ _ h name = elim (h name) [ inl none ↦ inl (none_later x _ _ none) | inr none ↦ inr none ]

pub MakeASet-append : (xs ys : List Label) → MakeASet xs → MakeASet ys → AreApart xs ys → MakeASet (xs ++ ys)
MakeASet-append [] _ p q apart = q
MakeASet-append (x ∷ xs) ys p q apart = (
  p.0,
  p.1,
  value_of-append _ _ _ ∙ ap (λ v. option_or v (value_of ys x.name)) p.2 ∙ not_first x _ (apart x.name),
  MakeASet-append _ _ p.3 q (apart_later x _ _ apart),
)
