-- Names that stand twice among labels, before and after the labels are put in order.
use Rattle.std.proofs.Common.{◌≡◌, ◌≢◌, ℕ, zero, suc, ◌+◌, ◌-◌, ◌<◌, ◌≤◌, Bool, true, false, ◌||◌, List, [], ◌∷◌, ◌++◌, length, get_or, refl, sym, ap, ◌∙◌, subst, arith, inl, inr}
use Rattle.base.proofs.Bools.{or_swap}
use Rattle.base.proofs.Options.{None-from_is_some}
use Rattle.std.proofs.Math.Bool.{or-true}
use Rattle.std.specs.declared.cmp.Ordering.{Ordering}
use Rattle.std.specs.declared.cmp.Ordering.TheVariants.{Less, Equal, Greater}
use Rattle.std.specs.Ordering.{ordering_reverse, is_lt, is_eq}
use Rattle.std.specs.Cmp.Lexicographic.{nat_list_cmp_total, nat_list_eq_equiv, texts_ties}
use Rattle.std.specs.Str.{bytes_eq}
use Rattle.std.specs.List.{list_any}
use Rattle.std.specs.List.Sorted.{IsSortedBy}
use Rattle.std.specs.Option.{is_some}
use Rattle.std.proofs.lemmas.Bool.{true≢false, cases_Bool, or_parts}
use Rattle.std.proofs.lemmas.List.Folds.{list_any-append}
use Rattle.std.proofs.lemmas.List.Sorted.{ranks_by}
use Rattle.std.proofs.lemmas.List.{get_or_default}
use Rattle.label_sets.specs.declared.label.Label.{Label}
use Rattle.label_sets.specs.Labels.{compare_texts, MakeASet, value_of, names_of, has_lesser_name}
use Rattle.label_sets.specs.Ordered.{placed, in_order}
use Rattle.label_sets.specs.Finals.{is_among}
use Rattle.label_sets.specs.Notation.{is_name, repeats}
use Rattle.label_sets.specs.SetText.{ArePairs}
use Rattle.label_sets.proofs.LabelValues.{bytes_eq_differs}
use Rattle.label_sets.proofs.OrderedLabels.{value_of-placed, value_of-in_order}
use Rattle.label_sets.proofs.FinalLabels.{among_names}
use Rattle.base.proofs.StableSorts.{NoneLess, Rises, Rises-from_sorted}

among_labels : (labels : List Label) (name : List ℕ) → list_any (λ l. bytes_eq l.name name) labels ≡ is_among (names_of labels) name
unfolding is_among
among_labels [] _ = refl
among_labels (l ∷ ls) name = ap (λ b. bytes_eq l.name name || b) (among_labels ls _)

-- two neighbours with one name
repeats_at : (labels : List Label) (k : ℕ) (d : Label) → suc k < length labels → bytes_eq (get_or labels k d).name (get_or labels (suc k) d).name ≡ true → repeats (names_of labels) ≡ true
unfolding repeats is_among
repeats_at [] k d l e = absurd (omega arith)
repeats_at (x ∷ []) k d l e = absurd (omega arith)
repeats_at (x ∷ y ∷ ys) zero d l e = rw (nat_list_eq_equiv.symm y.name x.name ∙ e)
repeats_at (x ∷ y ∷ ys) (suc k) d l e = rw (repeats_at (y ∷ ys) k d (omega arith) e, or-true)

-- of two texts that are not less than one another
pub tied : (o : Ordering) → is_lt o ≡ false → is_lt (ordering_reverse o) ≡ false → is_eq o ≡ true
tied Less f g = sym f
tied Equal f g = refl
tied Greater f g = sym g

-- a name that y does not stand before, and that is not y's, is none of those behind y
not_among_later : (name : List ℕ) (y : Label) (ys : List Label) → is_lt (compare_texts y.name name) ≡ false → bytes_eq y.name name ≡ false → NoneLess has_lesser_name y ys → is_among (names_of ys) name ≡ false
unfolding is_among
not_among_later _ y [] low apart n = refl
not_among_later name y (w ∷ ws) low apart n = rw (
  bytes_eq_differs w.name name (λ e.
      let high = ap is_lt (sym (nat_list_cmp_total.antisymm name y.name) ∙ ap (λ t. compare_texts t y.name) (sym e)) ∙ n.0 in
      true≢false (sym (texts_ties y.name name ∙ tied _ low high) ∙ apart)),
  not_among_later name y ws low apart n.1,
)

no_repeats : (labels : List Label) → Rises has_lesser_name labels → ((k : ℕ) (d : Label) → suc k < length labels → bytes_eq (get_or labels k d).name (get_or labels (suc k) d).name ≡ false) → repeats (names_of labels) ≡ false
unfolding repeats is_among
no_repeats [] r h = refl
no_repeats (x ∷ []) r h = refl
no_repeats (x ∷ y ∷ ys) r h =
    let apart = nat_list_eq_equiv.symm y.name x.name ∙ h 0 x (omega arith) in
    rw (apart, not_among_later x.name y ys r.0.0 apart r.1.0, no_repeats (y ∷ ys) r.1 (λ k d l. h (suc k) d (omega arith)))

-- the same at a place of a loop
pub repeats_before : (labels : List Label) (i : ℕ) (d e : Label) → 1 ≤ i → i < length labels → true ≡ bytes_eq (get_or labels (i - 1) d).name (get_or labels i e).name → true ≡ repeats (names_of labels)
repeats_before labels i d e low l h =
    let j : i ≡ suc (i - 1) = omega arith in
    let same = get_or_default labels i e d l ∙ ap (λ n. get_or labels n d) j in
    sym (repeats_at _ _ d (omega arith) (ap (λ y. bytes_eq (get_or labels (i - 1) d).name y.name) (sym same) ∙ sym h))

pub no_repeats_before : (labels : List Label) (i : ℕ) → length labels ≤ i → IsSortedBy has_lesser_name labels
    → ((k : ℕ) (d : Label) → k + 1 < i → bytes_eq (get_or labels k d).name (get_or labels (k + 1) d).name ≡ false) → false ≡ repeats (names_of labels)
no_repeats_before labels i end up h = sym (no_repeats _ (Rises-from_sorted has_lesser_name (ranks_by nat_list_cmp_total (λ l. l.name)) _ up)
    (λ k d l. subst (λ n. bytes_eq (get_or labels k d).name (get_or labels n d).name ≡ false) {x = k + 1} {y = suc k} (omega arith) (h k d (omega arith))))

-- a list that has the same value under a name has the name too
among_same : (labels others : List Label) (name : List ℕ) → value_of labels name ≡ value_of others name → is_among (names_of labels) name ≡ is_among (names_of others) name
among_same _ _ name e = among_names _ _ ∙ ap is_some e ∙ sym (among_names _ _)

among-in_order : (labels : List Label) (name : List ℕ) → is_among (names_of (in_order has_lesser_name labels)) name ≡ is_among (names_of labels) name
among-in_order labels _ = among_same _ _ _ (value_of-in_order _ _)

-- the first two may change places
repeats-swap : (l m : Label) (ls : List Label) → repeats (names_of (m ∷ l ∷ ls)) ≡ repeats (names_of (l ∷ m ∷ ls))
unfolding repeats is_among
repeats-swap l m ls = rw (nat_list_eq_equiv.symm l.name m.name) (elim (cases_Bool (bytes_eq m.name l.name)) [
  | inl t ↦ rw t
  | inr f ↦ rw f (or_swap (is_among (names_of ls) m.name) (is_among (names_of ls) l.name) (repeats (names_of ls)))
])

repeats-placed : (l : Label) (ls : List Label) → repeats (names_of (placed has_lesser_name l ls)) ≡ repeats (names_of (l ∷ ls))
unfolding placed repeats
repeats-placed l [] = refl
repeats-placed l (m ∷ ms) = elim (cases_Bool (has_lesser_name m l)) [
  | inl t ↦ rw t ((λ i. among_same (placed has_lesser_name l ms) (l ∷ ms) m.name (value_of-placed l ms m.name) i || repeats-placed l ms i) ∙ repeats-swap l m _)
  | inr f ↦ rw f
]

pub repeats-in_order : (labels : List Label) → repeats (names_of (in_order has_lesser_name labels)) ≡ repeats (names_of labels)
unfolding in_order repeats
repeats-in_order [] = refl
repeats-in_order (l ∷ ls) = repeats-placed l _ ∙ (λ i. among-in_order ls l.name i || repeats-in_order ls i)

-- in a form that takes what a sort ensures
pub repeats_sorted : (labels sorted : List Label) → sorted ≡ in_order has_lesser_name labels → repeats (names_of sorted) ≡ repeats (names_of labels)
repeats_sorted _ _ e = rw e (repeats-in_order _)

pub repeats_sorted_with : (labels sorted : List Label) (name : List ℕ) → sorted ≡ in_order has_lesser_name labels → repeats (name ∷ names_of sorted) ≡ repeats (name ∷ names_of labels)
unfolding repeats
repeats_sorted_with _ _ _ e = rw (e, among-in_order, repeats-in_order)

-- labels that can stand as pairs, no two of one name, make a set
named_some : (name : List ℕ) → is_name name ≡ true → name ≢ []
unfolding is_name
named_some _ is e = true≢false (sym is ∙ ap is_name e)

pub MakeASet-from_pairs : (labels : List Label) → ArePairs labels → repeats (names_of labels) ≡ false → MakeASet labels
unfolding repeats
MakeASet-from_pairs [] are once = tt
MakeASet-from_pairs (l ∷ ls) are once =
    let p = or_parts _ _ once in
    let one = are 0 l (omega arith) in
    (named_some _ one.0, one.1, None-from_is_some _ (sym (among_names _ _) ∙ p.0), MakeASet-from_pairs ls (λ k d lt. are (suc k) d (omega arith)) p.1)

pub once_from_able : (labels : List Label) → MakeASet labels → repeats (names_of labels) ≡ false
unfolding repeats
once_from_able [] able = refl
once_from_able (l ∷ ls) able = rw (among_names ls l.name, able.2, once_from_able ls able.3)

-- no label lacks its name
nameless : (labels : List Label) → ArePairs labels → is_among (names_of labels) [] ≡ false
unfolding is_among
nameless [] are = refl
nameless (l ∷ ls) are = rw (bytes_eq_differs l.name [] (named_some _ (are 0 l (omega arith)).0), nameless ls (λ k d lt. are (suc k) d (omega arith)))

pub repeats-nameless : (labels : List Label) → ArePairs labels → repeats ([] ∷ names_of labels) ≡ repeats (names_of labels)
unfolding repeats is_among
repeats-nameless _ are = rw (nameless)

among-last : (labels : List Label) (l : Label) (name : List ℕ) → is_among (names_of (labels ++ l ∷ [])) name ≡ (bytes_eq l.name name || is_among (names_of labels) name)
unfolding is_among
among-last [] l _ = refl
among-last (x ∷ xs) l name = ap (λ b. bytes_eq x.name name || b) (among-last xs l _) ∙ or_swap (bytes_eq x.name name) (bytes_eq l.name name) (is_among (names_of xs) name)

-- the last label may stand first
pub repeats-last : (labels : List Label) (l : Label) → repeats (names_of (labels ++ l ∷ [])) ≡ repeats (l.name ∷ names_of labels)
unfolding repeats is_among
repeats-last [] l = refl
repeats-last (x ∷ xs) l = (λ i. among-last xs l x.name i || repeats-last xs l i) ∙ repeats-swap l x xs

among-more : (labels more : List Label) (name : List ℕ) → is_among (names_of labels) name ≡ true → is_among (names_of (labels ++ more)) name ≡ true
among-more _ more name t =
    let has : Label → Bool = λ l. bytes_eq l.name name in
    sym (among_labels _ _) ∙ list_any-append has _ _ ∙ ap (λ b. b || list_any has more) (among_labels _ _ ∙ t)

-- what stands twice does so whatever follows
pub repeats-more : (labels more : List Label) → repeats (names_of labels) ≡ true → repeats (names_of (labels ++ more)) ≡ true
unfolding repeats
repeats-more [] _ t = absurd (true≢false (sym t))
repeats-more (x ∷ xs) more t = elim (cases_Bool _) [
  | inl here ↦ rw (among-more xs more x.name here)
  | inr f ↦ rw (repeats-more xs more (rw f at t), or-true)
]

-- the name that is added is among the others, or only the others decide
pub repeats_found : (labels : List Label) (name : List ℕ) (r : Bool) → r ≡ list_any (λ l. bytes_eq l.name name) labels → r ≡ true → r ≡ repeats (name ∷ names_of labels)
unfolding repeats
repeats_found labels _ r e t = t ∙ sym (rw (sym (among_labels labels _) ∙ sym e ∙ t))

pub repeats_others : (labels : List Label) (name : List ℕ) (a r : Bool) → a ≡ list_any (λ l. bytes_eq l.name name) labels → a ≡ false → r ≡ repeats (names_of labels) → r ≡ repeats (name ∷ names_of labels)
unfolding repeats
repeats_others labels _ a r e f h = h ∙ sym (rw (sym (among_labels labels _) ∙ sym e ∙ f))
