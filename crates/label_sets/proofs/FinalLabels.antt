-- The values of final and reduced labels, that they are label sets, and the law that joins them.
use Rattle.std.proofs.Common.{◌≡◌, ◌⊎◌, ℕ, Bool, true, false, not, ◌||◌, cond, List, [], ◌∷◌, ◌++◌, Option, Some, None, refl, sym, ap, ◌∙◌, inl, inr, append_assoc}
use Rattle.std.specs.Cmp.Lexicographic.{bytes_decides}
use Rattle.std.specs.Str.{bytes_eq}
use Rattle.std.specs.Option.{option_or, is_some}
use Rattle.label_sets.specs.declared.label.Label.{Label}
use Rattle.label_sets.specs.Labels.{StandsBefore, IsLabelSet, MakeASet, value_of, names_of, has_lesser_name}
use Rattle.label_sets.specs.Ordered.{in_order}
use Rattle.label_sets.specs.Finals.{is_among, without, final_of, reduced_of}
use Rattle.label_sets.proofs.LabelValues.{same_sets}
use Rattle.label_sets.proofs.OrderedLabels.{value_of-in_order, value_of-append, IsLabelSet-in_order, MakeASet-from_set, MakeASet-append}

-- what is left out is not found, and what is kept is found as before
kept_value : (gone here left : Bool) (value others kept : Option (List ℕ)) → (here ≡ true → gone ≡ left) → kept ≡ cond left None others
    → cond (not gone) (cond here value kept) kept ≡ cond left None (cond here value others)
kept_value true true _ value others _ h e = e ∙ ap (λ b. cond b None others) (sym (h refl)) ∙ ap (λ b. cond b None value) (h refl)
kept_value true false _ _ _ _ h e = e
kept_value false true _ value _ _ h e = ap (λ b. cond b None value) (h refl)
kept_value false false _ _ _ _ h e = e

either_none : (b : Bool) → cond {A = Option (List ℕ)} b None None ≡ None
either_none true = refl
either_none false = refl

same_among : (names : List (List ℕ)) (one other : List ℕ) → bytes_eq one other ≡ true → is_among names one ≡ is_among names other
same_among names one other t = ap (λ n. is_among names n) ((bytes_decides one other).0 t)

value_of-cond : (b : Bool) (l : Label) (ls : List Label) (name : List ℕ) → value_of (cond b (l ∷ ls) ls) name ≡ cond b (cond (bytes_eq l.name name) (Some l.value) (value_of ls name)) (value_of ls name)
unfolding value_of
value_of-cond true l _ _ = refl
value_of-cond false l _ _ = refl

pub value_of-without : (names : List (List ℕ)) (ls : List Label) (name : List ℕ) → value_of (without names ls) name ≡ cond (is_among names name) None (value_of ls name)
unfolding without value_of
value_of-without _ [] _ = sym (either_none _)
value_of-without names (l ∷ ls) name =
    value_of-cond (not (is_among names l.name)) l (without names ls) name
    ∙ kept_value _ _ _ _ _ _
    (same_among names l.name name) (value_of-without names ls _)

none_kept : (names : List (List ℕ)) (ls : List Label) (name : List ℕ) → value_of ls name ≡ None → value_of (without names ls) name ≡ None
none_kept names ls name e = value_of-without _ _ _ ∙ ap (λ v. cond (is_among names name) None v) e ∙ either_none _

pub MakeASet-without : (names : List (List ℕ)) (ls : List Label) → MakeASet ls → MakeASet (without names ls)
unfolding without
MakeASet-without _ [] h = tt
MakeASet-without names (l ∷ ls) h = elim (is_among names l.name) as (λ b. MakeASet (cond (not b) (l ∷ without names ls) (without names ls))) [
  | true ↦ MakeASet-without names ls h.3
  | false ↦ (h.0, h.1, none_kept names ls l.name h.2, MakeASet-without names ls h.3)
]

StandsBefore-without : (names : List (List ℕ)) (name : List ℕ) (ls : List Label) → StandsBefore name ls → StandsBefore name (without names ls)
unfolding without
StandsBefore-without _ _ [] h = tt
StandsBefore-without names name (l ∷ ls) h = elim (is_among names l.name) as (λ b. StandsBefore name (cond (not b) (l ∷ without names ls) (without names ls))) [
  | true ↦ StandsBefore-without names name ls h.1
  | false ↦ (h.0, StandsBefore-without names name ls h.1)
]

pub IsLabelSet-without : (names : List (List ℕ)) (ls : List Label) → IsLabelSet ls → IsLabelSet (without names ls)
unfolding without
IsLabelSet-without _ [] h = tt
IsLabelSet-without names (l ∷ ls) h = elim (is_among names l.name) as (λ b. IsLabelSet (cond (not b) (l ∷ without names ls) (without names ls))) [
  | true ↦ IsLabelSet-without names ls h.3
  | false ↦ (h.0, h.1, StandsBefore-without names l.name ls h.2, IsLabelSet-without names ls h.3)
]

pub among_names : (ls : List Label) (name : List ℕ) → is_among (names_of ls) name ≡ is_some (value_of ls name)
unfolding is_among value_of
among_names [] _ = refl
among_names (l ∷ ls) name = elim (bytes_eq l.name name) as (λ b. (b || is_among (names_of ls) name) ≡ is_some (cond b (Some l.value) (value_of ls name))) [
  | true ↦ refl
  | false ↦ among_names ls _
]

own_values : (labels external : List Label) (name : List ℕ) → value_of (without (names_of external) labels) name ≡ cond (is_some (value_of external name)) None (value_of labels name)
own_values labels _ name = value_of-without _ _ _ ∙ ap (λ b. cond b None (value_of labels name)) (among_names _ _)

one_is_none : (outer own : Option (List ℕ)) (v : Option (List ℕ)) → own ≡ cond (is_some outer) None v → (outer ≡ None) ⊎ (own ≡ None)
one_is_none None _ v e = inl refl
one_is_none (Some x) _ v e = inr e

or_else : (outer own v : Option (List ℕ)) → own ≡ cond (is_some outer) None v → option_or outer own ≡ option_or outer v
or_else None _ v e = e
or_else (Some x) _ v e = refl

pub IsLabelSet-reduced : (labels external : List Label) (replicas : List (List ℕ)) → IsLabelSet labels → IsLabelSet (reduced_of labels external replicas)
unfolding reduced_of
IsLabelSet-reduced _ _ _ h = IsLabelSet-without _ _ (IsLabelSet-without _ _ h)

final_make : (labels external : List Label) (replicas : List (List ℕ)) → IsLabelSet labels → IsLabelSet external → MakeASet (without replicas (external ++ without (names_of external) labels))
final_make labels external replicas p q =
    MakeASet-without replicas _
    (MakeASet-append _ _ (MakeASet-from_set _ q)
    (MakeASet-without _ _ (MakeASet-from_set _ p))
    (λ name. one_is_none (value_of external name) (value_of (without (names_of external) labels) name) (value_of labels name) (own_values _ _ _)))

pub IsLabelSet-final : (labels external : List Label) (replicas : List (List ℕ)) → IsLabelSet labels → IsLabelSet external → IsLabelSet (final_of labels external replicas)
unfolding final_of
IsLabelSet-final labels external replicas p q =
    IsLabelSet-in_order (without replicas (external ++ without (names_of external) labels)) (final_make _ _ _ p q)

-- the value of a final label: none under a replica label, else the external one, else the series' own
pub value_of-final : (labels external : List Label) (replicas : List (List ℕ)) (name : List ℕ)
    → value_of (final_of labels external replicas) name ≡ cond (is_among replicas name) None (option_or (value_of external name) (value_of labels name))
unfolding final_of
value_of-final labels external replicas name =
    value_of-in_order (without replicas (external ++ without (names_of external) labels)) _
    ∙ value_of-without _ _ _
    ∙ ap (λ v. cond (is_among replicas name) None v)
    (value_of-append _ _ _
    ∙ or_else _ _ _ (own_values _ _ _))

pub value_of-reduced : (labels external : List Label) (replicas : List (List ℕ)) (name : List ℕ)
    → value_of (reduced_of labels external replicas) name ≡ cond (is_among replicas name) None (cond (is_some (value_of external name)) None (value_of labels name))
unfolding reduced_of
value_of-reduced _ _ replicas name =
    value_of-without _ _ _
    ∙ ap (λ v. cond (is_among replicas name) None v) (own_values _ _ _)

joined : (gone : Bool) (outer own : Option (List ℕ)) → cond gone None (option_or (cond gone None outer) (cond gone None (cond (is_some outer) None own))) ≡ cond gone None (option_or outer own)
joined true _ _ = refl
joined false None _ = refl
joined false (Some x) _ = refl

-- Final labels can be taken from the reduced ones.
pub final_from_reduced : (labels external : List Label) (replicas : List (List ℕ)) → IsLabelSet labels → IsLabelSet external
    → final_of (reduced_of labels external replicas) (without replicas external) replicas ≡ final_of labels external replicas
final_from_reduced labels external replicas p q =
    same_sets (final_of (reduced_of labels external replicas) (without replicas external) replicas) (final_of labels external replicas)
    (IsLabelSet-final (reduced_of labels external replicas) (without replicas external) _ (IsLabelSet-reduced _ _ _ p) (IsLabelSet-without _ _ q))
    (IsLabelSet-final _ _ _ p q)
    (λ name. value_of-final (reduced_of labels external replicas) (without replicas external) replicas name
    ∙ ap (λ v. cond (is_among replicas name) None (option_or v (value_of (reduced_of labels external replicas) name))) (value_of-without _ _ _)
    ∙ ap (λ v. cond (is_among replicas name) None (option_or (cond (is_among replicas name) None (value_of external name)) v)) (value_of-reduced _ _ _ _)
    ∙ joined (is_among replicas name) (value_of external name) (value_of labels name)
    ∙ sym (value_of-final _ _ _ _))

without-append : (names : List (List ℕ)) (xs ys : List Label) → without names (xs ++ ys) ≡ without names xs ++ without names ys
unfolding without
without-append _ [] _ = refl
without-append names (x ∷ xs) ys = elim (is_among names x.name) as (λ b. cond (not b) (x ∷ without names (xs ++ ys)) (without names (xs ++ ys)) ≡ cond (not b) (x ∷ without names xs) (without names xs) ++ without names ys) [
  | true ↦ without-append names xs _
  | false ↦ ap (λ ws. x ∷ ws) (without-append names xs _)
]

pub without_nothing : (xs : List Label) → without [] xs ≡ xs
unfolding without is_among
without_nothing [] = refl
without_nothing (x ∷ xs) = ap (λ ws. x ∷ ws) (without_nothing _)

pub reduced-nil : (external : List Label) (replicas : List (List ℕ)) → reduced_of [] external replicas ≡ []
unfolding reduced_of without
reduced-nil _ _ = refl

pub reduced-append : (xs ys external : List Label) (replicas : List (List ℕ)) → reduced_of (xs ++ ys) external replicas ≡ reduced_of xs external replicas ++ reduced_of ys external replicas
unfolding reduced_of
reduced-append _ _ _ replicas = ap (without replicas) (without-append _ _ _) ∙ without-append _ _ _

without_one : (names : List (List ℕ)) (l : Label) → without names (l ∷ []) ≡ cond (not (is_among names l.name)) (l ∷ []) []
unfolding without
without_one _ l = refl

pub reduced_external : (l : Label) (external : List Label) (replicas : List (List ℕ)) (v : List ℕ) → value_of external l.name ≡ Some v → reduced_of (l ∷ []) external replicas ≡ []
unfolding reduced_of without
reduced_external l _ replicas v e = ap (λ b. without replicas (cond (not b) (l ∷ []) [])) (among_names _ _ ∙ ap is_some e)

pub reduced_own : (l : Label) (external : List Label) (replicas : List (List ℕ)) (b : Bool) → value_of external l.name ≡ None → b ≡ is_among replicas l.name → reduced_of (l ∷ []) external replicas ≡ cond (not b) (l ∷ []) []
unfolding reduced_of without
reduced_own l _ replicas b e h = ap (λ b. without replicas (cond (not b) (l ∷ []) [])) (among_names _ _ ∙ ap is_some e) ∙ without_one _ l ∙ ap (λ b. cond (not b) (l ∷ []) []) (sym h)

-- the external labels that are kept, then the series' own, put in order
pub final_parts : (labels external : List Label) (replicas : List (List ℕ)) (first both : List Label) → first ≡ [] ++ reduced_of external [] replicas → both ≡ first ++ reduced_of labels external replicas
    → in_order has_lesser_name both ≡ final_of labels external replicas
unfolding final_of reduced_of
final_parts labels external replicas _ _ p q =
    ap (in_order has_lesser_name)
    (q ∙ ap (λ ws. ws ++ without replicas (without (names_of external) labels)) (p ∙ ap (without replicas) (without_nothing _))
    ∙ sym (without-append _ _ _))

-- one label more
pub reduced_more : (external : List Label) (replicas : List (List ℕ)) (begun kept now part done more : List Label) (l : Label)
    → kept ≡ begun ++ reduced_of done external replicas → more ≡ done ++ l ∷ [] → reduced_of (l ∷ []) external replicas ≡ part → now ≡ kept ++ part
    → now ≡ begun ++ reduced_of more external replicas
reduced_more external replicas begun _ _ part done _ l k m one n =
    n ∙ ap (λ ws. ws ++ part) k ∙ append_assoc begun (reduced_of done external replicas) part
    ∙ ap (λ ws. begun ++ ws) (ap (λ ws. reduced_of done external replicas ++ ws) (sym one) ∙ sym (reduced-append _ _ _ _) ∙ ap (λ ws. reduced_of ws external replicas) (sym m))

-- what the two passes of `final_labels` and its sort leave
pub final_sorted : {made first both sorted outer own again labels external : List Label} {names others replicas : List (List ℕ)}
    → made ≡ [] → outer ≡ external → own ≡ labels → again ≡ external → names ≡ replicas → others ≡ replicas
    → first ≡ made ++ reduced_of outer [] names → both ≡ first ++ reduced_of own again others → sorted ≡ in_order has_lesser_name both
    → sorted ≡ final_of labels external replicas
final_sorted {first = first} {both = both} {labels = labels} {external = external} {replicas = replicas} m a b c d e f g s =
    s ∙ final_parts _ _ _ _ _
    (f ∙ (λ i. m i ++ reduced_of (a i) [] (d i))) (g ∙ (λ i. first ++ reduced_of (b i) (c i) (e i)))

-- what the one pass of `reduced` leaves
pub reduced_alone : {made kept own outer labels external : List Label} {names replicas : List (List ℕ)}
    → made ≡ [] → own ≡ labels → outer ≡ external → names ≡ replicas → kept ≡ made ++ reduced_of own outer names → kept ≡ reduced_of labels external replicas
reduced_alone m a b c k = k ∙ (λ i. m i ++ reduced_of (a i) (b i) (c i))
