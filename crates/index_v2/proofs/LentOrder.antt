-- Labels that an index lends: their order; and series that are copied.
use Rattle.std.proofs.Common.{◌≡◌, ℕ, zero, suc, ◌+◌, ◌<◌, ◌≤◌, true, false, List, [], ◌∷◌, ◌++◌, length, map, take, drop, get_or, refl, sym, ap, ◌∙◌, arith}
use Rattle.std.specs.declared.cmp.Ordering.{Ordering}
use Rattle.std.specs.declared.cmp.Ordering.TheVariants.{Less, Equal, Greater}
use Rattle.std.specs.Ordering.{ordering_then, is_eq}
use Rattle.std.proofs.lemmas.Bool.{true≢false}
use Rattle.std.proofs.lemmas.List.{take_more, drop_more, drop_all}
use Rattle.base.proofs.Lists.{drop_none}
use Rattle.base.proofs.Bools.{Equal-from_is_eq}
use Rattle.label_sets.specs.declared.label.Label.{Label}
use Rattle.label_sets.specs.Labels.{compare_labels, compare_sets}
use Rattle.index_parts.specs.declared.index_series.IndexSeries.{IndexSeries}
use Rattle.index_v2.specs.declared.lent_series.LentLabel.{LentLabel}
use Rattle.index_v2.specs.LentLabels.{as_label}

-- ---- their order

abbrev compared : List LentLabel → List LentLabel → Ordering
compared one other = compare_sets (map as_label one) (map as_label other)

-- so many of the first labels are the same
pub record SameSoFar (one other : List LentLabel) (place : ℕ) : Type 0 where
  pub short : place ≤ length one
  pub within : place ≤ length other
  pub rest : compared one other ≡ compared (drop place one) (drop place other)

pub same_none : (one other : List LentLabel) → SameSoFar one other 0
same_none one other = record { short = omega arith; within = omega arith; rest = sym (ap (λ l. compared l (drop 0 other)) (drop_none _) ∙ ap (compared one) (drop_none _)) }

next_pair : (one other : List LentLabel) (place : ℕ) (d e : LentLabel) → place < length one → place < length other → SameSoFar one other place
    → compared one other ≡ ordering_then (compare_labels (as_label (get_or one place d)) (as_label (get_or other place e))) (compared (drop (place + 1) one) (drop (place + 1) other))
next_pair one other place d e lt less h = h.rest ∙ ap (λ l. compared l (drop place other)) (drop_more one place d lt) ∙ ap (compared (get_or one place d ∷ drop (place + 1) one)) (drop_more other place e less)

pub same_more : (one other : List LentLabel) (place : ℕ) (x y d e : LentLabel) (o : Ordering) → place < length one → place < length other → x ≡ get_or one place d → y ≡ get_or other place e → SameSoFar one other place → o ≡ compare_labels (as_label x) (as_label y) → is_eq o ≡ true → SameSoFar one other (place + 1)
same_more one other place x y d e o lt less at there h is equal = record {
  short = omega arith;
  within = omega arith;
  rest = next_pair _ _ _ d e lt less h
      ∙ ap (λ r. ordering_then r (compared (drop (place + 1) one) (drop (place + 1) other)))
      (ap (λ l. compare_labels (as_label l) (as_label (get_or other place e))) (sym at) ∙ ap (λ l. compare_labels (as_label x) (as_label l)) (sym there) ∙ sym is ∙ Equal-from_is_eq o equal);
}

told_by_first : (o r : Ordering) → is_eq o ≡ false → ordering_then o r ≡ o
told_by_first Less r apart = refl
told_by_first Equal r apart = absurd (true≢false apart)
told_by_first Greater r apart = refl

pub differ_here : (one other : List LentLabel) (place : ℕ) (x y d e : LentLabel) (o : Ordering) → place < length one → place < length other → x ≡ get_or one place d → y ≡ get_or other place e → SameSoFar one other place → o ≡ compare_labels (as_label x) (as_label y) → is_eq o ≡ false → o ≡ compared one other
differ_here one other place x y d e o lt less at there h is apart =
    sym (next_pair _ _ _ d e lt less h
    ∙ ap (λ r. ordering_then r (compared (drop (place + 1) one) (drop (place + 1) other)))
    (ap (λ l. compare_labels (as_label l) (as_label (get_or other place e))) (sym at) ∙ ap (λ l. compare_labels (as_label x) (as_label l)) (sym there) ∙ sym is)
    ∙ told_by_first o _ apart)

some_and_none : (one : List LentLabel) (place : ℕ) (d : LentLabel) → place < length one → compared (drop place one) [] ≡ Greater
some_and_none one place d lt = ap (λ l. compared l []) (drop_more one place d lt)

some_label : (labels : List LentLabel) → 0 < length labels → LentLabel
some_label [] lt = absurd (omega arith)
some_label (l ∷ ls) lt = l

pub ends_first : (one other : List LentLabel) (place : ℕ) → place < length one → length other ≤ place → SameSoFar one other place → Greater ≡ compared one other
ends_first one _ place lt all h = sym (h.rest ∙ ap (compared (drop place one)) (drop_all _ _ all) ∙ some_and_none _ _ (some_label one (omega (arith, lt))) lt)

-- so many of the first labels are all of the one
pub is_front : (one other : List LentLabel) (place : ℕ) → length one ≤ place → length one < length other → SameSoFar one other place → Less ≡ compared one other
is_front _ other place all longer h =
    sym (h.rest ∙ ap (λ l. compared l (drop place other)) (drop_all _ _ all) ∙ ap (compared []) (drop_more other place (some_label other (omega (arith, longer))) (omega arith)))

pub are_equal : (one other : List LentLabel) (place : ℕ) → length one ≤ place → length other ≤ length one → SameSoFar one other place → Equal ≡ compared one other
are_equal _ other place all shorter h = sym (h.rest ∙ ap (λ l. compared l (drop place other)) (drop_all _ _ all) ∙ ap (compared []) (drop_all _ other (omega arith)))

-- ---- lent labels as labels

pub at_mapped : (labels : List LentLabel) (k : ℕ) (x d : LentLabel) (e : Label) → k < length labels → x ≡ get_or labels k d → as_label x ≡ get_or (map as_label labels) k e
at_mapped [] k x d e lt at = absurd (omega arith)
at_mapped (l ∷ ls) zero x d e lt at = ap as_label at
at_mapped (l ∷ ls) (suc k) x d e lt at = at_mapped ls k x d e (omega arith) at

-- ---- series that are copied

pub one_copied : (series made new : List IndexSeries) (k : ℕ) (x copy d : IndexSeries) → made ≡ take k series → k < length series → x ≡ get_or series k d → copy ≡ x → new ≡ made ++ copy ∷ [] → new ≡ take (k + 1) series
one_copied series _ _ k x copy d far lt at same pushed =
    pushed ∙ ap (λ l. l ++ copy ∷ []) far ∙ ap (λ y. take k series ++ y ∷ []) (same ∙ at) ∙ sym (take_more _ k d lt)
