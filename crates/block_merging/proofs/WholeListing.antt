-- Series of which no label is left out: they keep the order of the index.
use Rattle.std.proofs.Common.{◌≡◌, ℕ, ◌+◌, ◌<◌, ◌≤◌, Bool, true, cond, List, [], ◌∷◌, ◌++◌, length, map, take, get_or, sym, ap, subst, ◌∙◌, arith}
use Rattle.std.specs.Prelude.{zip}
use Rattle.std.specs.Cmp.{IsStrictWeakOrder}
use Rattle.std.specs.List.{AllByRecursion}
use Rattle.std.specs.List.Sorted.{IsStrictlySortedBy}
use Rattle.std.specs.declared.cmp.Ordering.TheVariants.{Less}
use Rattle.std.specs.Ordering.{is_lt}
use Rattle.std.proofs.lemmas.List.{take_more, take_all, length-map}
use Rattle.std.proofs.lemmas.List.Sorted.{ranks_by}
use Rattle.base.specs.Ordered.{in_order}
use Rattle.base.proofs.Lists.{take_none, AllByRecursion-push}
use Rattle.base.proofs.StableSorts.{NoneLess, Rises, Rises-in_order, filter-in_order, same_in_order}
use Rattle.label_sets.specs.declared.label.Label.{Label}
use Rattle.label_sets.specs.Labels.{compare_sets}
use Rattle.label_sets.specs.Finals.{reduced_of}
use Rattle.label_sets.proofs.FinalLabels.{reduced-nil}
use Rattle.vertical_merge.proofs.Orders.{sets_total}
use Rattle.index_parts.specs.declared.index_series.IndexSeries.{IndexSeries}
use Rattle.index_parts.specs.IndexFile.{compare_series, IsIndex}
use Rattle.index_v2.specs.declared.lent_series.LentLabel.{LentLabel}
use Rattle.index_v2.specs.LentLabels.{as_label}
use Rattle.block_merging.specs.declared.listing.SeriesPlace.{SeriesPlace}
use Rattle.block_merging.specs.Queues.{place_pair, is_reduced_before, LosesNothing}
use Rattle.block_merging.proofs.LentOrder.{lent_kept}
use Rattle.block_merging.proofs.QueueSteps.{maps_more, zip_maps}

-- ---- labels

-- so many of the first labels are all kept
abbrev pub KeptSoFar : List LentLabel → List Label → List (List ℕ) → ℕ → Type 0
KeptSoFar labels external replicas place = map as_label (take place labels) ≡ reduced_of (take place (map as_label labels)) external replicas

pub none_kept : (labels : List LentLabel) (external : List Label) (replicas : List (List ℕ)) → KeptSoFar labels external replicas 0
none_kept labels external replicas = ap (map as_label) (take_none labels) ∙ sym (ap (λ (l : List Label). reduced_of l external replicas) (take_none (map as_label labels)) ∙ reduced-nil external replicas)

one_if : (b : Bool) (x : Label) (reduced : List Label) → reduced ≡ cond b (x ∷ []) [] → b ≡ true → reduced ≡ x ∷ []
one_if b x reduced is kept = is ∙ ap (λ (c : Bool). cond c (x ∷ []) []) kept

pub one_kept : (labels : List LentLabel) (place : ℕ) (x d : LentLabel) (b : Bool) (external : List Label) (replicas : List (List ℕ)) → place < length labels → x ≡ get_or labels place d → KeptSoFar labels external replicas place → reduced_of (as_label x ∷ []) external replicas ≡ cond b (as_label x ∷ []) [] → b ≡ true → KeptSoFar labels external replicas (place + 1)
one_kept labels place x d b external replicas lt at was told kept =
    lent_kept labels (take place labels) (take (place + 1) labels) place x d external replicas lt at was (one_if b (as_label x) (reduced_of (as_label x ∷ []) external replicas) told kept) (take_more labels place d lt ∙ ap (λ (l : LentLabel). take place labels ++ l ∷ []) (sym at))

pub all_kept : (labels : List LentLabel) (place : ℕ) (external : List Label) (replicas : List (List ℕ)) → length labels ≤ place → KeptSoFar labels external replicas place → reduced_of (map as_label labels) external replicas ≡ map as_label labels
all_kept labels place external replicas all was =
    sym (ap (map as_label) (sym (take_all place labels all)) ∙ was ∙ ap (λ (l : List Label). reduced_of l external replicas) (take_all place (map as_label labels) (omega (arith, all, length-map labels as_label))))

-- ---- series

pub none_lost : (external : List Label) (replicas : List (List ℕ)) (series : List IndexSeries) → AllByRecursion (LosesNothing external replicas) (take 0 series)
none_lost external replicas series = subst (AllByRecursion (LosesNothing external replicas)) (sym (take_none series)) tt

pub one_whole : (external : List Label) (replicas : List (List ℕ)) (series : List IndexSeries) (place : ℕ) (x d : IndexSeries) (labels : List Label) → place < length series → x ≡ get_or series place d → labels ≡ x.labels → reduced_of labels external replicas ≡ labels
    → AllByRecursion (LosesNothing external replicas) (take place series) → AllByRecursion (LosesNothing external replicas) (take (place + 1) series)
one_whole external replicas series place x d labels lt at are whole all =
    subst (AllByRecursion (LosesNothing external replicas)) (sym (take_more series place d lt ∙ ap (λ (s : IndexSeries). take place series ++ s ∷ []) (sym at)))
    (AllByRecursion-push (LosesNothing external replicas) (take place series) x all (subst (λ (l : List Label). reduced_of l external replicas ≡ l) are whole))

pub all_whole : (external : List Label) (replicas : List (List ℕ)) (series : List IndexSeries) (place : ℕ) → length series ≤ place → AllByRecursion (LosesNothing external replicas) (take place series) → AllByRecursion (LosesNothing external replicas) series
all_whole external replicas series place all whole = subst (AllByRecursion (LosesNothing external replicas)) (take_all place series all) whole

-- ---- their order

module _ (external : List Label) (replicas : List (List ℕ)) where
  ranked : IsStrictWeakOrder (is_reduced_before external replicas)
  ranked = ranks_by sets_total (λ (one : ℕ × IndexSeries). reduced_of one.1.labels external replicas)

  before_still : (x y : ℕ × IndexSeries) → LosesNothing external replicas x.1 → LosesNothing external replicas y.1 → compare_series x.1 y.1 ≡ Less → is_reduced_before external replicas x y ≡ true
  before_still x y p q less =
      ap (λ (l : List Label). is_lt (compare_sets l (reduced_of y.1.labels external replicas))) p ∙ ap (λ (l : List Label). is_lt (compare_sets x.1.labels l)) q ∙ ap is_lt less

  none_before : (x : ℕ × IndexSeries) (numbers : List ℕ) (series : List IndexSeries) → LosesNothing external replicas x.1 → AllByRecursion (LosesNothing external replicas) series → AllByRecursion (λ y. compare_series x.1 y ≡ Less) series → NoneLess (is_reduced_before external replicas) x (zip numbers series)
  none_before x [] series p all less = tt
  none_before x (n ∷ ns) [] p all less = tt
  none_before x (n ∷ ns) (s ∷ ss) p all less = (ranked.one_way x (n, s) (before_still x (n, s) p all.0 less.0), none_before x ns ss p all.1 less.1)

  still_rise : (numbers : List ℕ) (series : List IndexSeries) → AllByRecursion (LosesNothing external replicas) series → IsStrictlySortedBy compare_series series → Rises (is_reduced_before external replicas) (zip numbers series)
  unfolding IsStrictlySortedBy
  still_rise [] series all up = tt
  still_rise (n ∷ ns) [] all up = tt
  still_rise (n ∷ ns) (s ∷ ss) all up = (none_before (n, s) ns ss all.0 all.1 up.0, still_rise ns ss all.1 up.1)

  pub keep_order : (numbers : List ℕ) (series : List IndexSeries) → AllByRecursion (LosesNothing external replicas) series → IsStrictlySortedBy compare_series series → zip numbers series ≡ in_order (is_reduced_before external replicas) (zip numbers series)
  keep_order numbers series all up =
      let pairs : List (ℕ × IndexSeries) = zip numbers series in
      sym (same_in_order (is_reduced_before external replicas) ranked (in_order (is_reduced_before external replicas) pairs) pairs (Rises-in_order (is_reduced_before external replicas) ranked pairs) (still_rise numbers series all up)
      (λ x. filter-in_order (is_reduced_before external replicas) ranked x pairs))

-- ---- their places

pub record PlacesSoFar (numbers : List ℕ) (series : List IndexSeries) (place : ℕ) (made : List SeriesPlace) : Type 0 where
  pub numbers_are : map (λ one. one.number) made ≡ take place numbers
  pub series_are : map (λ one. one.indexed.value) made ≡ take place series

pub no_places : (numbers : List ℕ) (series : List IndexSeries) (made : List SeriesPlace) → made ≡ [] → PlacesSoFar numbers series 0 made
no_places numbers series made none = record {
  numbers_are = ap (map (λ (one : SeriesPlace). one.number)) none ∙ sym (take_none numbers);
  series_are = ap (map (λ (one : SeriesPlace). one.indexed.value)) none ∙ sym (take_none series);
}

pub more_places : (numbers : List ℕ) (series : List IndexSeries) (place : ℕ) (made new : List SeriesPlace) (one : SeriesPlace) (number : ℕ) (s : IndexSeries) (d : ℕ) (e : IndexSeries) → length numbers ≡ length series → place < length series → number ≡ get_or numbers place d → s ≡ get_or series place e → place_pair one ≡ (number, s) → new ≡ made ++ one ∷ []
    → PlacesSoFar numbers series place made → PlacesSoFar numbers series (place + 1) new
more_places numbers series place made new one number s d e as_many lt at there is added h = record {
  numbers_are = maps_more (λ (x : SeriesPlace). x.number) made new one numbers place d (omega (arith, as_many, lt)) h.numbers_are (ap (λ (p : ℕ × IndexSeries). p.0) is ∙ at) added;
  series_are = maps_more (λ (x : SeriesPlace). x.indexed.value) made new one series place e lt h.series_are (ap (λ (p : ℕ × IndexSeries). p.1) is ∙ there) added;
}

pub all_places : (numbers : List ℕ) (series : List IndexSeries) (place : ℕ) (made : List SeriesPlace) → length numbers ≡ length series → length series ≤ place → PlacesSoFar numbers series place made → map place_pair made ≡ zip numbers series
all_places numbers series place made as_many all h =
    zip_maps (λ (x : SeriesPlace). x.number) (λ (x : SeriesPlace). x.indexed.value) made
    ∙ ap (λ (l : List ℕ). zip l (map (λ (x : SeriesPlace). x.indexed.value) made)) (h.numbers_are ∙ take_all place numbers (omega (arith, as_many, all)))
    ∙ ap (zip numbers) (h.series_are ∙ take_all place series all)

-- the series of an index ascend
pub index_ascends : (index : List ℕ) (list members : List IndexSeries) (is : IsIndex index list) → members ≡ list → IsStrictlySortedBy compare_series members
index_ascends index list members is same = subst (IsStrictlySortedBy compare_series) (is.list_is ∙ sym same) is.series_are.ascend
