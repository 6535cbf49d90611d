-- Series that are joined one after another keep their samples, and those in order get labels that
-- strictly ascend.
use Rattle.std.proofs.Common.{length, ◌≡◌, ◌≢◌, append-nil, true, false, List, [], ◌∷◌, ◌++◌, map, Option, Some, None, refl, sym, ap, ◌∙◌, subst, append_assoc}
use Rattle.std.specs.Prelude.{fold}
use Rattle.std.specs.declared.cmp.Ordering.TheVariants.{Less}
use Rattle.std.specs.Ordering.{is_lt}
use Rattle.std.specs.List.{AllByRecursion}
use Rattle.std.specs.List.Sorted.{IsStrictlySortedBy}
use Rattle.std.proofs.lemmas.List.{map-append, nil_from_length}
use Rattle.label_sets.specs.declared.label.Label.{Label}
use Rattle.label_sets.specs.declared.sample.Sample.{Sample}
use Rattle.label_sets.specs.declared.series.Series.{Series}
use Rattle.label_sets.specs.Labels.{compare_sets}
use Rattle.label_sets.specs.Triples.{Triple, triples_of, triples_under}
use Rattle.label_sets.proofs.LabelValues.{same_set}
use Rattle.base.specs.Order.{InOrderAfter, ComesAfter}
use Rattle.base.proofs.Bools.{by_bool, by_order, Equal-from_is_eq}
use Rattle.base.proofs.Lists.{map-push, flat_map-push}
use Rattle.base.proofs.Order.{sorted_nil, sorted_from_order}
use Rattle.base.proofs.StableSorts.{Rises}
use Rattle.base.specs.Lists.{joined as all_of}
use Rattle.vertical_merge.specs.declared.sample_merge.Parts.{Parts}
use Rattle.vertical_merge.specs.Joined.{has_lesser_labels, has_same_labels, joined, joined_to, series_of}
use Rattle.vertical_merge.proofs.Orders.{sets_total}

-- the labels of the series
abbrev pub labels_of : List Series → List (List Label)
labels_of series = map (λ s. s.labels) series

abbrev pub HasSamples : Series → Type 0
HasSamples s = s.samples ≢ []

pub triples_under-append : (labels : List Label) (one more : List Sample)
    → triples_under labels (one ++ more) ≡ triples_under labels one ++ triples_under labels more
unfolding triples_under
triples_under-append _ _ _ = map-append _ _ _

-- of each series the labels are not less than those before
abbrev pub Climb : List Label → List Series → Type 0
Climb labels [] = Unit {0}
Climb labels (s ∷ ss) = (is_lt (compare_sets s.labels labels) ≡ false) × Climb s.labels ss

climb : (one : Series) (series : List Series)
    → Rises has_lesser_labels (one ∷ series) → Climb one.labels series
climb one [] up = tt
climb one (s ∷ ss) up = (up.0.0, climb s ss up.1)

-- labels that are not less than others, and not the same, are greater
greater : (one next : Series) → has_lesser_labels next one ≡ false
    → has_same_labels one next ≡ false → compare_sets one.labels next.labels ≡ Less
greater one next n f = by_order (compare_sets one.labels next.labels) (λ e. e)
    (λ e. absurd cc (rw e at f))
    (λ e. absurd cc (rw (sets_total.antisymm next.labels one.labels, e) at n))

appended : (one more : List Sample) → one ≢ [] → one ++ more ≢ []
appended [] more some e = some refl
appended (s ∷ ss) more some e = cc

joined_to-last : (rest : List Series) (last next : Series)
    → joined_to (rest ++ last ∷ []) next ≡ rest ++ joined last next
unfolding joined_to
joined_to-last [] _ _ = refl
joined_to-last (one ∷ []) _ _ = refl
joined_to-last (one ∷ other ∷ rest) _ _ =
    ap (λ (l : List Series). one ∷ l) (joined_to-last (other ∷ rest) _ _)

-- what a series and those behind it become
record Joins (made : List Series) (one : Series) (series : List Series)
    (before : Option (List Label)) : Type 0 where
  pub all : List Series
  pub is : fold joined_to (made ++ one ∷ []) series ≡ made ++ all
  pub triples : triples_of all ≡ triples_of (one ∷ series)
  pub order : InOrderAfter (ComesAfter compare_sets) before (labels_of all)
  pub inhabited : AllByRecursion HasSamples all

joins : (made : List Series) (one : Series) (series : List Series) (before : Option (List Label))
    → ComesAfter compare_sets before one.labels → Climb one.labels series → HasSamples one
    → AllByRecursion HasSamples series → Joins made one series before
unfolding joined triples_of
joins made one [] before comes up some all =
    record {
      all = one ∷ [];
      is = refl;
      triples = refl;
      order = (comes, tt);
      inhabited = (some, tt);
    }
joins made one (s ∷ ss) before comes up some all = by_bool (has_same_labels one s)
    (λ t. let labels : one.labels ≡ s.labels = same_set _ _ (Equal-from_is_eq _ t) in
    let both : Series = record { labels = one.labels; samples = one.samples ++ s.samples } in
    let j = joins made both ss before comes (subst (λ l. Climb l ss) (sym labels) up.1)
    (appended _ _ some) all.1 in
    record {
      all = j.all;
      is = rw (joined_to-last made one s, t) j.is;
      triples = j.triples
          ∙ rw (triples_under-append one.labels one.samples s.samples, append_assoc, labels) refl;
      order = j.order;
      inhabited = j.inhabited;
    })
    (λ f. let j = joins (made ++ one ∷ []) s ss (Some one.labels) (greater one s up.0 f) up.1
    all.0 all.1 in
    record {
      all = one ∷ j.all;
      is = rw (joined_to-last made one s, f) (simp append_assoc at j.is);
      triples = ap (λ ts. triples_under one.labels one.samples ++ ts) j.triples;
      order = (comes, j.order);
      inhabited = (some, j.inhabited);
    })

pub record AreJoined (series made : List Series) : Type 0 where
  pub ascending : IsStrictlySortedBy compare_sets (labels_of made)
  pub inhabited : AllByRecursion HasSamples made
  pub triples : triples_of made ≡ triples_of series

pub are_joined : (series : List Series) → Rises has_lesser_labels series
    → AllByRecursion HasSamples series → AreJoined series (fold joined_to [] series)
unfolding joined_to
are_joined [] up all =
    record { ascending = sorted_nil compare_sets; inhabited = tt; triples = refl }
are_joined (s ∷ ss) up all =
    let j = joins [] s ss None tt (climb s ss up) all.0 all.1 in
    subst (AreJoined (s ∷ ss)) (sym j.is) (record {
      ascending = sorted_from_order compare_sets sets_total None _ j.order;
      inhabited = j.inhabited;
      triples = j.triples;
    })

-- a series after no other
pub join_alone : (old rest made : List Parts) (part : Parts) (next : Series) → length old ≡ 0
    → length rest ≡ 0 → series_of part ≡ next → made ≡ rest ++ part ∷ []
    → map series_of made ≡ joined_to (map series_of old) next
unfolding joined_to
join_alone old rest made part next no_old no_rest same is =
    rw (is, nil_from_length rest no_rest, nil_from_length old no_old) (ap (λ s. s ∷ []) same)

-- a series after one with the same labels
pub join_same : (old rest made : List Parts) (last both : Parts) (next : Series)
    → old ≡ rest ++ last ∷ [] → has_same_labels (series_of last) next ≡ true
    → series_of both
    ≡ record { labels = last.labels; samples = all_of last.parts.items ++ next.samples }
    → made ≡ rest ++ both ∷ [] → map series_of made ≡ joined_to (map series_of old) next
unfolding joined
join_same old rest made last both next split same is_both is =
    rw (
      is,
      split,
      map-push series_of rest both,
      map-push series_of rest last,
      joined_to-last (map series_of rest) (series_of last) next,
      same,
    )
    (ap (λ s. map series_of rest ++ s ∷ []) is_both)

-- a series after one with other labels
pub join_apart : (old rest one made : List Parts) (last part : Parts) (next : Series)
    → old ≡ rest ++ last ∷ [] → has_same_labels (series_of last) next ≡ false
    → one ≡ rest ++ last ∷ [] → series_of part ≡ next → made ≡ one ++ part ∷ []
    → map series_of made ≡ joined_to (map series_of old) next
unfolding joined
join_apart old rest one made last part next split same is_one is_next is =
    rw (
      is,
      split,
      is_one,
      map-push series_of (rest ++ last ∷ []) part,
      map-push series_of rest last,
      joined_to-last (map series_of rest) (series_of last) next,
      same,
      append_assoc (map series_of rest) (series_of last ∷ []) (series_of part ∷ []),
    )
    (ap (λ s. map series_of rest ++ series_of last ∷ s ∷ []) is_next)

-- the samples with those of one more series
pub triples-push : (old new : List Series) (was : List Triple) (s : Series) → triples_of old ≡ was
    → new ≡ old ++ s ∷ [] → triples_of new ≡ was ++ triples_under s.labels s.samples
unfolding triples_of
triples-push old new was s is_was is =
    rw (is, flat_map-push (λ s. triples_under s.labels s.samples) old s, is_was) refl

-- a series without samples has no triples
pub triples-none : (was : List Triple) (labels : List Label) (samples : List Sample) → samples ≡ []
    → was ≡ was ++ triples_under labels samples
unfolding triples_under
triples-none was labels samples none = rw (none, append-nil was) refl
