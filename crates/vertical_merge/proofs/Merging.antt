-- Series that were put in order, joined and cut down to the first pattern at each time are the
-- merge.
use Rattle.std.proofs.Common.{◌≡◌, ◌≢◌, List, [], ◌∷◌, map, refl, sym, ap, ◌∙◌, subst}
use Rattle.std.specs.Prelude.{fold, All, None}
use Rattle.std.specs.Option.{option_map}
use Rattle.std.specs.declared.cmp.Ordering.TheVariants.{Less, Equal}
use Rattle.std.specs.Ordering.{is_eq, ordering_then, int_cmp}
use Rattle.std.specs.List.{AllByRecursion, filter, find}
use Rattle.std.specs.List.Sorted.{IsStrictlySortedBy, IsSortedBy, IsStableBy, ties}
use Rattle.std.proofs.lemmas.Cmp.{int_cmp_total, tied_back, tied_itself}
use Rattle.std.proofs.lemmas.List.Elements.{recursion_from_All, All-from_recursion}
use Rattle.std.proofs.lemmas.List.Folds.{find-append}
use Rattle.std.proofs.lemmas.Simd.{map-map}
use Rattle.label_sets.specs.declared.label.Label.{Label}
use Rattle.label_sets.specs.declared.sample.Sample.{Sample}
use Rattle.label_sets.specs.declared.series.Series.{Series}
use Rattle.label_sets.specs.Labels.{compare_sets}
use Rattle.label_sets.specs.Triples.{Triple, triples_of, triples_under, has_same_key, compare_keys}
use Rattle.base.proofs.Bools.{by_bool, Equal-from_then, Equal-from_is_eq}
use Rattle.base.proofs.Lists.{AllByRecursion-append, AllByRecursion-map, find-map}
use Rattle.base.proofs.Membership.{each_member, all_members, of_map}
use Rattle.base.proofs.Order.{sorted_append, sorted_map}
use Rattle.base.proofs.StableSorts.{Rises-from_sorted}
use Rattle.base.specs.Lists.{joined as all_of}
use Rattle.vertical_merge.specs.declared.sample_merge.Parts.{Parts}
use Rattle.vertical_merge.specs.Joined.{has_lesser_labels, joined_to, compare_times, series_of, first_samples}
use Rattle.vertical_merge.specs.Merged.{IsMerge}
use Rattle.vertical_merge.proofs.Firsts.{IsOfClass, own_class, find-firsts, ascending-firsts}
use Rattle.vertical_merge.proofs.Joining.{labels_of, HasSamples, are_joined}
use Rattle.vertical_merge.proofs.Laws.{are_first}
use Rattle.vertical_merge.proofs.Orders.{sets_total, times_total, labels_ranked, set_itself}

abbrev pub triple_of : List Label → Sample → Triple
triple_of labels s = record { labels = labels; time = s.time; pattern = s.pattern }

-- the first samples of each
abbrev pub firsts : Series → Series
firsts s = record { labels = s.labels; samples = first_samples s.samples }

-- ---- what is found at a key

-- under one label set the samples at a key are those at one time
at_key : (key : Triple) (labels : List Label)
    → IsOfClass times_total (λ s. has_same_key key (triple_of labels s))
at_key key labels x y e =
    let both = Equal-from_then (compare_sets key.labels labels) (int_cmp key.time x.time)
    (Equal-from_is_eq _ e) in
    rw both.0 (ap is_eq (int_cmp_total.congr key.time x.time y.time both.1))

find-under : (key : Triple) (labels : List Label) (samples : List Sample)
    → find (has_same_key key) (triples_under labels (first_samples samples))
    ≡ find (has_same_key key) (triples_under labels samples)
unfolding triples_under first_samples
find-under key labels samples = find-map (has_same_key key) (triple_of labels) _
    ∙ ap (option_map (triple_of labels)) (find-firsts times_total _ (at_key key labels) samples)
    ∙ sym (find-map (has_same_key key) (triple_of labels) samples)

find-firsts_of : (key : Triple) (series : List Series)
    → find (has_same_key key) (triples_of (map firsts series))
    ≡ find (has_same_key key) (triples_of series)
unfolding triples_of
find-firsts_of key [] = refl
find-firsts_of key (s ∷ ss) =
    find-append (has_same_key key) (triples_under s.labels (first_samples s.samples)) _
    ∙ rw (find-under key s.labels s.samples, find-firsts_of key ss)
    (sym (find-append (has_same_key key) (triples_under s.labels s.samples) _))

find_none : (key : Triple) (labels : List Label) (samples : List Sample)
    → (compare_sets key.labels labels ≡ Equal → ⊥)
    → find (has_same_key key) (triples_under labels samples) ≡ None
unfolding triples_under
find_none key labels [] apart = refl
find_none key labels (s ∷ ss) apart = by_bool (has_same_key key (triple_of labels s))
    (λ e. absurd (apart (Equal-from_then _ _ (Equal-from_is_eq _ e)).0))
    (λ f. rw f (find_none key labels ss apart))

-- the labels of a key as those of a series
abbrev under_key : Triple → Series
under_key key = record { labels = key.labels; samples = [] }

-- what is found at a key is found in the series that have its labels
find-tied : (key : Triple) (series : List Series)
    → find (has_same_key key) (triples_of series)
    ≡ find (has_same_key key) (triples_of (filter (ties has_lesser_labels (under_key key)) series))
unfolding triples_of
find-tied key [] = refl
find-tied key (s ∷ ss) = find-append (has_same_key key) (triples_under s.labels s.samples) _
    ∙ by_bool (ties has_lesser_labels (under_key key) s)
    (λ t. rw (t, find-tied key ss)
    (sym (find-append (has_same_key key) (triples_under s.labels s.samples) _)))
    (λ f. let none = find_none key s.labels s.samples
    (λ e. cc (rw (e, tied_back sets_total _ _ e) at f)) in
    rw (f, none) (find-tied key ss))

-- ---- the order of keys

all_after : (labels : List Label) (series : List Series)
    → AllByRecursion (λ l. compare_sets labels l ≡ Less) (labels_of series)
    → AllByRecursion (λ (t : Triple). compare_sets labels t.labels ≡ Less)
    (triples_of (map firsts series))
unfolding triples_of triples_under
all_after labels [] all = tt
all_after labels (s ∷ ss) all = AllByRecursion-append _ _ _
    (AllByRecursion-map (λ _. compare_sets labels s.labels ≡ Less) _ (triple_of s.labels)
    (λ _ l. l) _ (all_members _ _ (λ _ _. all.0)))
    (all_after labels ss all.1)

keys_ascend : (series : List Series) → IsStrictlySortedBy compare_sets (labels_of series)
    → IsStrictlySortedBy compare_keys (triples_of (map firsts series))
unfolding triples_of triples_under first_samples IsStrictlySortedBy
keys_ascend [] up = tt
keys_ascend (s ∷ ss) up = sorted_append compare_keys _ _
    (sorted_map compare_times compare_keys (triple_of s.labels)
    (λ x y l. rw (set_itself s.labels) l) _ (ascending-firsts times_total s.samples))
    (keys_ascend ss up.1)
    (λ x y front back. let m = of_map (triple_of s.labels) _ x front in
    subst (λ t. compare_keys t y ≡ Less) m.2
    (ap (λ o. ordering_then o (int_cmp m.0.time y.time))
    (each_member _ _ y (all_after s.labels ss up.0) back)))

-- ---- the whole merge

some_first : (xs : List Sample) → xs ≢ [] → first_samples xs ≢ []
unfolding first_samples
some_first [] some e = some refl
some_first (x ∷ xs) some e =
    let found = find-firsts times_total _ (own_class times_total x) (x ∷ xs) in
    cc (rw (e, tied_itself times_total x) at found)

-- the same of series in parts
abbrev pub firsts_of : Parts → Series
firsts_of one = record { labels = one.labels; samples = first_samples (all_of one.parts.items) }

pub merged : (made added sorted : List Series) (parts : List Parts)
    → IsSortedBy has_lesser_labels sorted → IsStableBy has_lesser_labels added sorted
    → All HasSamples sorted → map series_of parts ≡ fold joined_to [] sorted
    → made ≡ map firsts_of parts → IsMerge (triples_of added) made
merged made added sorted parts up stable all is_united is_made =
    let united = fold joined_to [] sorted in
    let j = are_joined sorted (Rises-from_sorted has_lesser_labels labels_ranked sorted up)
    (recursion_from_All HasSamples sorted all) in
    let is = is_made ∙ sym (map-map firsts series_of parts) ∙ ap (map firsts) is_united in
    subst (IsMerge (triples_of added)) (sym is) (record {
      ascending = subst (IsStrictlySortedBy compare_sets)
          (sym (map-map (λ s. s.labels) firsts united)) j.ascending;
      inhabited = All-from_recursion HasSamples _
          (AllByRecursion-map HasSamples _ firsts (λ s. some_first s.samples) _ j.inhabited);
      first = are_first (triples_of added) _ (keys_ascend united j.ascending)
          (λ key. find-firsts_of key united ∙ ap (find (has_same_key key)) j.triples
          ∙ find-tied key sorted
          ∙ ap (λ l. find (has_same_key key) (triples_of l)) (stable (under_key key))
          ∙ sym (find-tied key added));
    })
