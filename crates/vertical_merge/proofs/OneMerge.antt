-- There is one merge of a list of samples.
use Rattle.base.proofs.Membership.{member_of_any}
use Rattle.base.proofs.SameMembers.{same_members}
use Rattle.std.proofs.Common.{◌≡◌, ◌≢◌, Bool, true, List, [], ◌∷◌, ◌++◌, map, Contains, Some, refl, sym, ap, ap₂, subst, ◌∙◌}
use Rattle.std.specs.Prelude.{All}
use Rattle.std.specs.List.{AllByRecursion, find, list_any}
use Rattle.std.specs.List.Sorted.{IsStrictlySortedBy}
use Rattle.std.specs.Ordering.{int_cmp, is_eq, ordering_then}
use Rattle.std.specs.declared.cmp.Ordering.TheVariants.{Less}
use Rattle.std.proofs.lemmas.List.Elements.{All-contains, All-head, All-tail}
use Rattle.label_sets.specs.Labels.{compare_sets}
use Rattle.label_sets.specs.Triples.{Triple, has_same_key, triples_of, triples_under}
use Rattle.label_sets.specs.declared.label.Label.{Label}
use Rattle.label_sets.specs.declared.sample.Sample.{Sample}
use Rattle.label_sets.specs.declared.series.Series.{Series}
use Rattle.vertical_merge.specs.Merged.{AreFirst, IsMerge}
use Rattle.vertical_merge.proofs.Joining.{labels_of}
use Rattle.vertical_merge.proofs.Laws.{found_contains}
use Rattle.vertical_merge.proofs.Orders.{keys_total, same_key, set_itself}

-- ---- the triples that are kept

abbrev IsFirst : List Triple → Triple → Type 0
IsFirst list t = find (has_same_key t) list ≡ Some t

like : (one other : Triple) → (one.labels ≡ other.labels) × (one.time ≡ other.time) → has_same_key one ≡ has_same_key other
like _ _ (labels, times) = ap₂ (λ l m. λ x. is_eq (ordering_then (compare_sets l x.labels) (int_cmp m x.time))) labels times

kept_in : (list kept other : List Triple) → AreFirst list kept → AreFirst list other → (t : Triple) → Contains kept t → Contains other t
kept_in list kept other p q t among =
    let first = All-contains (IsFirst list) _ t p.first among in
    let u = member_of_any _ other (All-contains (λ x. list_any (has_same_key x) other ≡ true) _ t q.complete (found_contains _ _ t first)) in
    let also = All-contains (IsFirst list) _ _ q.first u.1 in
    let tests = ap (λ (p : Triple → Bool). find p list) (like t u.0 (same_key t u.0 u.2)) in
    let same : t ≡ u.0 = cc (first, also, tests) in
    subst (Contains other) (sym same) u.1

pub one_kept : (list kept other : List Triple) → AreFirst list kept → AreFirst list other → kept ≡ other
one_kept list kept other p q = same_members keys_total kept other p.ascending q.ascending (kept_in _ _ _ p q) (kept_in _ _ _ q p)

-- ---- the series that hold them

abbrev Others : List Label → List Triple → Type 0
Others labels triples = AllByRecursion (λ t. t.labels ≢ labels) triples

others_both : (labels : List Label) (one other : List Triple) → Others labels one → Others labels other → Others labels (one ++ other)
others_both _ [] _ first later = later
others_both labels (t ∷ one) _ first later = (first.0, others_both labels one _ first.1 later)

others_under : (labels own : List Label) (samples : List Sample) → own ≢ labels → Others labels (triples_under own samples)
unfolding triples_under
others_under _ _ [] differ = tt
others_under labels own (s ∷ samples) differ = (differ, others_under labels own samples differ)

-- series whose labels are greater
abbrev AreAbove : List Label → List Series → Type 0
AreAbove labels series = AllByRecursion (λ s. compare_sets labels s.labels ≡ Less) series

not_same : (labels own : List Label) → compare_sets labels own ≡ Less → own ≢ labels
not_same labels _ less same =
    let itself = subst (λ l. compare_sets labels l ≡ Less) same less in
    cc (itself, set_itself labels)

others_above : (labels : List Label) (series : List Series) → AreAbove labels series → Others labels (triples_of series)
unfolding triples_of
others_above _ [] above = tt
others_above labels (s ∷ series) above =
    others_both _ _ _ (others_under _ _ _ (not_same _ s.labels above.0)) (others_above labels series above.1)

above_all : (labels : List Label) (series : List Series) → AllByRecursion (λ l. compare_sets labels l ≡ Less) (map (λ (s : Series). s.labels) series) → AreAbove labels series
above_all _ [] all = tt
above_all labels (s ∷ series) all = (all.0, above_all labels series all.1)

same_sample : (s t : Sample) (labels : List Label) → ◌≡◌ {A = Triple} (record { labels = labels; time = s.time; pattern = s.pattern }) (record { labels = labels; time = t.time; pattern = t.pattern }) → s ≡ t
same_sample s t _ is =
    let times = ap (λ x. x.time) is in
    let patterns = ap (λ x. x.pattern) is in
    λ i. record { time = times i; pattern = patterns i }

cut : (labels : List Label) (ss ts : List Sample) (one other : List Triple) → Others labels one → Others labels other → triples_under labels ss ++ one ≡ triples_under labels ts ++ other → (ss ≡ ts) × (one ≡ other)
unfolding triples_under
cut _ [] [] _ _ a b is = (refl, is)
cut labels [] (t ∷ ts) _ _ a b is = absurd ((subst (Others labels) is a).0 refl)
cut labels (s ∷ ss) [] _ _ a b is = absurd ((subst (Others labels) (sym is) b).0 refl)
cut labels (s ∷ ss) (t ∷ ts) one other a b is =
    let rest = cut _ _ _ _ _ a b (cc (is)) in
    let first : s ≡ t = same_sample s t labels (cc (is)) in
    (λ i. first i ∷ rest.0 i, rest.1)

first_labels : (own labels : List Label) (ss ts : List Sample) (one other : List Triple) → ss ≢ [] → ts ≢ [] → triples_under own ss ++ one ≡ triples_under labels ts ++ other → own ≡ labels
unfolding triples_under
first_labels _ _ [] _ _ _ some more is = absurd (some refl)
first_labels _ _ (s ∷ ss) [] _ _ some more is = absurd (more refl)
first_labels own labels (s ∷ ss) (t ∷ ts) _ _ some more is =
    let first : ◌≡◌ {A = Triple} (record { labels = own; time = s.time; pattern = s.pattern }) (record { labels = labels; time = t.time; pattern = t.pattern }) = cc (is) in
    ap (λ x. x.labels) first

not_none : (labels : List Label) (ss : List Sample) (more : List Triple) → ss ≢ [] → triples_under labels ss ++ more ≡ [] → ⊥
unfolding triples_under
not_none _ [] _ some is = some refl
not_none _ (s ∷ ss) _ some is = cc (is)

abbrev HasSamples : Series → Type 0
HasSamples s = s.samples ≢ []

one_series : (xs ys : List Series) → IsStrictlySortedBy compare_sets (labels_of xs) → IsStrictlySortedBy compare_sets (labels_of ys) → All HasSamples xs → All HasSamples ys → triples_of xs ≡ triples_of ys → xs ≡ ys
unfolding triples_of IsStrictlySortedBy
one_series [] [] up rise some more is = refl
one_series [] (y ∷ ys) up rise some more is = absurd (not_none _ _ _ (All-head HasSamples y _ more) (sym is))
one_series (x ∷ xs) [] up rise some more is = absurd (not_none _ _ _ (All-head HasSamples x _ some) is)
one_series (x ∷ xs) (y ∷ ys) up rise some more is =
    let labels = first_labels _ _ _ _ _ _ (All-head HasSamples x _ some) (All-head HasSamples y _ more) is in
    let under = is ∙ ap (λ l. triples_under l y.samples ++ triples_of ys) (sym labels) in
    let both = cut _ _ _ _ _ (others_above _ _ (above_all _ _ up.0))
    (others_above _ _ (subst (λ l. AreAbove l ys) (sym labels) (above_all _ _ rise.0))) under in
    let rest = one_series _ _ up.1 rise.1 (All-tail HasSamples x _ some) (All-tail HasSamples y _ more) both.1 in
    let first : x ≡ y = λ i. record { labels = labels i; samples = both.0 i } in
    λ i. first i ∷ rest i

pub one_merge : (taken : List Triple) (series other : List Series) → IsMerge taken series → IsMerge taken other → series ≡ other
one_merge _ _ _ is so =
    one_series _ _ is.ascending so.ascending is.inhabited so.inhabited (one_kept _ _ _ is.first so.first)
