-- The merge of samples under one label set is one series.
use Rattle.std.proofs.Common.{◌≡◌, ◌≢◌, true, false, List, [], ◌∷◌, ◌++◌, map, refl, sym, ap, subst, ◌∙◌, arith, Less, Equal}
use Rattle.std.specs.Prelude.{Contains, Some}
use Rattle.std.specs.List.{find, list_any}
use Rattle.std.specs.List.Sorted.{IsStrictlySortedBy}
use Rattle.std.specs.Ordering.{int_cmp, ordering_then}
use Rattle.std.proofs.lemmas.Bool.{true≢false}
use Rattle.std.proofs.lemmas.List.{append-nil}
use Rattle.std.proofs.lemmas.List.Elements.{All-contains, All-contains_itself, Contains-append_left, Contains-append_right}
use Rattle.std.proofs.lemmas.Map.Keys.{sorted_head, sorted_tail}
use Rattle.base.proofs.Lists.{find_holds}
use Rattle.base.proofs.Order.{sorted_nil, sorted_cons}
use Rattle.base.proofs.Membership.{each_member, all_members, of_map, into_map, some_member}
use Rattle.label_sets.specs.declared.label.Label.{Label}
use Rattle.label_sets.specs.declared.sample.Sample.{Sample}
use Rattle.label_sets.specs.declared.series.Series.{Series}
use Rattle.label_sets.specs.Labels.{compare_sets}
use Rattle.label_sets.specs.Triples.{Triple, triples_of, triples_under, compare_keys, has_same_key}
use Rattle.vertical_merge.specs.Merged.{AreFirst, IsMerge}
use Rattle.vertical_merge.proofs.Orders.{set_itself}
use Rattle.vertical_merge.proofs.Merging.{triple_of}

pub under : (labels : List Label) (samples : List Sample) (t : Triple) → Contains (triples_under labels samples) t → t.labels ≡ labels
unfolding triples_under
under labels samples t among = let w = of_map (triple_of labels) samples t among in ap (λ (u : Triple). u.labels) (sym w.2)

pub of_under : (labels : List Label) (samples : List Sample) (t : Triple) → Contains (triples_under labels samples) t → (s : Sample) × Contains samples s × (s.time ≡ t.time)
unfolding triples_under
of_under labels samples t among = let w = of_map (triple_of labels) samples t among in (w.0, w.1, ap (λ (u : Triple). u.time) w.2)

pub into_under : (labels : List Label) (samples : List Sample) (s : Sample) → Contains samples s → Contains (triples_under labels samples) (triple_of labels s)
unfolding triples_under
into_under labels samples s among = into_map (triple_of labels) samples s among

pub taken : (list kept : List Triple) (t : Triple) → AreFirst list kept → Contains kept t → Contains list t
taken list kept t is among = find_holds (Contains list) (has_same_key t) list t (All-contains_itself list) (All-contains (λ u. find (has_same_key u) list ≡ Some u) kept t is.first among)

in_first : (k : Series) (ks : List Series) (s : Sample) → Contains k.samples s → Contains (triples_of (k ∷ ks)) (triple_of k.labels s)
unfolding triples_of
in_first k ks s among = Contains-append_left (triples_under k.labels k.samples) (triples_of ks) (triple_of k.labels s) (into_under k.labels k.samples s among)

in_second : (k l : Series) (ks : List Series) (s : Sample) → Contains l.samples s → Contains (triples_of (k ∷ l ∷ ks)) (triple_of l.labels s)
unfolding triples_of
in_second k l ks s among = Contains-append_right (triples_under k.labels k.samples) (triples_of (l ∷ ks)) (triple_of l.labels s) (in_first l ks s among)

pub first_labels : (labels : List Label) (samples : List Sample) (k : Series) (ks : List Series) → IsMerge (triples_under labels samples) (k ∷ ks) → k.labels ≡ labels
first_labels labels samples k ks is =
    let s = some_member k.samples (is.inhabited 0 k (omega arith)) in
    under labels samples (triple_of k.labels s.0) (taken (triples_under labels samples) (triples_of (k ∷ ks)) (triple_of k.labels s.0) is.first (in_first k ks s.0 s.1))

second_labels : (labels : List Label) (samples : List Sample) (k l : Series) (ks : List Series) → IsMerge (triples_under labels samples) (k ∷ l ∷ ks) → l.labels ≡ labels
second_labels labels samples k l ks is =
    let s = some_member l.samples (is.inhabited 1 l (omega arith)) in
    under labels samples (triple_of l.labels s.0) (taken (triples_under labels samples) (triples_of (k ∷ l ∷ ks)) (triple_of l.labels s.0) is.first (in_second k l ks s.0 s.1))

some_under : (labels : List Label) (samples : List Sample) → samples ≢ [] → (t : Triple) × Contains (triples_under labels samples) t
some_under labels samples some = let s = some_member samples some in (triple_of labels s.0, into_under labels samples s.0 s.1)

none_of : (t : Triple) → list_any (has_same_key t) (triples_of []) ≡ false
unfolding triples_of
none_of t = refl

pub one_merged : (labels : List Label) (samples : List Sample) (list : List Series) → samples ≢ [] → IsMerge (triples_under labels samples) list → (kept : Series) × (list ≡ kept ∷ [])
one_merged labels samples [] some is =
    let t = some_under labels samples some in
    absurd (true≢false (sym (All-contains (λ u. list_any (has_same_key u) (triples_of []) ≡ true) (triples_under labels samples) t.0 is.first.complete t.1) ∙ none_of t.0))
one_merged labels samples (k ∷ []) some is = (k, refl)
one_merged labels samples (k ∷ l ∷ ks) some is =
    let less : compare_sets k.labels l.labels ≡ Less = (sorted_head compare_sets k.labels (l.labels ∷ map (λ (s : Series). s.labels) ks) is.ascending).0 in
    let same : compare_sets k.labels l.labels ≡ Equal = ap (λ m. compare_sets m l.labels) (first_labels labels samples k (l ∷ ks) is) ∙ ap (compare_sets labels) (second_labels labels samples k l ks is) ∙ set_itself labels in
    absurd cc

pub one_told : (was begin : List Triple) (copied : List Label) (kept : List Sample) (labels : List Label) (samples : List Sample) (list : List Series) → begin ≡ [] → was ≡ begin ++ triples_under copied kept → copied ≡ labels → kept ≡ samples
    → samples ≢ [] → IsMerge was list → (one : Series) × (list ≡ one ∷ [])
one_told was begin copied kept labels samples list none is same all some merged =
    one_merged labels samples list some (subst (λ (l : List Triple). IsMerge l list)
    (is ∙ ap (λ (l : List Triple). l ++ triples_under copied kept) none ∙ ap (λ (l : List Label). triples_under l kept) same ∙ ap (triples_under labels) all) merged)

-- ---- the samples that are kept

pub one_triples : (kept : Series) → triples_of (kept ∷ []) ≡ triples_under kept.labels kept.samples
unfolding triples_of
one_triples kept = append-nil (triples_under kept.labels kept.samples)

less_under : (labels : List Label) (one other : Sample) → compare_keys (triple_of labels one) (triple_of labels other) ≡ Less → int_cmp one.time other.time ≡ Less
less_under labels one other e = sym (ap (λ o. ordering_then o (int_cmp one.time other.time)) (set_itself labels)) ∙ e

times_ascend : (labels : List Label) (samples : List Sample) → IsStrictlySortedBy compare_keys (triples_under labels samples) → IsStrictlySortedBy int_cmp (map (λ (s : Sample). s.time) samples)
unfolding triples_under
times_ascend labels [] up = sorted_nil int_cmp
times_ascend labels (s ∷ ss) up =
    sorted_cons int_cmp s.time (map (λ (x : Sample). x.time) ss)
    (all_members (λ t. int_cmp s.time t ≡ Less) (map (λ (x : Sample). x.time) ss) (λ t m. let w = of_map (λ (x : Sample). x.time) ss t m in
    subst (λ u. int_cmp s.time u ≡ Less) w.2 (less_under labels s w.0 (each_member (λ u. compare_keys (triple_of labels s) u ≡ Less) (triples_under labels ss) (triple_of labels w.0) (sorted_head compare_keys (triple_of labels s) (triples_under labels ss) up) (into_under labels ss w.0 w.1)))))
    (times_ascend labels ss (sorted_tail compare_keys (triple_of labels s) (triples_under labels ss) up))

pub kept_ascend : (labels : List Label) (samples : List Sample) (kept : Series) → IsMerge (triples_under labels samples) (kept ∷ []) → IsStrictlySortedBy int_cmp (map (λ (s : Sample). s.time) kept.samples)
kept_ascend labels samples kept is = times_ascend kept.labels kept.samples (subst (IsStrictlySortedBy compare_keys) (one_triples kept) is.first.ascending)

-- each that is kept stands at the time of one that was given
pub kept_given : (labels : List Label) (samples : List Sample) (kept : Series) (s : Sample) → IsMerge (triples_under labels samples) (kept ∷ []) → Contains kept.samples s → (g : Sample) × Contains samples g × (g.time ≡ s.time)
kept_given labels samples kept s is among = of_under labels samples (triple_of kept.labels s) (taken (triples_under labels samples) (triples_of (kept ∷ [])) (triple_of kept.labels s) is.first (in_first kept [] s among))
