-- The entries of series: which there are, that no two are the same, and that in order they strictly ascend.
use Rattle.std.proofs.Common.{◌≡◌, ◌≢◌, ℕ, ◌<◌, List, [], ◌∷◌, ◌++◌, map, zip, refl, sym, ap, ◌∙◌, subst, arith, inl, inr}
use Rattle.std.specs.declared.cmp.Ordering.TheVariants.{Less, Equal}
use Rattle.std.specs.Ordering.{nat_cmp, ordering_then}
use Rattle.std.specs.List.{AllByRecursion, Contains, AllPairs, flat_map}
use Rattle.std.specs.List.Sorted.{IsStrictlySortedBy}
use Rattle.std.proofs.lemmas.Map.Keys.{IsDistinct-from_apart, Less-from_sorted}
use Rattle.label_sets.specs.declared.label.Label.{Label}
use Rattle.label_sets.specs.Labels.{compare_texts, IsLabelSet, StandsBefore}
use Rattle.label_sets.specs.Ordered.{in_order}
use Rattle.index_parts.specs.declared.index_series.IndexSeries.{IndexSeries}
use Rattle.index_writing.specs.declared.label_groups.Entry.{Entry}
use Rattle.index_writing.specs.SymbolsInUse.{symbols_of, number_of, raw_of}
use Rattle.index_writing.specs.LabelGroups.{entries_of, all_entries, compare_entries, is_lesser_entry}
use Rattle.base.proofs.Membership.{contains_first, contains_later, each_member, of_map, into_map, of_flat_map, into_flat_map}
use Rattle.base.proofs.Pairs.{first_in_zip}
use Rattle.base.proofs.Order.{sorted_in_order}
use Rattle.base.proofs.Bools.{by_bool, Equal-from_is_eq, Equal-from_then, lt-from_Less, same-from_Equal, Less-from_then}
use Rattle.index_writing.proofs.OrderedEntries.{Below, no_pairs, pairs_cons, first_pairs, later_pairs, pairs_append}
use Rattle.index_writing.proofs.LabelRows.{Before}
use Rattle.index_writing.proofs.SortedTexts.{symbols_strict}
use Rattle.index_writing.proofs.SymbolNumbers.{label_in, number_less}
use Rattle.index_writing.proofs.Entries.{labels_with, entries_total}

-- ---- their order as a relation

before_from : (x y : Entry) → compare_entries x y ≡ Less → Before x y
before_from x y e =
    let inner = ordering_then (nat_cmp x.value y.value) (nat_cmp x.series y.series) in
    elim (Less-from_then _ _ e) [
      | inl l ↦ record { is = inl (inl (lt-from_Less _ _ l)) }
      | inr r ↦ elim (Less-from_then _ _ r.1) [
        | inl l ↦ record { is = inl (inr (same-from_Equal _ _ r.0, lt-from_Less _ _ l)) }
        | inr s ↦ record { is = inr (same-from_Equal _ _ r.0, same-from_Equal _ _ s.0, lt-from_Less _ _ s.1) }
      ]
    ]

same_entry : (x y : Entry) → compare_entries x y ≡ Equal → x ≡ y
same_entry x y e =
    let one = Equal-from_then _ _ e in
    let two = Equal-from_then _ _ one.1 in
    let name = same-from_Equal _ _ one.0 in
    let value = same-from_Equal _ _ two.0 in
    let series = same-from_Equal _ _ two.1 in
    λ i. record { name = name i; value = value i; series = series i }

abbrev Differ : Entry → Entry → Type 0
Differ x y = x ≢ y

-- different entries in order strictly ascend
pub before_all : (entries : List Entry) → AllPairs Differ entries → AllPairs Before (in_order is_lesser_entry entries)
before_all entries apart i j d below within =
    let differ = IsDistinct-from_apart _ entries (λ k m e lt into. by_bool _ (λ t. absurd (apart k m e lt into (same_entry _ _ (Equal-from_is_eq _ t)))) (λ f. f)) in
    before_from _ _ (Less-from_sorted compare_entries _ i j d (sorted_in_order compare_entries entries_total entries differ) below within)

-- ---- which entries there are

abbrev entry_of : List (List ℕ) → ℕ → Label → Entry
entry_of symbols n l = record { name = number_of symbols l.name; value = number_of symbols l.value; series = n }

abbrev entries_in : List (List ℕ) → ℕ × IndexSeries → List Entry
entries_in symbols one = map (entry_of symbols one.0) one.1.labels

label_entries : (symbols : List (List ℕ)) (n : ℕ) (labels : List Label) → labels_with n (map (λ l. number_of symbols l.name) labels) (map (λ l. number_of symbols l.value) labels) ≡ map (entry_of symbols n) labels
label_entries _ n [] = refl
label_entries symbols n (l ∷ labels) = ap (λ es. entry_of symbols n l ∷ es) (label_entries symbols n labels)

entries_are : (symbols : List (List ℕ)) (list : List IndexSeries) (numbers : List ℕ) → all_entries (map (raw_of symbols) list) numbers ≡ flat_map (entries_in symbols) (zip numbers list)
unfolding all_entries entries_of raw_of
entries_are _ [] [] = refl
entries_are _ [] (n ∷ numbers) = refl
entries_are _ (s ∷ list) [] = refl
entries_are symbols (s ∷ list) (n ∷ numbers) =
    ap (λ es. es ++ all_entries (map (raw_of symbols) list) numbers) (label_entries symbols n s.labels) ∙ ap (λ es. map (entry_of symbols n) s.labels ++ es) (entries_are symbols list numbers)

pub entry_from : (symbols : List (List ℕ)) (list : List IndexSeries) (numbers : List ℕ) (e : Entry) → Contains (all_entries (map (raw_of symbols) list) numbers) e → (s : IndexSeries) × Contains (zip numbers list) (e.series, s) × (l : Label) × Contains s.labels l × (e.name ≡ number_of symbols l.name) × (e.value ≡ number_of symbols l.value)
entry_from symbols list numbers e h =
    let one = of_flat_map _ _ e (subst (λ es. Contains es e) (entries_are symbols list numbers) h) in
    let label = of_map _ _ e one.2 in
    (one.0.1, subst (λ n. Contains (zip numbers list) (n, one.0.1)) (ap (λ x. x.series) label.2) one.1, label.0, label.1, ap (λ x. x.name) (sym label.2), ap (λ x. x.value) (sym label.2))

pub entry_to : (symbols : List (List ℕ)) (list : List IndexSeries) (numbers : List ℕ) (n : ℕ) (s : IndexSeries) (l : Label) → Contains (zip numbers list) (n, s) → Contains s.labels l → Contains (all_entries (map (raw_of symbols) list) numbers) (entry_of symbols n l)
entry_to symbols list numbers n s l h i =
    subst (λ es. Contains es (entry_of symbols n l)) (sym (entries_are symbols list numbers)) (into_flat_map (entries_in symbols) _ (n, s) _ h (into_map _ _ l i))

-- ---- no two are the same

module _ (symbols : List (List ℕ)) (up : IsStrictlySortedBy compare_texts symbols) where
  apart_first : (n : ℕ) (l : Label) (labels : List Label) → Contains symbols l.name → StandsBefore l.name labels → AllByRecursion (λ e. entry_of symbols n l ≢ e) (map (entry_of symbols n) labels)
  apart_first n l [] h before = tt
  apart_first n l (m ∷ labels) h before =
      ((λ e. let less = number_less symbols l.name m.name up h before.0 in let same = ap (λ x. x.name) e in omega arith), apart_first n l labels h before.1)

  apart_labels : (n : ℕ) (labels : List Label) → ((l : Label) → Contains labels l → Contains symbols l.name) → IsLabelSet labels → AllPairs Differ (map (entry_of symbols n) labels)
  apart_labels n [] known lawful = no_pairs Differ
  apart_labels n (l ∷ labels) known lawful =
      pairs_cons Differ (entry_of symbols n l) _ (apart_first n l _ (known l (contains_first l _)) lawful.2) (apart_labels n labels (λ m h. known m (contains_later l m _ h)) lawful.3)

  apart_all : (list : List IndexSeries) (numbers : List ℕ) → ((s : IndexSeries) (l : Label) → Contains list s → Contains s.labels l → Contains symbols l.name) → AllByRecursion (λ one. IsLabelSet one.labels) list → AllPairs Below numbers → AllPairs Differ (flat_map (entries_in symbols) (zip numbers list))
  apart_all _ [] known lawful rise = no_pairs Differ
  apart_all [] (n ∷ numbers) known lawful rise = no_pairs Differ
  apart_all (s ∷ list) (n ∷ numbers) known lawful rise =
      pairs_append Differ (entries_in symbols (n, s)) _ (apart_labels n _ (λ l h. known s l (contains_first s _) h) lawful.0) (apart_all list numbers (λ t l h i. known t l (contains_later s t _ h) i) lawful.1 (later_pairs Below n _ rise))
      (λ x y h i e.
      let here = of_map _ _ x h in
      let other = of_flat_map (entries_in symbols) _ y i in
      let there = of_map _ _ y other.2 in
      let less : n < other.0.0 = each_member _ _ _ (first_pairs Below n numbers rise) (first_in_zip numbers list _ _ other.1) in
      let same = ap (λ z. z.series) (here.2 ∙ e ∙ sym there.2) in
      omega arith)

pub apart_entries : (list : List IndexSeries) (numbers : List ℕ) → AllByRecursion (λ one. IsLabelSet one.labels) list → AllPairs Below numbers → AllPairs Differ (all_entries (map (raw_of (symbols_of list)) list) numbers)
apart_entries list numbers lawful rise =
    subst (AllPairs Differ) (sym (entries_are _ list numbers)) (apart_all _ (symbols_strict list) list numbers (λ s l h i. (label_in list s l h i).0) lawful rise)
