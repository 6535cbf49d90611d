-- The labels of series as entries, and their order.
use Rattle.std.proofs.Common.{◌≡◌, ℕ, List, [], ◌∷◌, ◌++◌, map, zip, refl, sym, ap, ◌∙◌}
use Rattle.std.specs.Cmp.{IsTotalOrder, IsStrictWeakOrder}
use Rattle.std.specs.List.Sorted.{IsSorted, IsStable}
use Rattle.std.proofs.lemmas.List.Sorted.{ranks_by}
use Rattle.std.proofs.lemmas.Cmp.{then_total, on_total, nat_cmp_total}
use Rattle.label_sets.specs.Ordered.{in_order}
use Rattle.label_sets.proofs.StableSorts.{in_order-from_sort}
use Rattle.index_parts.specs.declared.raw_series.RawSeries.{RawSeries}
use Rattle.index_writing.specs.declared.label_groups.Entry.{Entry}
use Rattle.index_writing.specs.LabelGroups.{entries_of, all_entries, compare_entries, is_lesser_entry}

abbrev pub labels_with : ℕ → List ℕ → List ℕ → List Entry
labels_with series names values = map (λ label. record { name = label.0; value = label.1; series = series }) (zip names values)

abbrev pub entry_with : ℕ → ℕ → ℕ → List Entry
entry_with series name value = record { name = name; value = value; series = series } ∷ []

pub labels_law : (series name value : ℕ) (names values : List ℕ) → labels_with series (name ∷ names) (value ∷ values) ≡ entry_with series name value ++ labels_with series names values
labels_law _ _ _ _ _ = refl

pub no_labels : (series : ℕ) (values : List ℕ) → labels_with series [] values ≡ []
no_labels _ _ = refl

pub no_values : (series : ℕ) (names : List ℕ) → labels_with series names [] ≡ []
no_values _ [] = refl
no_values _ (name ∷ names) = refl

pub all_law : (one : RawSeries) (number : ℕ) (series : List RawSeries) (numbers : List ℕ) → all_entries (one ∷ series) (number ∷ numbers) ≡ entries_of one number ++ all_entries series numbers
unfolding all_entries
all_law _ _ _ _ = refl

pub none_law : (numbers : List ℕ) → all_entries [] numbers ≡ []
unfolding all_entries
none_law _ = refl

pub no_numbers : (series : List RawSeries) → all_entries series [] ≡ []
unfolding all_entries
no_numbers [] = refl
no_numbers (one ∷ series) = refl

pub entry_is : (one : RawSeries) (number : ℕ) → entries_of one number ≡ labels_with number one.names one.values
unfolding entries_of
entry_is _ _ = refl

pub entries_added : (one : RawSeries) (number : ℕ) (names values : List ℕ) (old new : List Entry) → names ≡ one.names → values ≡ one.values → new ≡ old ++ labels_with number names values → new ≡ old ++ entries_of one number
entries_added one number names values old _ names_are values_are is =
    is ∙ ap (λ l. old ++ labels_with number l values) names_are ∙ ap (λ l. old ++ labels_with number one.names l) values_are ∙ ap (λ l. old ++ l) (sym (entry_is _ _))

-- ---- their order

pub entries_total : IsTotalOrder compare_entries
entries_total = then_total (on_total (λ e. e.name) nat_cmp_total) (then_total (on_total (λ e. e.value) nat_cmp_total) (on_total (λ e. e.series) nat_cmp_total))

pub entries_order : IsStrictWeakOrder is_lesser_entry
entries_order = ranks_by entries_total (λ e. e)

pub entries_sorted : (xs ys : List Entry) → IsSorted compare_entries ys → IsStable compare_entries xs ys → ys ≡ in_order is_lesser_entry xs
entries_sorted xs ys sorted stable = in_order-from_sort is_lesser_entry entries_order xs ys sorted stable
