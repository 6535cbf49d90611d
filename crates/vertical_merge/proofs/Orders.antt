-- The orders of label sets, of samples by time and of triples by their keys.
use Rattle.std.proofs.Common.{◌≡◌, true, List}
use Rattle.std.specs.declared.cmp.Ordering.TheVariants.{Equal}
use Rattle.std.specs.Cmp.{IsTotalOrder, IsStrictWeakOrder}
use Rattle.std.proofs.lemmas.Cmp.{nat_list_cmp_total, lists_total, then_total, on_total, int_cmp_total, tied_itself}
use Rattle.std.proofs.lemmas.List.Sorted.{ranks_by}
use Rattle.base.proofs.Bools.{Equal-from_then, Equal-from_is_eq}
use Rattle.base.proofs.Integers.{same-from_int_cmp}
use Rattle.label_sets.specs.declared.label.Label.{Label}
use Rattle.label_sets.specs.Labels.{compare_labels, compare_sets}
use Rattle.label_sets.specs.Triples.{Triple, compare_keys, has_same_key}
use Rattle.label_sets.proofs.LabelValues.{same_set}
use Rattle.vertical_merge.specs.Joined.{compare_times, has_lesser_labels, has_lesser_time}

pub labels_total : IsTotalOrder compare_labels
labels_total = then_total (on_total (λ l. l.name) nat_list_cmp_total) (on_total (λ l. l.value) nat_list_cmp_total)

pub sets_total : IsTotalOrder compare_sets
sets_total = lists_total labels_total

pub keys_total : IsTotalOrder compare_keys
keys_total = then_total (on_total (λ t. t.labels) sets_total) (on_total (λ t. t.time) int_cmp_total)

pub times_total : IsTotalOrder compare_times
times_total = on_total (λ s. s.time) int_cmp_total

pub labels_ranked : IsStrictWeakOrder has_lesser_labels
labels_ranked = ranks_by sets_total (λ s. s.labels)

pub times_ranked : IsStrictWeakOrder has_lesser_time
times_ranked = ranks_by int_cmp_total (λ s. s.time)

-- a composed order is equal where both parts are

pub set_itself : (labels : List Label) → compare_sets labels labels ≡ Equal
set_itself labels = tied_itself sets_total labels

-- triples with the same key have the same labels and the same time
pub same_key : (one other : Triple) → has_same_key one other ≡ true → (one.labels ≡ other.labels) × (one.time ≡ other.time)
same_key _ _ e =
    let parts = Equal-from_then _ _ (Equal-from_is_eq _ e) in
    (same_set _ _ parts.0, same-from_int_cmp _ _ parts.1)
