-- The orders of keys and of members, and the labels of a key.
use Rattle.std.proofs.Common.{◌≡◌, ℕ, Bool, true, false, ◌&&◌, not, List, [], refl, sym, ap, ◌∙◌}
use Rattle.std.specs.declared.cmp.Ordering.{Ordering}
use Rattle.std.specs.declared.cmp.Ordering.TheVariants.{Less, Equal, Greater}
use Rattle.std.specs.Ordering.{int_cmp, int_eq, ordering_reverse, is_eq, is_lt}
use Rattle.std.specs.Cmp.{IsTotalOrder, IsStrictWeakOrder}
use Rattle.std.proofs.lemmas.Bool.{true≢false, and_parts}
use Rattle.std.proofs.lemmas.Bool.Decides.{Decides-int_eq}
use Rattle.std.proofs.lemmas.Cmp.{nat_list_cmp_total, nat_cmp_total, lists_total, then_total, on_total, int_cmp_total, tied_itself}
use Rattle.std.proofs.lemmas.List.Sorted.{ranks_by}
use Rattle.base.proofs.Bools.{Equal-from_then, Equal-from_is_eq}
use Rattle.base.proofs.Integers.{same-from_int_cmp}
use Rattle.label_sets.specs.declared.label.Label.{Label}
use Rattle.label_sets.specs.Labels.{compare_labels, compare_sets}
use Rattle.label_sets.specs.Finals.{without, reduced_of}
use Rattle.label_sets.proofs.LabelValues.{same_set}
use Rattle.label_sets.proofs.FinalLabels.{without_nothing}
use Rattle.block_meta.specs.declared.meta.Meta.{Meta}
use Rattle.group_planner.specs.Groups.{Key, compare_keys, compare_members, comes_before}
use Rattle.group_planner.specs.Cuts.{key_of_keyed, has_lesser_key}

-- ---- orders

labels_total : IsTotalOrder compare_labels
labels_total = then_total (on_total (λ (l : Label). l.name) nat_list_cmp_total) (on_total (λ (l : Label). l.value) nat_list_cmp_total)

pub keys_total : IsTotalOrder compare_keys
keys_total = then_total (on_total (λ (k : Key). k.resolution) int_cmp_total) (on_total (λ (k : Key). k.labels) (lists_total labels_total))

members_total : IsTotalOrder compare_members
members_total = then_total (on_total (λ (m : Meta). m.min_time) int_cmp_total) (on_total (λ (m : Meta). m.ulid) nat_cmp_total)

pub keyed_ranked : IsStrictWeakOrder has_lesser_key
keyed_ranked = ranks_by keys_total key_of_keyed

pub members_ranked : IsStrictWeakOrder comes_before
members_ranked = ranks_by members_total (λ (m : Meta). m)

-- ---- what is equal

pub key_itself : (key : Key) → compare_keys key key ≡ Equal
key_itself key = tied_itself keys_total key

-- keys whose resolutions and labels are tested to be equal
pub same_key : (one other : Key) → (int_eq one.resolution other.resolution && is_eq (compare_sets one.labels other.labels)) ≡ true → one ≡ other
same_key one other e =
    let parts = and_parts (int_eq one.resolution other.resolution) (is_eq (compare_sets one.labels other.labels)) e in
    let resolution : one.resolution ≡ other.resolution = (Decides-int_eq one.resolution other.resolution).0 parts.0 in
    let labels : one.labels ≡ other.labels = same_set one.labels other.labels (Equal-from_is_eq (compare_sets one.labels other.labels) parts.1) in
    λ i. record { resolution = resolution i; labels = labels i }

both_hold : (a b : Bool) → a ≡ true → b ≡ true → (a && b) ≡ false → ⊥
both_hold a b e f g = true≢false (sym (ap (λ x. x && b) e ∙ f) ∙ g)

less_from : (a b : Ordering) → b ≡ ordering_reverse a → is_lt b ≡ false → (a ≡ Equal → ⊥) → a ≡ Less
less_from Less b e f g = refl
less_from Equal b e f g = absurd (g refl)
less_from Greater b e f g = absurd (let h : true ≡ false = sym (ap is_lt e) ∙ f in true≢false h)

-- keys that are tested not to be equal, and of which the second is not the lesser one
pub next_key : (one other : Key) → (int_eq one.resolution other.resolution && is_eq (compare_sets one.labels other.labels)) ≡ false → is_lt (compare_keys other one) ≡ false
    → compare_keys one other ≡ Less
next_key one other apart after = less_from (compare_keys one other) (compare_keys other one) (keys_total.antisymm other one) after (λ e.
    let parts = Equal-from_then (int_cmp one.resolution other.resolution) (compare_sets one.labels other.labels) e in
    both_hold (int_eq one.resolution other.resolution) (is_eq (compare_sets one.labels other.labels))
    ((Decides-int_eq one.resolution other.resolution).1 (same-from_int_cmp one.resolution other.resolution parts.0)) (ap is_eq parts.1) apart)

-- ---- a tie of keys is the test for an equal key

tied : (a b : Ordering) → a ≡ ordering_reverse b → (not (is_lt a) && not (is_lt b)) ≡ is_eq b
tied a Less e = ap (λ o. not (is_lt o) && false) e
tied a Equal e = ap (λ o. not (is_lt o) && true) e
tied a Greater e = ap (λ o. not (is_lt o) && true) e

pub tied_key : (one other : Key) → (not (is_lt (compare_keys one other)) && not (is_lt (compare_keys other one))) ≡ is_eq (compare_keys other one)
tied_key one other = tied (compare_keys one other) (compare_keys other one) (keys_total.antisymm one other)

-- ---- the labels of a key

pub reduced_none : (made labels external : List Label) (replicas : List (List ℕ)) → external ≡ [] → made ≡ reduced_of labels external replicas → made ≡ without replicas labels
unfolding reduced_of
reduced_none made labels external replicas none is = is ∙ ap (λ x. reduced_of labels x replicas) none ∙ ap (without replicas) (without_nothing labels)
