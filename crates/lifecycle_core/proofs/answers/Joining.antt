-- The answers of several gateways, merged, are exact for all that they name.
use Rattle.base.proofs.Membership.{any_of_member, into_flat_map, member_of_any, of_flat_map}
use Rattle.base.proofs.Pairs.{AllZip-first, AllZip-second}
use Rattle.std.proofs.Common.{◌≡◌, ◌≢◌, ℤ, true, List, [], Contains, Some, refl, ◌∙◌, ap}
use Rattle.std.specs.Prelude.{find}
use Rattle.std.specs.List.{AllZip, flat_map, list_any}
use Rattle.std.specs.List.Sorted.{IsStrictlySortedBy}
use Rattle.std.specs.Ordering.{int_cmp, is_eq, ordering_then}
use Rattle.std.proofs.lemmas.List.Elements.{All-contains, All-contains_itself, All-nil, All-weaker}
use Rattle.label_sets.specs.Labels.{compare_sets}
use Rattle.label_sets.specs.Triples.{Triple, has_same_key, triples_of}
use Rattle.label_sets.specs.declared.label.Label.{Label}
use Rattle.label_sets.specs.declared.series.Series.{Series}
use Rattle.vertical_merge.specs.Merged.{IsDeduplication, IsMerge}
use Rattle.vertical_merge.proofs.Laws.{deduplicates}
use Rattle.vertical_merge.proofs.Orders.{same_key}

-- the same key
same_as : (one other third : Triple) → has_same_key one other ≡ true → has_same_key other third ≡ true → has_same_key one third ≡ true
same_as one other third first second =
    let same = same_key one other first in
    ap (λ (l : List Label). is_eq (ordering_then (compare_sets l third.labels) (int_cmp one.time third.time))) same.0
    ∙ ap (λ (z : ℤ). is_eq (ordering_then (compare_sets other.labels third.labels) (int_cmp z third.time))) same.1 ∙ second

module _ {N : Type 0} (wanted : N → List Triple) (named : List N) (parts : List (List Series)) (each : AllZip (λ n series. IsDeduplication (triples_of series) (wanted n)) named parts) (series : List Series) (merged : IsMerge (flat_map triples_of parts) series) where
  abbrev Exact : N → List Series → Type 0
  Exact n own = IsDeduplication (triples_of own) (wanted n)

  dedup : IsDeduplication (triples_of series) (flat_map triples_of parts)
  dedup = deduplicates (flat_map triples_of parts) (flat_map triples_of parts) series refl merged

  taken_one : (t : Triple) → Contains (triples_of series) t → Contains (flat_map wanted named) t
  taken_one t among =
      let inside = All-contains (Contains (flat_map triples_of parts)) (triples_of series) t dedup.one_to_one.taken among in
      let part = of_flat_map triples_of parts t inside in
      let who = AllZip-first Exact named parts part.0 each part.1 in
      into_flat_map wanted named who.0 t who.1 (All-contains (Contains (wanted who.0)) (triples_of part.0) t who.2.one_to_one.taken part.2)

  complete_one : (t : Triple) → Contains (flat_map wanted named) t → list_any (has_same_key t) (triples_of series) ≡ true
  complete_one t among =
      let of = of_flat_map wanted named t among in
      let part = AllZip-second Exact named parts of.0 each of.1 in
      let near = member_of_any (has_same_key t) (triples_of part.0) (All-contains (λ (x : Triple). list_any (has_same_key x) (triples_of part.0) ≡ true) (wanted of.0) t part.2.one_to_one.complete of.2) in
      let inside = into_flat_map triples_of parts part.0 near.0 part.1 near.1 in
      let last = member_of_any (has_same_key near.0) (triples_of series) (All-contains (λ (x : Triple). list_any (has_same_key x) (triples_of series) ≡ true) (flat_map triples_of parts) near.0 dedup.one_to_one.complete inside) in
      any_of_member (has_same_key t) (triples_of series) last.0 last.1 (same_as t near.0 last.0 near.2 last.2)

  -- what all gateways gave, merged
  pub joined : IsDeduplication (triples_of series) (flat_map wanted named)
  joined = record {
    ascending = dedup.ascending;
    one_to_one = record {
      once = dedup.one_to_one.once;
      taken = All-weaker (Contains (triples_of series)) (Contains (flat_map wanted named)) taken_one (triples_of series) (All-contains_itself (triples_of series));
      complete = All-weaker (Contains (flat_map wanted named)) (λ t. list_any (has_same_key t) (triples_of series) ≡ true) complete_one (flat_map wanted named) (All-contains_itself (flat_map wanted named));
    };
  }

-- ---- no answer

-- no series are the merge of no samples
pub none_merged : IsMerge [] []
unfolding triples_of IsStrictlySortedBy
none_merged = record {
  ascending = tt;
  inhabited = All-nil (λ s. s.samples ≢ []);
  first = record { ascending = tt; first = All-nil (λ t. find (has_same_key t) [] ≡ Some t); complete = All-nil (λ t. list_any (has_same_key t) [] ≡ true) };
}
