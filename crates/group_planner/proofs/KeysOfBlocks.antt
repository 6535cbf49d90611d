-- Blocks always have groups: their keys can be put in ascending order, each once.
use Rattle.std.proofs.Common.{◌≡◌, ◌⊎◌, inl, inr, ℕ, List, [], ◌∷◌, map, refl, sym, ap, subst, ◌∙◌}
use Rattle.std.specs.Prelude.{Contains, IfOk, Result, Ok, Err, ◌↔◌}
use Rattle.std.specs.declared.cmp.Ordering.TheVariants.{Less, Equal}
use Rattle.std.specs.List.Sorted.{IsStrictlySortedBy}
use Rattle.std.specs.Ordering.{int_cmp, ordering_reverse}
use Rattle.std.specs.Result.{IsErrAnd}
use Rattle.std.proofs.lemmas.Map.Keys.{sorted_head, sorted_tail}
use Rattle.base.proofs.Bools.{Equal-from_then, by_order}
use Rattle.base.proofs.Membership.{member_cases, only_member, contains_first, contains_later, no_member, all_members, each_member}
use Rattle.base.proofs.Order.{sorted_nil, sorted_cons}
use Rattle.base.proofs.Integers.{same-from_int_cmp}
use Rattle.label_sets.specs.Labels.{compare_sets}
use Rattle.label_sets.proofs.LabelValues.{same_set}
use Rattle.block_meta.specs.declared.meta.Meta.{Meta}
use Rattle.group_planner.specs.Groups.{Key, compare_keys, key_of, group_of, AreGroups}
use Rattle.group_planner.specs.declared.group.Group.{Group}
use Rattle.group_planner.proofs.KeyOrders.{keys_total}

-- these are the others and the key, and they ascend
record IsPlaced (key : Key) (keys more : List Key) : Type 0 where
  ascending : IsStrictlySortedBy compare_keys more
  theirs : (k : Key) → Contains more k ↔ ((key ≡ k) ⊎ Contains keys k)

equal_keys : (one other : Key) → compare_keys one other ≡ Equal → one ≡ other
equal_keys one other e =
    let parts = Equal-from_then (int_cmp one.resolution other.resolution) (compare_sets one.labels other.labels) e in
    let resolution = same-from_int_cmp one.resolution other.resolution parts.0 in
    let labels = same_set one.labels other.labels parts.1 in
    λ i. record { resolution = resolution i; labels = labels i }

placed_key : (key : Key) (keys : List Key) → IsStrictlySortedBy compare_keys keys → (more : List Key) × IsPlaced key keys more
placed_key key [] up = (
  key ∷ [],
  record {
    ascending = sorted_cons compare_keys key [] tt (sorted_nil compare_keys);
    theirs = λ k. (λ among. inl (only_member key k among), λ one. elim one [ inl same ↦ subst (Contains (key ∷ [])) same (contains_first key []) | inr none ↦ absurd (no_member k none) ]);
  },
)
placed_key key (x ∷ xs) up = by_order (compare_keys key x)
    (λ less. (
      key ∷ x ∷ xs,
      record {
        ascending = sorted_cons compare_keys key (x ∷ xs) (all_members (λ y. compare_keys key y ≡ Less) (x ∷ xs) (λ y among. elim (member_cases x y xs among) [
          | inl same ↦ subst (λ z. compare_keys key z ≡ Less) same less
          | inr later ↦ keys_total.trans key x y less (each_member (λ z. compare_keys x z ≡ Less) xs y (sorted_head compare_keys x xs up) later)
        ])) up;
        theirs = λ k. (λ among. member_cases key k (x ∷ xs) among, λ one. elim one [ inl same ↦ subst (Contains (key ∷ x ∷ xs)) same (contains_first key (x ∷ xs)) | inr there ↦ contains_later key k (x ∷ xs) there ]);
      },
    ))
    (λ equal. (
      x ∷ xs,
      record {
        ascending = up;
        theirs = λ k. (λ among. inr among, λ one. elim one [ inl same ↦ subst (Contains (x ∷ xs)) (sym (equal_keys key x equal) ∙ same) (contains_first x xs) | inr there ↦ there ]);
      },
    ))
    (λ greater. let w = placed_key key xs (sorted_tail compare_keys x xs up) in
    let turned : compare_keys x key ≡ Less = keys_total.antisymm x key ∙ ap ordering_reverse greater in (
      x ∷ w.0,
      record {
        ascending = sorted_cons compare_keys x w.0 (all_members (λ y. compare_keys x y ≡ Less) w.0 (λ y among. elim ((w.1.theirs y).0 among) [
          | inl same ↦ subst (λ z. compare_keys x z ≡ Less) same turned
          | inr there ↦ each_member (λ z. compare_keys x z ≡ Less) xs y (sorted_head compare_keys x xs up) there
        ])) w.1.ascending;
        theirs = λ k. (
          λ among. elim (member_cases x k w.0 among) [
            | inl same ↦ inr (subst (Contains (x ∷ xs)) same (contains_first x xs))
            | inr later ↦ elim ((w.1.theirs k).0 later) [ inl is ↦ inl is | inr there ↦ inr (contains_later x k xs there) ]
          ],
          λ one. elim one [
            | inl same ↦ contains_later x k w.0 ((w.1.theirs k).1 (inl same))
            | inr there ↦ elim (member_cases x k xs there) [
              | inl is ↦ subst (Contains (x ∷ w.0)) is (contains_first x w.0)
              | inr later ↦ contains_later x k w.0 ((w.1.theirs k).1 (inr later))
            ]
          ],
        );
      },
    ))

keys_of : (all : List Key) → (keys : List Key) × IsStrictlySortedBy compare_keys keys × ((k : Key) → Contains keys k ↔ Contains all k)
keys_of [] = ([], sorted_nil compare_keys, λ k. (λ among. among, λ among. among))
keys_of (x ∷ xs) = let w = keys_of xs in let p = placed_key x w.0 w.1 in (
  p.0,
  p.1.ascending,
  λ k. (
    λ among. elim ((p.1.theirs k).0 among) [ inl same ↦ subst (Contains (x ∷ xs)) same (contains_first x xs) | inr there ↦ contains_later x k xs ((w.2 k).0 there) ],
    λ among. (p.1.theirs k).1 (elim (member_cases x k xs among) [ inl same ↦ inl same | inr later ↦ inr ((w.2 k).1 later) ]),
  ),
)

groups_of : (replicas : List (List ℕ)) (metas : List Meta) → (all : List Group) × AreGroups replicas metas all
groups_of replicas metas = let w = keys_of (map (key_of replicas) metas) in
    (map (group_of replicas metas) w.0, record { keys = w.0; ascending = w.1; theirs = w.2; are = refl })

pub groups_told : {E : Type 0} (r : Result (List Group) E) (replicas : List (List ℕ)) (metas : List Meta) → IfOk r (AreGroups replicas metas) → (all : List Group) × AreGroups replicas metas all × IfOk r (λ made. made ≡ all)
groups_told {E} (Ok made) replicas metas are = (made, are, refl)
groups_told {E} (Err e) replicas metas none = let all = groups_of replicas metas in (all.0, all.1, tt)

-- where memory ran out too
pub groups_short : {E : Type 0} (P : E → Type 0) (r : Result (List Group) E) (replicas : List (List ℕ)) (metas : List Meta) → IsErrAnd r P → (all : List Group) × AreGroups replicas metas all × IfOk r (λ made. made ≡ all)
groups_short {E} P (Ok made) replicas metas no' = absurd no'
groups_short {E} P (Err e) replicas metas is = groups_told {E = E} (Err e) replicas metas tt
