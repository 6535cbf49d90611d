-- What was cut are the groups, and there are no others.
use Rattle.std.proofs.Common.{◌≡◌, ◌≢◌, ℕ, Bool, true, false, cond, List, [], ◌∷◌, ◌++◌, map, append-nil, refl, sym, ap, subst, ◌∙◌, inl, inr, Less}
use Rattle.std.specs.Prelude.{Contains, IfOk, Result, Ok, Err}
use Rattle.std.specs.List.{filter, flat_map}
use Rattle.std.specs.List.Sorted.{IsStrictlySortedBy, IsPermutation, IsStableBy, ties}
use Rattle.std.specs.Ordering.{is_eq, ordering_reverse}
use Rattle.std.proofs.lemmas.Map.Keys.{sorted_head, sorted_tail}
use Rattle.std.proofs.lemmas.List.Sorted.{IsPermutation-sym, Contains-permutation}
use Rattle.base.specs.Ordered.{in_order}
use Rattle.base.specs.declared.memory.NoMemory.{NoMemory}
use Rattle.base.proofs.Lists.{cons_same, filter-map}
use Rattle.base.proofs.Membership.{each_member, member_cases, contains_first, contains_later, no_member, into_map, of_map, into_flat_map, of_flat_map, of_in_order, into_in_order, filter_whole, filter_nothing, some_member}
use Rattle.base.proofs.SameMembers.{same_members}
use Rattle.block_meta.specs.declared.meta.Meta.{Meta}
use Rattle.group_planner.specs.Groups.{Key, compare_keys, key_of, has_key, group_of, comes_before, AreGroups}
use Rattle.group_planner.specs.Cuts.{key_of_group, key_of_keyed, keyed_of, with_key, has_lesser_key, IsCut}
use Rattle.group_planner.specs.declared.group.Group.{Group}
use Rattle.group_planner.specs.declared.keyed.Keyed.{Keyed}
use Rattle.group_planner.proofs.KeptOrder.{kept_in_order}
use Rattle.group_planner.proofs.KeyOrders.{keys_total, members_ranked, key_itself, tied_key}

pub one_answer : (replicas : List (List ℕ)) (metas : List Meta) (one other : List Group) → AreGroups replicas metas one → AreGroups replicas metas other → one ≡ other
one_answer replicas metas one other is are =
    is.are ∙ ap (map (group_of replicas metas)) (same_members keys_total is.keys are.keys is.ascending are.ascending
    (λ key among. (are.theirs key).1 ((is.theirs key).0 among)) (λ key among. (is.theirs key).1 ((are.theirs key).0 among)))
    ∙ sym are.are

-- ---- filters

filter_append : {A : Type 0} (p : A → Bool) (xs ys : List A) → filter p (xs ++ ys) ≡ filter p xs ++ filter p ys
filter_append p [] ys = refl
filter_append p (x ∷ xs) ys = elim (p x) as (λ b. cond b (x ∷ filter p (xs ++ ys)) (filter p (xs ++ ys)) ≡ cond b (x ∷ filter p xs) (filter p xs) ++ filter p ys) [
  | true ↦ ap (λ l. x ∷ l) (filter_append p xs ys)
  | false ↦ filter_append p xs ys
]

unmapped : {A B : Type 0} (f : A → B) (g : B → A) → ((x : A) → g (f x) ≡ x) → (xs : List A) → map g (map f xs) ≡ xs
unmapped f g back [] = refl
unmapped f g back (x ∷ xs) = cons_same (g (f x)) x (map g (map f xs)) xs (back x) (unmapped f g back xs)

map_each : {A B : Type 0} (f : A → B) (g : B → A) (xs : List A) → ((x : A) → Contains xs x → g (f x) ≡ x) → xs ≡ map g (map f xs)
map_each f g [] each = refl
map_each f g (x ∷ xs) each = cons_same x (g (f x)) xs (map g (map f xs)) (sym (each x (contains_first x xs))) (map_each f g xs (λ y among. each y (contains_later x y xs among)))

-- ---- the blocks of one group among all that were cut

-- each block of a group has its key
its_key : (group : Group) (one : Keyed) → Contains (keyed_of group) one → key_of_keyed one ≡ key_of_group group
its_key group one among =
    let m : (meta : Meta) × Contains group.members meta × (record { resolution = group.resolution; labels = group.labels; meta = meta } ≡ one) =
    of_map (λ (meta : Meta). record { resolution = group.resolution; labels = group.labels; meta = meta }) group.members one among in
    ap key_of_keyed (sym m.2)

own_pass : (group : Group) → filter (λ one. is_eq (compare_keys (key_of_keyed one) (key_of_group group))) (keyed_of group) ≡ keyed_of group
own_pass group = filter_whole (λ one. is_eq (compare_keys (key_of_keyed one) (key_of_group group))) (keyed_of group)
    (λ one among. ap (λ k. is_eq (compare_keys k (key_of_group group))) (its_key group one among) ∙ ap is_eq (key_itself (key_of_group group)))

others_fail : (key : Key) (group : Group) → is_eq (compare_keys (key_of_group group) key) ≡ false → filter (λ one. is_eq (compare_keys (key_of_keyed one) key)) (keyed_of group) ≡ []
others_fail key group apart = filter_nothing (λ one. is_eq (compare_keys (key_of_keyed one) key)) (keyed_of group)
    (λ one among. ap (λ k. is_eq (compare_keys k key)) (its_key group one among) ∙ apart)

lesser_apart : (one other : Key) → compare_keys one other ≡ Less → is_eq (compare_keys one other) ≡ false
lesser_apart one other e = ap is_eq e

greater_apart : (one other : Key) → compare_keys other one ≡ Less → is_eq (compare_keys one other) ≡ false
greater_apart one other e = ap is_eq (keys_total.antisymm one other ∙ ap ordering_reverse e)

no_others : (key : Key) (groups : List Group) → ((group : Group) → Contains groups group → is_eq (compare_keys (key_of_group group) key) ≡ false)
    → filter (λ one. is_eq (compare_keys (key_of_keyed one) key)) (flat_map keyed_of groups) ≡ []
no_others key [] apart = refl
no_others key (g ∷ gs) apart =
    filter_append (λ one. is_eq (compare_keys (key_of_keyed one) key)) (keyed_of g) (flat_map keyed_of gs)
    ∙ ap (λ (l : List Keyed). l ++ filter (λ one. is_eq (compare_keys (key_of_keyed one) key)) (flat_map keyed_of gs)) (others_fail key g (apart g (contains_first g gs)))
    ∙ no_others key gs (λ h among. apart h (contains_later g h gs among))

-- the first group's key is less than those of the others
first_key : (first group : Group) (groups : List Group) → IsStrictlySortedBy compare_keys (map key_of_group (first ∷ groups)) → Contains groups group
    → compare_keys (key_of_group first) (key_of_group group) ≡ Less
first_key first group groups up among = each_member (λ k. compare_keys (key_of_group first) k ≡ Less) (map key_of_group groups) (key_of_group group)
    (sorted_head compare_keys (key_of_group first) (map key_of_group groups) up) (into_map key_of_group groups group among)

own_blocks : (groups : List Group) (group : Group) → IsStrictlySortedBy compare_keys (map key_of_group groups) → Contains groups group
    → filter (λ one. is_eq (compare_keys (key_of_keyed one) (key_of_group group))) (flat_map keyed_of groups) ≡ keyed_of group
own_blocks [] group up among = absurd (no_member group among)
own_blocks (g ∷ gs) group up among =
    let test = λ (one : Keyed). is_eq (compare_keys (key_of_keyed one) (key_of_group group)) in
    filter_append test (keyed_of g) (flat_map keyed_of gs) ∙ elim (member_cases g group gs among) [
      | inl same ↦
          ap (λ (l : List Keyed). l ++ filter test (flat_map keyed_of gs)) (subst (λ (h : Group). filter test (keyed_of h) ≡ keyed_of h) (sym same) (own_pass group))
          ∙ ap (λ (l : List Keyed). keyed_of g ++ l) (no_others (key_of_group group) gs (λ h later.
          greater_apart (key_of_group h) (key_of_group group) (subst (λ (x : Group). compare_keys (key_of_group x) (key_of_group h) ≡ Less) same (first_key g h gs up later))))
          ∙ append-nil (keyed_of g) ∙ ap keyed_of same
      | inr later ↦
          ap (λ (l : List Keyed). l ++ filter test (flat_map keyed_of gs)) (others_fail (key_of_group group) g (lesser_apart (key_of_group g) (key_of_group group) (first_key g group gs up later)))
          ∙ own_blocks gs group (sorted_tail compare_keys (key_of_group g) (map key_of_group gs) up) later
    ]

-- ---- what was cut

same_tests : {A : Type 0} (p q : A → Bool) → ((x : A) → p x ≡ q x) → (xs : List A) → filter p xs ≡ filter q xs
same_tests p q each xs = ap (λ test. filter test xs) (λ i x. each x i)

module _ (replicas : List (List ℕ)) (metas members : List Meta) (keyed listed : List Keyed) (groups : List Group)
    (ordered : members ≡ in_order comes_before metas) (with_keys : keyed ≡ map (with_key replicas) members)
    (same : IsPermutation keyed listed) (stable : IsStableBy has_lesser_key keyed listed) (cut : IsCut listed groups) where
  -- the members of a group are those of its key
  its_members : (group : Group) (first : Meta) → Contains groups group
      → group.members ≡ in_order comes_before (filter (has_key replicas (key_of_group group)) metas)
  its_members group first among =
      let key = key_of_group group in
      let test = λ (one : Keyed). is_eq (compare_keys (key_of_keyed one) key) in
      let one : Keyed = record { resolution = group.resolution; labels = group.labels; meta = first } in
      let as_ties : (xs : List Keyed) → filter (ties has_lesser_key one) xs ≡ filter test xs =
      same_tests (ties has_lesser_key one) test (λ x. tied_key key (key_of_keyed x)) in
      let whole : keyed_of group ≡ filter test listed = sym (own_blocks groups group cut.ascending among) ∙ ap (filter test) cut.flat in
      let before : filter test listed ≡ filter test keyed = sym (as_ties listed) ∙ stable one ∙ as_ties keyed in
      let kept : filter test keyed ≡ map (with_key replicas) (filter (has_key replicas key) members) =
      ap (filter test) with_keys ∙ filter-map test (with_key replicas) members in
      sym (unmapped (λ (meta : Meta). record { resolution = group.resolution; labels = group.labels; meta = meta }) (λ (x : Keyed). x.meta) (λ m. refl) group.members)
      ∙ ap (map (λ (x : Keyed). x.meta)) (whole ∙ before ∙ kept)
      ∙ unmapped (with_key replicas) (λ (x : Keyed). x.meta) (λ m. refl) (filter (has_key replicas key) members)
      ∙ ap (filter (has_key replicas key)) ordered
      ∙ kept_in_order comes_before members_ranked (has_key replicas key) metas

  first_of : (group : Group) → Contains groups group → (first : Meta) × Contains group.members first
  first_of group among = some_member group.members (each_member (λ (g : Group). g.members ≢ []) groups group cut.inhabited among)

  -- a group's key is a block's
  from_blocks : (key : Key) → Contains (map key_of_group groups) key → Contains (map (key_of replicas) metas) key
  from_blocks key among =
      let g : (group : Group) × Contains groups group × (key_of_group group ≡ key) = of_map key_of_group groups key among in
      let first : (first : Meta) × Contains g.0.members first = first_of g.0 g.1 in
      let one : Keyed = record { resolution = g.0.resolution; labels = g.0.labels; meta = first.0 } in
      let inside : Contains listed one = subst (λ (l : List Keyed). Contains l one) cut.flat
      (into_flat_map keyed_of groups g.0 one g.1 (into_map (λ (meta : Meta). record { resolution = g.0.resolution; labels = g.0.labels; meta = meta }) g.0.members first.0 first.1)) in
      let back : Contains (map (with_key replicas) members) one = subst (λ (l : List Keyed). Contains l one) with_keys (Contains-permutation listed keyed one (IsPermutation-sym keyed listed same) inside) in
      let m : (meta : Meta) × Contains members meta × (with_key replicas meta ≡ one) = of_map (with_key replicas) members one back in
      let known : Contains metas m.0 = of_in_order comes_before m.0 metas (subst (λ (l : List Meta). Contains l m.0) ordered m.1) in
      subst (Contains (map (key_of replicas) metas)) (ap key_of_keyed m.2 ∙ g.2) (into_map (key_of replicas) metas m.0 known)

  -- a block's key is a group's
  to_groups : (key : Key) → Contains (map (key_of replicas) metas) key → Contains (map key_of_group groups) key
  to_groups key among =
      let m : (meta : Meta) × Contains metas meta × (key_of replicas meta ≡ key) = of_map (key_of replicas) metas key among in
      let one : Keyed = with_key replicas m.0 in
      let known : Contains members m.0 = subst (λ (l : List Meta). Contains l m.0) (sym ordered) (into_in_order comes_before m.0 metas m.1) in
      let inside : Contains listed one = Contains-permutation keyed listed one same
      (subst (λ (l : List Keyed). Contains l one) (sym with_keys) (into_map (with_key replicas) members m.0 known)) in
      let g : (group : Group) × Contains groups group × Contains (keyed_of group) one = of_flat_map keyed_of groups one (subst (λ (l : List Keyed). Contains l one) (sym cut.flat) inside) in
      subst (Contains (map key_of_group groups)) (sym (its_key g.0 one g.2) ∙ m.2) (into_map key_of_group groups g.0 g.1)

  its_group : (group : Group) → Contains groups group → group_of replicas metas (key_of_group group) ≡ group
  its_group group among = ap (λ (l : List Meta). record group { members = l }) (sym (its_members group (first_of group among).0 among))

  pub are_groups : AreGroups replicas metas groups
  are_groups = record {
    keys = map key_of_group groups;
    ascending = cut.ascending;
    theirs = λ key. (from_blocks key, to_groups key);
    are = map_each key_of_group (group_of replicas metas) groups its_group;
  }

pub groups_made : (r : Result (List Group) NoMemory) (replicas : List (List ℕ)) (metas members : List Meta) (keyed listed : List Keyed)
    → members ≡ in_order comes_before metas → keyed ≡ map (with_key replicas) members → IsPermutation keyed listed → IsStableBy has_lesser_key keyed listed
    → IfOk r (IsCut listed) → IfOk r (AreGroups replicas metas)
groups_made (Ok groups) replicas metas members keyed listed ordered with_keys same stable cut = are_groups replicas metas members keyed listed groups ordered with_keys same stable cut
groups_made (Err e) replicas metas members keyed listed ordered with_keys same stable cut = tt
