-- One block more, behind those that were cut into groups.
use Rattle.std.proofs.Common.{◌≡◌, ◌≢◌, ◌<◌, true, false, ◌&&◌, List, [], ◌∷◌, ◌++◌, length, get_or, take, map, arith, append_assoc, append-nil, refl, sym, ap, subst, ◌∙◌}
use Rattle.std.specs.Prelude.{Contains}
use Rattle.std.specs.List.{AllByRecursion, flat_map}
use Rattle.std.specs.List.Sorted.{IsStrictlySortedBy, IsSortedBy}
use Rattle.std.proofs.lemmas.List.{get_or-take, get_or_default, nil_from_length}
use Rattle.std.proofs.lemmas.List.Sorted.{sorted_far}
use Rattle.std.specs.Ordering.{int_eq, is_eq, is_lt}
use Rattle.base.proofs.Lists.{AllByRecursion-append, flat_map-push}
use Rattle.base.proofs.Membership.{each_member, all_members, contains_first, into_map}
use Rattle.base.proofs.Order.{sorted_nil, sorted_cons, sorted_push}
use Rattle.std.proofs.lemmas.List.Elements.{Contains-append_right}
use Rattle.label_sets.specs.Labels.{compare_sets}
use Rattle.block_meta.specs.declared.meta.Meta.{Meta}
use Rattle.group_planner.specs.Groups.{Key, compare_keys}
use Rattle.group_planner.specs.Cuts.{key_of_group, key_of_keyed, keyed_of, has_lesser_key, IsCut, GoesOn, CutsFurther}
use Rattle.group_planner.specs.declared.group.Group.{Group}
use Rattle.group_planner.specs.declared.keyed.Keyed.{Keyed}
use Rattle.group_planner.proofs.KeyOrders.{keys_total, keyed_ranked, same_key, next_key}

-- ---- lists of pieces

unchanged : (xs : List Keyed) → map (λ (x : Keyed). x) xs ≡ xs
unchanged [] = refl
unchanged (x ∷ xs) = ap (λ (l : List Keyed). x ∷ l) (unchanged xs)

not_less : (items yielded : List Keyed) (next one : Keyed) → IsSortedBy has_lesser_key items → map (λ (x : Keyed). x) yielded ≡ take (length yielded) items
    → (length yielded < length items) × (next ≡ get_or items (length yielded) next) → Contains yielded one → has_lesser_key next one ≡ false
not_less items yielded next one up so_far at (k, below, is) =
    let here : get_or items k one ≡ one = sym (get_or-take (length yielded) items k one below) ∙ ap (λ (l : List Keyed). get_or l k one) (sym so_far ∙ unchanged yielded) ∙ is in
    let there : get_or items (length yielded) one ≡ next = get_or_default items (length yielded) one next at.0 ∙ sym at.1 in
    ap (λ (x : Keyed). has_lesser_key next x) (sym here) ∙ ap (λ (x : Keyed). has_lesser_key x (get_or items k one)) (sym there)
    ∙ sorted_far has_lesser_key keyed_ranked items up k (length yielded) one (omega (arith, below)) at.0

pub map_append : {A B : Type 0} (f : A → B) (xs ys : List A) → map f (xs ++ ys) ≡ map f xs ++ map f ys
map_append f [] ys = refl
map_append f (x ∷ xs) ys = ap (λ l. f x ∷ l) (map_append f xs ys)

flat_one : {A B : Type 0} (f : A → List B) (x : A) → flat_map f (x ∷ []) ≡ f x
flat_one f x = append-nil (f x)

some_more : {A : Type 0} (xs : List A) (x : A) → xs ++ x ∷ [] ≢ []
some_more [] x e = absurd cc
some_more (y ∷ ys) x e = absurd cc

no_groups : (listed : List Keyed) (groups : List Group) → groups ≡ [] → IsCut listed groups → listed ≡ []
no_groups listed groups none is = sym is.flat ∙ ap (flat_map keyed_of) none

-- ---- the first block of all

pub cut_first : (old rest new : List Group) (next : Keyed) (made : Group) → length old ≡ 0 → length rest ≡ 0 → made ≡ record { resolution = next.resolution; labels = next.labels; members = next.meta ∷ [] }
    → new ≡ rest ++ made ∷ [] → CutsFurther old next new
cut_first old rest new next made old_none rest_none is e listed cut goes =
    let none : old ≡ [] = nil_from_length old old_none in
    let one : Group = record { resolution = next.resolution; labels = next.labels; members = next.meta ∷ [] } in
    let all : new ≡ one ∷ [] = e ∙ ap (λ (l : List Group). l ++ made ∷ []) (nil_from_length rest rest_none) ∙ ap (λ (g : Group). g ∷ []) is in
    subst (λ (l : List Group). IsCut (listed ++ next ∷ []) l) (sym all)
    (subst (λ (l : List Keyed). IsCut (l ++ next ∷ []) (one ∷ [])) (sym (no_groups listed old none cut)) (record {
      flat = refl;
      ascending = sorted_cons compare_keys (key_of_group one) [] tt (sorted_nil compare_keys);
      inhabited = ((λ e. absurd cc), tt);
    }))

-- ---- a block of the last group's key

-- the last group with a member more
abbrev longer : Group → Meta → Group
longer last meta = record last { members = last.members ++ meta ∷ [] }

keyed_longer : (last : Group) (next : Keyed) → key_of_group last ≡ key_of_keyed next → keyed_of (longer last next.meta) ≡ keyed_of last ++ next ∷ []
keyed_longer last next same =
    map_append (λ (meta : Meta). record { resolution = last.resolution; labels = last.labels; meta = meta }) last.members (next.meta ∷ [])
    ∙ ap (λ (k : Key). keyed_of last ++ record { resolution = k.resolution; labels = k.labels; meta = next.meta } ∷ []) same

inhabited_front : (front : List Group) (last : Group) → AllByRecursion (λ group. group.members ≢ []) (front ++ last ∷ []) → AllByRecursion (λ group. group.members ≢ []) front
inhabited_front [] last all = tt
inhabited_front (g ∷ front) last all = (all.0, inhabited_front front last all.1)

inhabited_last : (front : List Group) (last : Group) → AllByRecursion (λ group. group.members ≢ []) (front ++ last ∷ []) → last.members ≢ []
inhabited_last [] last all = all.0
inhabited_last (g ∷ front) last all = inhabited_last front last all.1

pub cut_same : (old new front : List Group) (last made : Group) (next : Keyed) → old ≡ front ++ last ∷ []
    → (int_eq last.resolution next.resolution && is_eq (compare_sets last.labels next.labels)) ≡ true
    → made ≡ record last { members = last.members ++ next.meta ∷ [] } → new ≡ front ++ made ∷ [] → CutsFurther old next new
cut_same old new front last made next was same is e listed cut goes =
    let key : key_of_group last ≡ key_of_keyed next = same_key (key_of_group last) (key_of_keyed next) same in
    let all : new ≡ front ++ longer last next.meta ∷ [] = e ∙ ap (λ (g : Group). front ++ g ∷ []) is in
    let here : IsCut listed (front ++ last ∷ []) = subst (IsCut listed) was cut in
    subst (IsCut (listed ++ next ∷ [])) (sym all) (record {
      flat = flat_map-push keyed_of front (longer last next.meta)
          ∙ ap (λ (l : List Keyed). flat_map keyed_of front ++ l) (keyed_longer last next key)
          ∙ sym (append_assoc (flat_map keyed_of front) (keyed_of last) (next ∷ []))
          ∙ ap (λ (l : List Keyed). l ++ next ∷ []) (sym (flat_map-push keyed_of front last) ∙ here.flat);
      ascending = subst (IsStrictlySortedBy compare_keys)
          (map_append key_of_group front (last ∷ []) ∙ sym (map_append key_of_group front (longer last next.meta ∷ []))) here.ascending;
      inhabited = AllByRecursion-append (λ (group : Group). group.members ≢ []) front (longer last next.meta ∷ [])
          (inhabited_front front last here.inhabited) (some_more last.members next.meta, tt);
    })

-- ---- a block of another key

-- the last block has the last group's key
last_of : (front : List Group) (last : Group) (members : List Meta) → members ≢ [] → last.members ≡ members
    → (one : Keyed) × Contains (flat_map keyed_of (front ++ last ∷ [])) one × (key_of_keyed one ≡ key_of_group last)
last_of front last [] some e = absurd (some refl)
last_of front last (m ∷ ms) some e = (
  record { resolution = last.resolution; labels = last.labels; meta = m },
  subst (λ (l : List Keyed). Contains l (record { resolution = last.resolution; labels = last.labels; meta = m })) (sym (flat_map-push keyed_of front last))
      (Contains-append_right (flat_map keyed_of front) (keyed_of last) (record { resolution = last.resolution; labels = last.labels; meta = m })
      (into_map (λ (meta : Meta). record { resolution = last.resolution; labels = last.labels; meta = meta }) last.members m
      (subst (λ (l : List Meta). Contains l m) (sym e) (contains_first m ms)))),
  refl,
)

last_among : (front : List Group) (last : Group) → last.members ≢ [] → (one : Keyed) × Contains (flat_map keyed_of (front ++ last ∷ [])) one × (key_of_keyed one ≡ key_of_group last)
last_among front last some = last_of front last last.members some refl

pub cut_next : (old middle new front : List Group) (last made : Group) (next : Keyed) → old ≡ front ++ last ∷ []
    → (int_eq last.resolution next.resolution && is_eq (compare_sets last.labels next.labels)) ≡ false
    → made ≡ record { resolution = next.resolution; labels = next.labels; members = next.meta ∷ [] }
    → middle ≡ front ++ last ∷ [] → new ≡ middle ++ made ∷ [] → CutsFurther old next new
cut_next old middle new front last made next was apart is between e listed cut goes =
    let one : Group = record { resolution = next.resolution; labels = next.labels; members = next.meta ∷ [] } in
    let all : new ≡ (front ++ last ∷ []) ++ one ∷ [] = e ∙ ap (λ (l : List Group). l ++ made ∷ []) between ∙ ap (λ (g : Group). (front ++ last ∷ []) ++ g ∷ []) is in
    let here : IsCut listed (front ++ last ∷ []) = subst (IsCut listed) was cut in
    let before : (one : Keyed) × Contains (flat_map keyed_of (front ++ last ∷ [])) one × (key_of_keyed one ≡ key_of_group last) =
    last_among front last (inhabited_last front last here.inhabited) in
    let after : is_lt (compare_keys (key_of_keyed next) (key_of_group last)) ≡ false =
    subst (λ (k : Key). is_lt (compare_keys (key_of_keyed next) k) ≡ false) before.2
    (each_member (λ (x : Keyed). has_lesser_key next x ≡ false) listed before.0 goes (subst (λ (l : List Keyed). Contains l before.0) here.flat before.1)) in
    let keys : map key_of_group ((front ++ last ∷ []) ++ one ∷ []) ≡ (map key_of_group front ++ key_of_group last ∷ []) ++ key_of_group one ∷ [] =
    map_append key_of_group (front ++ last ∷ []) (one ∷ []) ∙ ap (λ (l : List Key). l ++ key_of_group one ∷ []) (map_append key_of_group front (last ∷ [])) in
    subst (IsCut (listed ++ next ∷ [])) (sym all) (record {
      flat = flat_map-push keyed_of (front ++ last ∷ []) one ∙ ap (λ (l : List Keyed). l ++ next ∷ []) here.flat;
      ascending = subst (IsStrictlySortedBy compare_keys) (sym keys)
          (sorted_push compare_keys keys_total (map key_of_group front) (key_of_group last) (key_of_group one)
          (subst (IsStrictlySortedBy compare_keys) (map_append key_of_group front (last ∷ [])) here.ascending)
          (next_key (key_of_group last) (key_of_keyed next) apart after));
      inhabited = AllByRecursion-append (λ (group : Group). group.members ≢ []) (front ++ last ∷ []) (one ∷ []) here.inhabited ((λ e. absurd cc), tt);
    })

-- ---- the loop

-- no blocks are cut into no groups
pub cut_none : (groups : List Group) → groups ≡ [] → IsCut [] groups
cut_none groups none = subst (IsCut []) (sym none) (record { flat = refl; ascending = sorted_nil compare_keys; inhabited = tt })

-- in the order of keys no block has a lesser key than those before it
pub goes_on : (items yielded : List Keyed) (next : Keyed) → IsSortedBy has_lesser_key items → map (λ (x : Keyed). x) yielded ≡ take (length yielded) items
    → (length yielded < length items) × (next ≡ get_or items (length yielded) next) → GoesOn yielded next
goes_on items yielded next up so_far at = all_members (λ one. has_lesser_key next one ≡ false) yielded (λ one among. not_less items yielded next one up so_far at among)
