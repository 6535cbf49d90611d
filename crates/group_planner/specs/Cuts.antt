-- How blocks with their keys, in the order of the keys, are cut into groups.
use Rattle.std.specs.Prelude.{◌≡◌, ◌≢◌, ℕ, Bool, false, List, [], ◌∷◌, ◌++◌, map}
use Rattle.std.specs.List.{AllByRecursion, flat_map}
use Rattle.std.specs.List.Sorted.{IsStrictlySortedBy}
use Rattle.std.specs.Ordering.{is_lt}
use Rattle.label_sets.specs.Finals.{without}
use Rattle.block_meta.specs.declared.meta.Meta.{Meta}
use Rattle.group_planner.specs.Groups.{Key, compare_keys}
use Rattle.group_planner.specs.declared.group.Group.{Group}
use Rattle.group_planner.specs.declared.keyed.Keyed.{Keyed}

abbrev pub key_of_keyed : Keyed → Key
key_of_keyed keyed = record { resolution = keyed.resolution; labels = keyed.labels }

abbrev pub key_of_group : Group → Key
key_of_group group = record { resolution = group.resolution; labels = group.labels }

abbrev pub has_lesser_key : Keyed → Keyed → Bool
has_lesser_key one other = is_lt (compare_keys (key_of_keyed one) (key_of_keyed other))

-- a block with its key
abbrev pub with_key : List (List ℕ) → Meta → Keyed
with_key replicas meta = record { resolution = meta.resolution; labels = without replicas meta.labels; meta = meta }

-- the members of a group with its key
abbrev pub keyed_of : Group → List Keyed
keyed_of group = map (λ meta. record { resolution = group.resolution; labels = group.labels; meta = meta }) group.members

-- The groups have the listed blocks one after another. Their keys strictly ascend, and none is empty.
pub record IsCut (listed : List Keyed) (groups : List Group) : Type 0 where
  pub flat : flat_map keyed_of groups ≡ listed
  pub ascending : IsStrictlySortedBy compare_keys (map key_of_group groups)
  pub inhabited : AllByRecursion (λ group. group.members ≢ []) groups

-- the block has no lesser key than any of those
abbrev pub GoesOn : List Keyed → Keyed → Type 0
GoesOn listed next = AllByRecursion (λ one. has_lesser_key next one ≡ false) listed

-- with one block more they are cut into these groups
abbrev pub CutsFurther : List Group → Keyed → List Group → Type 0
CutsFurther groups next more = (listed : List Keyed) → IsCut listed groups → GoesOn listed next → IsCut (listed ++ next ∷ []) more
