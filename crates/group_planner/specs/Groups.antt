-- Blocks that belong together: of one resolution, with equal external labels but for the replica labels.
use Rattle.std.specs.Prelude.{◌≡◌, ◌↔◌, ℕ, ℤ, Bool, List, map, Contains}
use Rattle.std.specs.declared.cmp.Ordering.{Ordering}
use Rattle.std.specs.Ordering.{int_cmp, nat_cmp, ordering_then, is_lt, is_eq}
use Rattle.std.specs.List.{filter}
use Rattle.std.specs.List.Sorted.{IsStrictlySortedBy}
use Rattle.base.specs.Ordered.{in_order}
use Rattle.label_sets.specs.declared.label.Label.{Label}
use Rattle.label_sets.specs.Labels.{compare_sets}
use Rattle.label_sets.specs.Finals.{without}
use Rattle.block_meta.specs.declared.meta.Meta.{Meta}
use Rattle.group_planner.specs.declared.group.Group.{Group}

-- By what groups are told apart: the resolution, and the labels that are no replica labels.
pub record Key : Type 0 where
  pub resolution : ℤ
  pub labels : List Label

abbrev pub key_of : List (List ℕ) → Meta → Key
key_of replicas meta = record { resolution = meta.resolution; labels = without replicas meta.labels }

-- by the resolution, and then by the labels
abbrev pub compare_keys : Key → Key → Ordering
compare_keys one other = ordering_then (int_cmp one.resolution other.resolution) (compare_sets one.labels other.labels)

abbrev pub has_key : List (List ℕ) → Key → Meta → Bool
has_key replicas key meta = is_eq (compare_keys (key_of replicas meta) key)

-- by their begin, and then by their ULID
abbrev pub compare_members : Meta → Meta → Ordering
compare_members one other = ordering_then (int_cmp one.min_time other.min_time) (nat_cmp one.ulid other.ulid)

abbrev pub comes_before : Meta → Meta → Bool
comes_before one other = is_lt (compare_members one other)

-- all blocks of a key, in the order of members
abbrev pub group_of : List (List ℕ) → List Meta → Key → Group
group_of replicas metas key =
    record { resolution = key.resolution; labels = key.labels; members = in_order comes_before (filter (has_key replicas key) metas) }

-- The groups of blocks: one for each key that a block has, by ascending keys.
pub record AreGroups (replicas : List (List ℕ)) (metas : List Meta) (groups : List Group) : Type 0 where
  pub keys : List Key
  pub ascending : IsStrictlySortedBy compare_keys keys
  pub theirs : (key : Key) → Contains keys key ↔ Contains (map (key_of replicas) metas) key
  pub are : groups ≡ map (group_of replicas metas) keys
