-- The keys of a block's objects: its meta, its index, its segments of chunks and its deletion mark.
use Rattle.std.specs.Prelude.{ℕ, ◌≤◌, Bool, true, ◌&&◌, nat_le}
use Rattle.std.specs.Ordering.{nat_cmp, on, then_cmp}
use Rattle.std.specs.declared.cmp.Ordering.{Ordering}
use Rattle.block_keys.specs.declared.key.Key.{Key}
use Rattle.block_keys.specs.declared.key.Key.TheVariants.{Meta, Index, Segment, Mark}

-- the block that a key belongs to
abbrev pub key_ulid : Key → ℕ
key_ulid (Meta ulid) = ulid
key_ulid (Index ulid) = ulid
key_ulid (Segment ulid number) = ulid
key_ulid (Mark ulid) = ulid

-- the greatest number of a segment, as its name has six digits
abbrev pub segment_limit : ℕ
segment_limit = 999_999

-- segments are numbered from 1
abbrev pub IsLawfulKey : Key → Type 0
IsLawfulKey (Meta ulid) = Unit {0}
IsLawfulKey (Index ulid) = Unit {0}
IsLawfulKey (Segment ulid number) = (1 ≤ number) × (number ≤ segment_limit)
IsLawfulKey (Mark ulid) = Unit {0}

abbrev pub is_lawful_key : Key → Bool
is_lawful_key (Segment ulid number) = nat_le 1 number && nat_le number segment_limit
is_lawful_key (Meta ulid) = true
is_lawful_key (Index ulid) = true
is_lawful_key (Mark ulid) = true

-- the kinds of a block's objects, in the order of their names: `chunks/`, `deletion-mark.json`, `index`, `meta.json`
abbrev pub key_kind : Key → ℕ
key_kind (Segment ulid number) = 0
key_kind (Mark ulid) = 1
key_kind (Index ulid) = 2
key_kind (Meta ulid) = 3

-- a segment's number
abbrev pub key_number : Key → ℕ
key_number (Segment ulid number) = number
key_number (Mark ulid) = 0
key_number (Index ulid) = 0
key_number (Meta ulid) = 0

-- the order of keys: by block, then by kind, then by number
abbrev pub key_cmp : Key → Key → Ordering
key_cmp = then_cmp (on key_ulid nat_cmp) (then_cmp (on key_kind nat_cmp) (on key_number nat_cmp))
