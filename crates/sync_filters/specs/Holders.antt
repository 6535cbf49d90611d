-- Blocks by the numbers under which they are looked up: each of their sources, and a digest of all of them.
use Rattle.std.specs.Prelude.{◌≡◌, ℕ, pos, ◌+◌, ◌*◌, ◌%◌, ◌^◌, ◌<◌, ◌==◌, ◌&&◌, ◌||◌, nat_lt, Bool, false, fold, List, [], ◌∷◌, map, length, if◌then◌else◌, Some, slice_get, Contains}
use Rattle.std.specs.declared.cmp.Ordering.{Ordering}
use Rattle.std.specs.Int.Bits.{bit_or}
use Rattle.std.specs.Option.{option_map_or}
use Rattle.std.specs.Ordering.{nat_cmp, ordering_then, is_lt, int_eq}
use Rattle.sync_filters.specs.Filters.{is_better}
use Rattle.sync_filters.specs.declared.found.Found.{Found}
use Rattle.sync_filters.specs.declared.holders.Holder.{Holder}

-- the block at a place has so many sources, and is looked up under this number
abbrev pub holder : ℕ → ℕ → ℕ → Holder
holder key count place = record { key = key; count = count; place = place }

-- by the number, and under one number those with more sources first
abbrev pub compare_holders : Holder → Holder → Ordering
compare_holders one other = ordering_then (nat_cmp one.key other.key) (nat_cmp other.count one.count)

abbrev pub comes_before : Holder → Holder → Bool
comes_before one other = is_lt (compare_holders one other)

-- one that comes before those of the number with so many sources and with fewer
abbrev pub is_larger : ℕ → ℕ → Holder → Bool
is_larger key least one = nat_lt one.key key || (one.key == key && nat_lt least one.count)

-- the block at the place under each number that its sources give, if no sample of it was dropped
abbrev pub holders_at : (List ℕ → List ℕ) → ℕ → Found → List Holder
holders_at keys place block =
    if int_eq block.meta.resolution (pos 0) then map (λ key. holder key (length block.meta.sources) place) (keys block.meta.sources) else []

-- each block before the place is there so
abbrev pub AreHolders : (List ℕ → List ℕ) → ℕ → List Found → List Holder → Type 0
AreHolders keys end listed holders =
    (place key : ℕ) (block : Found) → place < end → slice_get listed place ≡ Some block → block.meta.resolution ≡ pos 0
    → Contains (keys block.meta.sources) key → Contains holders (holder key (length block.meta.sources) place)

-- each holder of the number is there
abbrev pub HasHoldersOf : List Holder → ℕ → List Holder → Type 0
HasHoldersOf holders key few = (place count : ℕ) → Contains holders (holder key count place) → Contains few (holder key count place)

-- each holder of the number that has more sources is there
abbrev pub HasLargerOf : List Holder → ℕ → ℕ → List Holder → Type 0
HasLargerOf holders least key few =
    (place count : ℕ) → least < count → Contains holders (holder key count place) → Contains few (holder key count place)

-- each block is there that is listed under all the sources and has more
abbrev pub HasLarger : List Holder → List ℕ → List Holder → Type 0
HasLarger holders sources few =
    (place count : ℕ) → length sources < count → ((source : ℕ) → Contains sources source → Contains holders (holder source count place))
    → (key : ℕ) × Contains holders (holder key count place) → (key : ℕ) × Contains few (holder key count place)

-- the block at the place is better
abbrev pub covers_at : List Found → Found → ℕ → Bool
covers_at listed block place = option_map_or (λ other. is_better other.meta block.meta) (slice_get listed place) false

-- the sources themselves, as the numbers under which a block is looked up
abbrev pub each_source : List ℕ → List ℕ
each_source sources = sources

abbrev pub mixer : ℕ
mixer = 0x9e3779b97f4a7c15f39cc0605cedc835

abbrev pub mixed : ℕ → ℕ → ℕ
mixed digest source = ((digest * mixer) % 2 ^ 128 + source) % 2 ^ 128

-- a number that equal lists of sources share
unfoldable pub digest_of : List ℕ → ℕ
digest_of sources = fold mixed 0 sources

-- the digest alone
abbrev pub digest_alone : List ℕ → List ℕ
digest_alone sources = digest_of sources ∷ []

-- with the bit of one source more, of 128 in all
abbrev pub with_bit : ℕ → ℕ → ℕ
with_bit mark source = bit_or mark ((1 * 2 ^ (source % 128)) % 2 ^ 128)

-- a bit for each source: a list that has all members of another has all its bits too
unfoldable pub mark_of : List ℕ → ℕ
mark_of sources = fold with_bit 0 sources

abbrev pub mark_at : Found → ℕ
mark_at block = mark_of block.meta.sources

-- each bit of the few is one of the many
abbrev pub has_bits : ℕ → ℕ → Bool
has_bits many few = bit_or few many == many
