-- The ranges that a cache has, the one that was used last first. The words of the list are those of `lru`.
use Rattle.std.specs.Prelude.{ℕ, List, Bool, false, ◌&&◌, ◌==◌}
use Rattle.lru.specs.LruCache.{LruCache}
use Rattle.block_keys.specs.declared.key.Key.{Key}
use Rattle.block_keys.specs.declared.key.Key.TheVariants.{Meta, Index, Segment, Mark}
use Rattle.store_ranges.specs.declared.cache.IndexCache.{IndexCache}
use Rattle.store_ranges.specs.declared.range.Range.{Range}

abbrev pub range : Key → ℕ → ℕ → Range
range key from len = record { key = key; from = from; len = len }

abbrev pub same_key : Key → Key → Bool
same_key (Meta ulid) (Meta other) = ulid == other
same_key (Index ulid) (Index other) = ulid == other
same_key (Segment ulid number) (Segment other second) = ulid == other && number == second
same_key (Mark ulid) (Mark other) = ulid == other
same_key _ _ = false

-- the same bytes of the same object
abbrev pub same_range : Range → Range → Bool
same_range one other = same_key one.key other.key && (one.from == other.from && one.len == other.len)

-- what the cache has, and how many ranges it may have
abbrev pub held : IndexCache → LruCache Range (List ℕ)
held cache = cache.cache
