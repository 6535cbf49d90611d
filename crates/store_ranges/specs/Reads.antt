-- What a call reads of a block with, by its cache or by an operation, and how it breaks off.
use Rattle.std.specs.Prelude.{ℕ, ℤ, List, Option, Some, None, Result, Ok, Err, ◌==◌, option_map, find, length, codes}
use Rattle.std.specs.Map.{lookup}
use Rattle.std.specs.Str.{bytes_eq}
use Rattle.lru.specs.LruCache.{LruCache, lru_cache, promoted, put_entries}
use Rattle.label_sets.specs.declared.label.Label.{Label}
use Rattle.block_keys.specs.declared.key.Key.{Key}
use Rattle.world_core.specs.Plans.{Plan, ends, asks, choose, after_get}
use Rattle.world_core.specs.declared.op.Op.{Op}
use Rattle.world_core.specs.declared.op.Op.TheVariants.{GetRange}
use Rattle.world_core.specs.declared.entry.Entry.{Entry}
use Rattle.matchers.specs.declared.matcher.Matcher.{Matcher}
use Rattle.block_meta.specs.declared.meta.Meta.{Meta}
use Rattle.store_ranges.specs.declared.range.Range.{Range}
use Rattle.store_ranges.specs.Caches.{range, same_range}
use Rattle.store_ranges.specs.IndexRanges.{Piece}

-- ---- what is asked for

-- the samples that are asked for, and the labels under which replicas differ
pub record Query : Type 0 where
  pub selector : List Matcher
  pub replicas : List (List ℕ)
  pub low : ℤ
  pub high : ℤ

-- what a call needs to know of a block: the size of its index, if it is told, its times, and its external labels
pub record Block : Type 0 where
  pub ulid : ℕ
  pub index_size : Option ℕ
  pub min_time : ℤ
  pub max_time : ℤ
  pub external : List Label

-- so much of what its meta says
abbrev pub block_of : ℕ → Meta → Block
block_of ulid meta = record {
  ulid = ulid;
  index_size = option_map (λ file. file.bytes) (find (λ file. bytes_eq file.path (codes "index")) meta.files);
  min_time = meta.min_time;
  max_time = meta.max_time;
  external = meta.labels;
}

-- ---- the cache

-- the ranges that are kept with their bytes, the one that was used last first
abbrev pub Cache : Type 0
Cache = LruCache Range (List ℕ)

abbrev pub range_of : Key → Piece → Range
range_of key piece = range key piece.from piece.len

-- the range was asked for, which the cache has
abbrev pub used : Range → Cache → Cache
used asked cache = lru_cache (promoted (same_range asked) cache.entries) cache.cap

-- the range was read
abbrev pub kept : Range → List ℕ → Cache → Cache
kept asked bytes cache = lru_cache (put_entries same_range cache asked bytes) cache.cap

-- ---- how the reads go on

-- how a call breaks off, by the number of the entry that shows it
pub data Break : Type 0 where
  -- the object was not there
  missing : ℕ → Break
  -- what was read is not as it has to be
  damaged : ℕ → Break
  -- the operation failed
  fault : ℕ → Break

-- How far the reads of a block's index have come: the number of the last entry, and the cache as it is then.
pub record Reached : Type 0 where
  pub last : ℕ
  pub cache : Cache

-- what follows a value that was read, or its refusal
abbrev pub if_read : {A R E : Type 0} → Result A R → (A → Plan E) → Plan E → Plan E
if_read (Ok value) next refused = next value
if_read (Err refusal) next refused = refused

-- what follows the bytes of a range, or what follows where they are not as many as were asked for
abbrev pub sized : {E : Type 0} → Piece → (Reached → Plan E) → (Reached → List ℕ → Plan E) → Reached → List ℕ → Plan E
sized piece otherwise next so bytes = choose (length bytes == piece.len) (next so bytes) (otherwise so)

-- Below, breaks says the end of a call that breaks off, with the cache as it is then.
module _ {E : Type 0} (breaks : Break → Cache → E) where
  -- a read of an object that has to be there
  abbrev pub reads : Op → Cache → (ℕ → List ℕ → Plan E) → Plan E
  reads op cache next =
      asks op (λ (e : Entry). after_get e.reply (next e.seq) (ends (breaks (missing e.seq) cache)) (ends (breaks (fault e.seq) cache)))

  -- The bytes of a range that the cache may have. What it has stands for the read; and what is read it has from then on.
  abbrev pub by_cache : Option (List ℕ) → Key → Piece → Reached → (Reached → List ℕ → Plan E) → Plan E
  by_cache (Some bytes) key piece at next = next (record { last = at.last; cache = used (range_of key piece) at.cache }) bytes
  by_cache None key piece at next =
      reads (GetRange key piece.from piece.len) at.cache
      (λ seq bytes. next (record { last = seq; cache = kept (range_of key piece) bytes at.cache }) bytes)

  -- the same, and what follows where it has another number of bytes than it should
  abbrev pub takes : Key → Piece → Reached → (Reached → Plan E) → (Reached → List ℕ → Plan E) → Plan E
  takes key piece at otherwise next =
      by_cache (lookup (same_range (range_of key piece)) at.cache.entries) key piece at (sized piece otherwise next)
