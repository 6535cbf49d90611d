-- What is taken from a cache.
use Rattle.std.specs.Prelude.{◌≡◌, ℕ, List, Option, Some, None}
use Rattle.std.specs.Map.{lookup}
use Rattle.store_ranges.specs.declared.range.Range.{Range}
use Rattle.store_ranges.specs.Caches.{same_range}
use Rattle.store_ranges.specs.Reads.{Cache, used}

-- The cache had these bytes of the range, and has used it now; or it has not got the range.
abbrev pub IsFromCache : Range → Cache → Option (List ℕ) → Cache → Type 0
IsFromCache asked old (Some bytes) new = (lookup (same_range asked) old.entries ≡ Some bytes) × (new ≡ used asked old)
IsFromCache asked old None new = (lookup (same_range asked) old.entries ≡ None) × (new ≡ old)
