-- By what a gateway sees, and what it holds then.
use Rattle.std.specs.Prelude.{◌≡◌, Option, Some, None, option_map}
use Rattle.store_ranges.specs.Reads.{Cache}
use Rattle.store_ranges.specs.Caches.{held}
use Rattle.store_ranges.specs.declared.cache.IndexCache.{IndexCache}
use Rattle.lifecycle_core.specs.Holdings.{Holding, Use, empty_cache}
use Rattle.script_running.specs.declared.sight.Sight.{Sight}

-- the ranges that were kept, none of which were before the first call
abbrev pub cache_of : Option IndexCache → Cache
cache_of None = empty_cache
cache_of (Some cache) = held cache

-- a gateway that has done nothing yet
abbrev pub no_sight : Sight
no_sight = record { view = None; cache = None }

-- a worker that holds this sees by this
pub record Sees (holding : Holding) (sight : Sight) : Type 0 where
  pub view_is : option_map (λ (used : Use). used.view) holding.used ≡ sight.view
  pub cache_is : holding.cache ≡ cache_of sight.cache
