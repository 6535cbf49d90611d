-- How a call stands that has come to its end, and the cache that it leaves.
use Rattle.std.specs.Prelude.{◌≡◌, Option, Some, None}
use Rattle.store_ranges.specs.Caches.{held}
use Rattle.store_ranges.specs.declared.cache.IndexCache.{IndexCache}
use Rattle.store_calls.specs.SeriesCalls.{CallEnd}
use Rattle.store_calls.specs.declared.series_call.SeriesCall.{SeriesCall}
use Rattle.store_calls.specs.declared.series_call.SeriesEnd.{SeriesEnd}
use Rattle.store_calls.specs.declared.series_call.Stage.{Stage}
use Rattle.store_calls.specs.declared.series_call.Stage.TheVariants.{Over}

-- the call has come to its end, and leaves this cache
abbrev pub Leaves : SeriesCall → IndexCache → Type 0
Leaves call cache = call.stage ≡ Over cache

abbrev pub IsOver : SeriesCall → Type 0
IsOver call = (cache : IndexCache) × Leaves call cache

-- the end of a call with the cache that is left, by the state in which it is then
abbrev pub with_cache : SeriesEnd → Stage → Option CallEnd
with_cache end (Over cache) = Some (record { end = end; cache = held cache })
with_cache end stage = None

abbrev pub ended_with : Option SeriesEnd → SeriesCall → Option CallEnd
ended_with None last = None
ended_with (Some end) last = with_cache end last.stage
