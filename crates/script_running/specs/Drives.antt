-- What a worker's part of a task comes to, and what drives of its machine come to.
use Rattle.std.specs.Prelude.{ℕ, Option, Some, Result, Ok, Err}
use Rattle.world_core.specs.declared.driving.Driven.{Driven}
use Rattle.world_core.specs.declared.driving.Driven.TheVariants as driven
use Rattle.shipper.specs.declared.upload.UploadEnd.{UploadEnd}
use Rattle.meta_fetcher.specs.declared.sync.SyncEnd.{SyncEnd}
use Rattle.compactor.specs.declared.compact_end.CompactEnd.{CompactEnd}
use Rattle.cleaner.specs.declared.clean.CleanEnd.{CleanEnd}
use Rattle.store_ranges.specs.declared.cache.IndexCache.{IndexCache}
use Rattle.store_calls.specs.declared.running.CallLeft.{CallLeft}
use Rattle.script_running.specs.Outcomes.{Part, call_part, sync_outcome}
use Rattle.script_running.specs.declared.came.Broken.{Broken}
use Rattle.script_running.specs.declared.came.Broken.TheVariants as broken
use Rattle.script_running.specs.declared.came.Came.TheVariants as part
use Rattle.script_running.specs.declared.came.Stop.{Stop}
use Rattle.script_running.specs.declared.came.Stop.TheVariants as stop
use Rattle.script_running.specs.declared.unshipped.Unshipped.{Unshipped}
use Rattle.script_running.specs.declared.unshipped.Unshipped.TheVariants as unshipped

-- the end of a drive that nothing stops
abbrev pub driven_end : {E : Type 0} → Driven E → Result E Broken
driven_end (driven.Ended end) = Ok end
driven_end (driven.Stopped count) = Err broken.NoMemory
driven_end driven.Full = Err broken.Full
driven_end driven.NoMemory = Err broken.NoMemory

-- the end of a drive, or its stop after so many operations
abbrev pub stop_of : {E : Type 0} → Driven E → Result (Stop E) Broken
stop_of (driven.Ended end) = Ok (stop.Ended end)
stop_of (driven.Stopped count) = Ok (stop.At count)
stop_of driven.Full = Err broken.Full
stop_of driven.NoMemory = Err broken.NoMemory

-- what a task comes to whose end comes out so
abbrev pub came_by : {E : Type 0} → (E → Part) → Result E Broken → Result Part Broken
came_by out (Ok end) = Ok (out end)
came_by out (Err why) = Err why

abbrev pub upload_came : Driven UploadEnd → Result Part Broken
upload_came driven = came_by (λ end. part.Upload end) (stop_of driven)

-- what an upload comes to whose block has no objects
abbrev pub unshipped_came : Unshipped → Result Part Broken
unshipped_came (unshipped.Refused number) = Ok (part.Unshipped number)
unshipped_came unshipped.NoMemory = Err broken.NoMemory

abbrev pub sync_came : Driven SyncEnd → Result Part Broken
sync_came driven = came_by (λ end. part.Sync (sync_outcome end)) (driven_end driven)

abbrev pub compact_came : Driven CompactEnd → Result Part Broken
compact_came driven = came_by (λ end. part.Compact end) (stop_of driven)

abbrev pub clean_came : Driven CleanEnd → Result Part Broken
clean_came driven = came_by (λ end. part.Clean end) (stop_of driven)

-- a gateway's part of a query, over a view with this first entry
abbrev pub call_came : ℕ → Driven CallLeft → Result Part Broken
call_came first driven = came_by (λ left. part.Query (call_part first left.end)) (driven_end driven)

-- the ranges that are kept after its call
abbrev pub cache_by : Option IndexCache → Driven CallLeft → Option IndexCache
cache_by before (driven.Ended left) = Some left.cache
cache_by before (driven.Stopped count) = before
cache_by before driven.Full = before
cache_by before driven.NoMemory = before
