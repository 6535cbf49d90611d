-- A gateway's call with what it leaves.
use Rattle.std.specs.Prelude.{List, Option, option_map}
use Rattle.store_ranges.specs.Reads.{Cache, Query}
use Rattle.store_ranges.specs.Caches.{held}
use Rattle.meta_fetcher.specs.declared.view.View.{View}
use Rattle.store_calls.specs.SeriesCalls.{CallEnd, SeriesRun}
use Rattle.world_core.specs.declared.entry.Entry.{Entry}
use Rattle.store_calls.specs.declared.running.CallLeft.{CallLeft}

-- the end of a call, by what it left
abbrev pub end_by : CallLeft → CallEnd
end_by left = record { end = left.end; cache = held left.cache }

-- The entries of a call over a view, by what was kept before it, and what it left; without that it was broken off.
abbrev pub CallRun : View → Query → Cache → List Entry → Option CallLeft → Type 0
CallRun view query cache made left = SeriesRun view query cache made (option_map end_by left)
