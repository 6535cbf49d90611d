-- What gateways hold, as it goes from one of their tasks to the next.
use Rattle.std.specs.Prelude.{ℕ, ◌==◌, [], Option, Some, None, if◌then◌else◌}
use Rattle.lru.specs.LruCache.{lru_cache}
use Rattle.store_ranges.specs.Reads.{Cache}
use Rattle.meta_fetcher.specs.declared.view.View.{View}

-- a view, and the number of the last entry of the sync that gave it
pub record Use : Type 0 where
  pub view : View
  pub last : ℕ

-- what a worker holds between its tasks
pub record Holding : Type 0 where
  -- the view of its gateway's last sync that gave one
  pub used : Option Use
  -- the ranges of objects that its gateway's calls kept
  pub cache : Cache

-- how many ranges a cache has room for
abbrev pub most_ranges : ℕ
most_ranges = 1_024

abbrev pub empty_cache : Cache
empty_cache = lru_cache [] most_ranges

abbrev pub nothing_held : Holding
nothing_held = record { used = None; cache = empty_cache }

-- by a gateway's place
abbrev pub Holdings : Type 0
Holdings = ℕ → Holding

-- no gateway has synced
abbrev pub none_held : Holdings
none_held gateway = nothing_held

-- what a worker holds at first: what its gateway does, and nothing where it is no gateway's
abbrev pub holding_of : Holdings → Option ℕ → Holding
holding_of holdings None = nothing_held
holding_of holdings (Some gateway) = holdings gateway

-- the holdings with that of a worker changed
abbrev pub with_holding : Holdings → Option ℕ → Holding → Holdings
with_holding holdings None held = holdings
with_holding holdings (Some gateway) held = λ other. if other == gateway then held else holdings other
