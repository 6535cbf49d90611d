-- What a cache ends as once the bytes that it lent are let go.
use Rattle.std.specs.Prelude.{◌≡◌, ℕ, List, ⊤}
use Rattle.std.specs.Borrow.{follows_so, Fml, MutBor}
use mathlib.Core.Option.{none}
use Rattle.lru.specs.LruCache.{lru_cache}
use Rattle.store_ranges.specs.Caches.{held}
use Rattle.store_ranges.specs.declared.cache.IndexCache.{IndexCache}
use Rattle.store_ranges.specs.declared.range.Range.{Range}
use Rattle.store_ranges.specs.contracts.cache.IndexCache.{the_row}

-- These are its entries then, and it has as much room as before.
abbrev pub EndsAs : MutBor IndexCache → List (Range × List ℕ) → Fml
EndsAs c entries =
    follows_so the_row the_row c.ghost_name none (λ _ _. ⊤)
    (λ n. n ≡ record { cache = lru_cache entries (held c.now).cap })
