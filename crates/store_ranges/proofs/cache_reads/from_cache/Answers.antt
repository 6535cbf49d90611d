use Rattle.std.proofs.Common.{ap, sym, ◌∙◌}
use Rattle.lru.specs.LruCache.{lru_cache}
use Rattle.store_ranges.specs.Caches.{held, same_range}
use Rattle.store_ranges.specs.Asking.{piece_of}
use Rattle.store_ranges.specs.Reads.{range_of}
use Rattle.store_ranges.proofs.NotKept.{not_promoted}
use Rattle.store_ranges.proofs.cache_reads.from_cache.Goals as goal

pub returns-in-None : goal.returns-in-None
returns-in-None c =
    let none = sym c.in-None.ensures.value in (
      none,
      ap held c.get.follows.holds-at-none
          ∙ ap (λ es. lru_cache es (held c.args.cache.now).cap) (not_promoted (same_range (range_of c.args.key (piece_of c.args.range))) (held c.args.cache.now).entries none),
    )
