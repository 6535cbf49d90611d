-- What is said of all reads of a block: for what they ask, and what they leave in the cache.
use Rattle.std.proofs.Common.{ℕ, List, [], refl}
use Rattle.std.specs.Prelude.{Contains}
use Rattle.world_core.specs.Plans.{ends}
use Rattle.world_core.specs.declared.entry.Entry.{Entry}
use Rattle.world_core.proofs.PlanLaws.{AsksFor, EndsAre}
use Rattle.store_ranges.specs.declared.range.Range.{Range}
use Rattle.store_ranges.specs.Caches.{same_range}
use Rattle.store_ranges.specs.Reads.{Block, Cache, Query, range_of}
use Rattle.store_calls.specs.BlockReads.{BlockEnd, gives, breaks_off, block_call}
use Rattle.store_calls.specs.Asking.{IsReadOf}
use Rattle.store_calls.specs.KeptRanges.{IsOfReads, IsReadIn}
use Rattle.store_calls.proofs.BlockWalk.{block_holds}
use Rattle.store_calls.proofs.CacheChanges.{all_kept, all_promoted}

-- the reads of a block ask for its index and ranges of its objects
pub block_asks : (query : Query) (block : Block) (cache : Cache) → AsksFor (λ made op. IsReadOf block.ulid op) [] (block_call query block cache)
block_asks query block cache =
    block_holds {E = BlockEnd} breaks_off (AsksFor (λ made op. IsReadOf block.ulid op)) (IsReadOf block.ulid) (λ e. Unit {0}) (λ c. Unit {0}) (λ key piece bytes. Unit {0}) (λ key bytes. Unit {0})
    (λ made. tt) (λ made op next is on. (is, λ e same. on e same tt)) (λ A made Such one next on. on) (λ made e op c is same given absent fine. tt) (λ made e landed c given so fine. tt) (λ range c fine. tt)
    (λ e key piece bytes c same given found none fine. tt) (λ e key piece bytes same given found. tt) (λ key piece bytes c fine has. tt) (λ e key bytes same given found. tt)
    query block refl (λ from len. refl) (λ series are reference sought from len. refl) (λ made number c spoilt fine. tt) (λ after triples. ends (gives triples after)) (λ made after series all are read_so set fine. tt) [] cache tt

-- the cache that the reads of a block leave
abbrev pub cache_left : BlockEnd → Cache
cache_left (gives triples cache) = cache
cache_left (breaks_off why cache) = cache

-- what they leave in it was there before, or they read it
pub block_keeps : (journal : List Entry) (query : Query) (block : Block) (cache : Cache) → IsOfReads journal cache
    → EndsAre (Contains journal) (λ made end. IsOfReads journal (cache_left end)) [] (block_call query block cache)
block_keeps journal query block cache fine =
    block_holds {E = BlockEnd} breaks_off (EndsAre (Contains journal) (λ made end. IsOfReads journal (cache_left end))) (λ op. Unit {0}) (Contains journal) (IsOfReads journal) (λ key piece bytes. Unit {0}) (λ key bytes. Unit {0})
    (λ made. tt) (λ made op next is on. on) (λ A made Such one next on. on) (λ made e op c is same given absent fine. fine) (λ made e landed c given so fine. fine)
    (λ range c fine. all_promoted (λ (p : Range × List ℕ). IsReadIn journal p.0 p.1) (same_range range) c.entries fine)
    (λ e key piece bytes c same given found none fine.
    all_kept (λ (p : Range × List ℕ). IsReadIn journal p.0 p.1) same_range c (range_of key piece) bytes none (e, given, same, found) fine)
    (λ e key piece bytes same given found. tt) (λ key piece bytes c fine has. tt) (λ e key bytes same given found. tt)
    query block tt (λ from len. tt) (λ series are reference sought from len. tt) (λ made number c spoilt fine. fine) (λ after triples. ends (gives triples after)) (λ made after series all are read_so set fine. fine) [] cache fine
