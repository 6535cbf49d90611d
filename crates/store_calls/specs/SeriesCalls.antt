-- A series call by ranges: of each kept block that meets the range of times, one after another, the reads of its ranges. What a gateway
-- has in its cache stands for a read, and each block's reads hand the cache on to those of the next. The call comes to the samples
-- that the blocks gave, whose merge is the answer.
use Rattle.std.specs.Prelude.{◌≡◌, ℕ, ℤ, int_le, int_lt, Bool, true, ◌&&◌, List, [], ◌∷◌, ◌++◌, map, Option}
use Rattle.std.specs.List.{filter, flat_map}
use Rattle.label_sets.specs.declared.series.Series.{Series}
use Rattle.label_sets.specs.Triples.{Triple}
use Rattle.world_core.specs.Plans.{Plan, ends, ComesTo, and_then}
use Rattle.world_core.specs.declared.entry.Entry.{Entry}
use Rattle.sync_filters.specs.declared.found.Found.{Found}
use Rattle.meta_fetcher.specs.declared.view.View.{View}
use Rattle.matchers.specs.declared.matcher.Matcher.{Matcher}
use Rattle.vertical_merge.specs.Merged.{IsMerge}
use Rattle.store_ranges.specs.ChunkRanges.{IsSetOf}
use Rattle.store_ranges.specs.Reads.{Query, Block, Cache, Break, missing, damaged, fault, block_of}
use Rattle.store_calls.specs.BlockReads.{BlockEnd, gives, breaks_off, block_call}
use Rattle.store_calls.specs.declared.series_call.SeriesEnd.{SeriesEnd}
use Rattle.store_calls.specs.declared.series_call.SeriesEnd.TheVariants as ended

-- ---- what is asked for

abbrev pub asking : List Matcher → List (List ℕ) → ℤ → ℤ → Query
asking selector replicas low high = record { selector = selector; replicas = replicas; low = low; high = high }

-- Whether a block may have samples in the range, both of whose ends are in it. The block's last time is not in the block.
abbrev pub meets : Query → Found → Bool
meets query block = int_le block.meta.min_time query.high && int_lt query.low block.meta.max_time

-- the blocks that meet the range, in their order
abbrev pub to_read : Query → List Found → List Block
to_read query blocks = map (λ block. block_of block.ulid block.meta) (filter (meets query) blocks)

-- the first of these blocks meets the range, if there is one
abbrev pub StartsMeeting : Query → List Found → Type 0
StartsMeeting query [] = Unit {0}
StartsMeeting query (block ∷ blocks) = meets query block ≡ true

-- the sources of all these blocks
abbrev pub sources_of : List Found → List ℕ
sources_of blocks = flat_map (λ block. block.meta.sources) blocks

-- ---- the reads

-- what a call comes to, with the cache that it leaves
pub data Called : Type 0 where
  -- these samples were taken
  took : List Triple → Cache → Called
  -- the reads of a block broke off
  broke : Break → Cache → Called

-- what follows the end of a block's reads, where these samples were taken before it
abbrev pub after_block : List Triple → (List Triple → Cache → Plan Called) → BlockEnd → Plan Called
after_block taken next (gives triples cache) = next (taken ++ triples) cache
after_block taken next (breaks_off why cache) = ends (broke why cache)

-- the reads of these blocks, where these samples were taken before
abbrev pub reading : Query → List Block → List Triple → Cache → Plan Called
reading query [] taken cache = ends (took taken cache)
reading query (block ∷ blocks) taken cache =
    and_then (block_call query block cache) (after_block taken (reading query blocks))

-- ---- the call

-- A call over a view, for the samples that the selector accepts, from low to high. It reads the view's blocks in their order, which
-- is that of their ULIDs.
abbrev pub series_call : View → Query → Cache → Plan Called
series_call view query cache = reading query (to_read query view.kept) [] cache

-- how a call ended, and the cache that it left
pub record CallEnd : Type 0 where
  pub end : SeriesEnd
  pub cache : Cache

abbrev pub end_of_break : Break → SeriesEnd
end_of_break (missing number) = ended.Missing number
end_of_break (damaged number) = ended.Damaged number
end_of_break (fault number) = ended.Fault number

-- An answer has the merge of these samples, and names these sources.
abbrev pub IsAnswerOf : List ℕ → List Triple → SeriesEnd → Type 0
IsAnswerOf sources taken end =
    (series : List Series) × (set : List ℕ) × (end ≡ ended.Answer series set) × IsMerge taken series × IsSetOf sources set

-- What a call comes to gives this end, and leaves its cache.
abbrev pub Gives : List ℕ → Called → CallEnd → Type 0
Gives sources (took taken cache) call = IsAnswerOf sources taken call.end × (call.cache ≡ cache)
Gives sources (broke why cache) call = (call.end ≡ end_of_break why) × (call.cache ≡ cache)

-- The entries and the end of such a call, with the cache before it and that after it; without an end it was broken off. Its answer
-- names the sources of all blocks that the view keeps.
abbrev pub SeriesRun : View → Query → Cache → List Entry → Option CallEnd → Type 0
SeriesRun view query cache = ComesTo (series_call view query cache) (Gives (sources_of view.kept))
