-- Each chunk that was put stands at the place that the index of the written block tells.
use Rattle.std.proofs.Common.{◌≡◌, ℕ, List, [], ◌∷◌, ◌++◌, map, Option, None, Some, sym, ap, subst, ℤ}
use Rattle.std.specs.Prelude.{◌<ℤ◌}
use Rattle.std.specs.List.{flat_map, AllZip}
use Rattle.base.proofs.Lists.{cons_parts}
use Rattle.index_parts.specs.declared.chunk_place.ChunkPlace.{ChunkPlace}
use Rattle.index_parts.specs.Turns.{InOrderAfter}
use Rattle.index_parts.specs.declared.index_series.IndexSeries.{IndexSeries}
use Rattle.block_writing.specs.Put.{PutChunk, PutSeries, IsAfter, contents_of}
use Rattle.block_writing.specs.Writing.{part_of}
use Rattle.block_writing.specs.Files.{place_times, put_times, IsListed, AreFilesOf}
use Rattle.block_writing.proofs.Placed.{StandsAt as StandsIn, all_stand}
use Rattle.block_content.specs.Content.{StandsAt, BeginsAfter}

-- a chunk stands at the place that has its times
pub record IsAt (segments : List (List ℕ)) (chunk : PutChunk) (place : ChunkPlace) : Type 0 where
  pub stands : StandsAt segments place chunk.content
  pub times : place_times place ≡ put_times chunk

-- a series of the index is one that was put
pub record IsPlaced (segments : List (List ℕ)) (put : PutSeries) (indexed : IndexSeries) : Type 0 where
  pub labels_are : indexed.labels ≡ put.labels
  pub chunks_are : AllZip (IsAt segments) put.chunks indexed.chunks

-- ---- places

placed_chunks : (segments : List (List ℕ)) (chunks : List PutChunk) (places more : List ChunkPlace) (others : List (List ℕ)) → map place_times places ≡ map put_times chunks
    → AllZip (StandsIn segments) (map part_of (places ++ more)) (map (λ c. c.content) chunks ++ others) → AllZip (IsAt segments) chunks places × AllZip (StandsIn segments) (map part_of more) others
placed_chunks segments [] [] more others times each = (tt, each)
placed_chunks segments [] (p ∷ places) more others times each = absurd cc
placed_chunks segments (c ∷ chunks) [] more others times each = absurd cc
placed_chunks segments (c ∷ chunks) (p ∷ places) more others times each =
    let parts = cons_parts (place_times p) (put_times c) (map place_times places) (map put_times chunks) times in
    let rest = placed_chunks segments chunks places more others parts.1 each.1 in
    ((record { stands = record { segment = each.0.segment; named = each.0.named; stands = each.0.stands }; times = parts.0 }, rest.0), rest.1)

placed_series : (segments : List (List ℕ)) (puts : List PutSeries) (listed : List IndexSeries) → AllZip IsListed puts listed → AllZip (StandsIn segments) (map part_of (flat_map (λ s. s.chunks) listed)) (contents_of puts) → AllZip (IsPlaced segments) puts listed
placed_series segments [] [] are each = tt
placed_series segments [] (s ∷ listed) are each = absurd are
placed_series segments (p ∷ puts) [] are each = absurd are
placed_series segments (p ∷ puts) (s ∷ listed) are each =
    let own = placed_chunks segments p.chunks s.chunks (flat_map (λ (o : IndexSeries). o.chunks) listed) (contents_of puts) are.0.times_are each in
    (record { labels_are = are.0.labels_are; chunks_are = own.0 }, placed_series segments puts listed are.1 own.1)

pub all_placed : (puts : List PutSeries) (index : List ℕ) (segments : List (List ℕ)) (files : AreFilesOf puts index segments) → AllZip (IsPlaced segments) puts files.listed
all_placed puts index segments files = placed_series segments puts files.listed files.series_are (all_stand (contents_of puts) _ segments files.segments_are)

-- ---- order

abbrev Follows : Option PutChunk → PutChunk → Type 0
Follows before chunk = IsAfter before chunk.min

begins_later : (segments : List (List ℕ)) (before chunk : PutChunk) (earlier place : ChunkPlace) → place_times earlier ≡ put_times before → IsAt segments chunk place → Follows (Some before) chunk → BeginsAfter (Some earlier) place
begins_later segments before chunk earlier place same is later =
    let ends : earlier.max ≡ before.max = ap (λ (t : ℤ × ℤ). t.1) same in
    let begins : place.min ≡ chunk.min = ap (λ (t : ℤ × ℤ). t.0) is.times in
    subst (λ (t : ℤ). t <ℤ place.min) (sym ends) (subst (λ (t : ℤ). before.max <ℤ t) (sym begins) later)

apart_behind : (segments : List (List ℕ)) (before : PutChunk) (earlier : ChunkPlace) (chunks : List PutChunk) (places : List ChunkPlace) → place_times earlier ≡ put_times before → AllZip (IsAt segments) chunks places → InOrderAfter Follows (Some before) chunks → InOrderAfter BeginsAfter (Some earlier) places
apart_behind segments before earlier [] [] same each order = tt
apart_behind segments before earlier [] (p ∷ places) same each order = absurd each
apart_behind segments before earlier (c ∷ chunks) [] same each order = absurd each
apart_behind segments before earlier (c ∷ chunks) (p ∷ places) same each order =
    (begins_later segments before c earlier p same each.0 order.0, apart_behind segments c p chunks places each.0.times each.1 order.1)

pub are_apart : (segments : List (List ℕ)) (chunks : List PutChunk) (places : List ChunkPlace) → AllZip (IsAt segments) chunks places → InOrderAfter Follows None chunks → InOrderAfter BeginsAfter None places
are_apart segments [] [] each order = tt
are_apart segments [] (p ∷ places) each order = absurd each
are_apart segments (c ∷ chunks) [] each order = absurd each
are_apart segments (c ∷ chunks) (p ∷ places) each order = (tt, apart_behind segments c p chunks places each.0.times each.1 order.1)
