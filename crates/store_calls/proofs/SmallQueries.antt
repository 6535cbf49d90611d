-- Two queries over the small block: the first reads five ranges of the index and one of the segment, and the second finds four of
-- them in the cache. What the bytes are read as is given.
use Rattle.std.proofs.Common.{◌≡◌, ℕ, ◌==◌, pos, true, List, [], ◌∷◌, length, Some, Ok, refl, inr}
use Rattle.std.specs.Prelude.{slice_get, flat_map}
use Rattle.lru.specs.LruCache.{lru_cache}
use Rattle.label_sets.specs.declared.label.Label.{Label}
use Rattle.label_sets.specs.declared.sample.Sample.{Sample}
use Rattle.label_sets.specs.Triples.{Triple}
use Rattle.block_keys.specs.declared.key.Key.{Key}
use Rattle.block_keys.specs.declared.key.Key.TheVariants.{Index, Segment}
use Rattle.world_core.specs.Plans.{Runs}
use Rattle.world_core.specs.declared.op.Op.TheVariants.{GetRange}
use Rattle.world_core.specs.declared.reply.Reply.TheVariants.{Found}
use Rattle.world_core.specs.declared.entry.Entry.{Entry}
use Rattle.matchers.specs.declared.matcher.Matcher.{Matcher}
use Rattle.index_parts.specs.declared.chunk_place.ChunkPlace.{ChunkPlace}
use Rattle.index_parts.specs.declared.postings_row.PostingsRow.{PostingsRow}
use Rattle.index_parts.specs.ContentsReading.{toc_at}
use Rattle.index_parts.specs.SymbolsReading.{symbols_at}
use Rattle.index_parts.specs.RowsReading.{postings_table_at}
use Rattle.index_parts.specs.Parts.{known}
use Rattle.index_parts.specs.declared.index_series.IndexSeries.{IndexSeries}
use Rattle.index_v2.specs.PostingsLists.{list_of}
use Rattle.index_v2.specs.WholeReading.{lists_at}
use Rattle.index_v2.specs.SeriesLabels.{numbered_at}
use Rattle.series_selection.specs.Selections.{rows_read}
use Rattle.base.specs.Firsts.{each_at}
use Rattle.store_ranges.specs.IndexRanges.{end_of}
use Rattle.store_ranges.specs.Reads.{Query, Block, Cache, kept, used, range_of}
use Rattle.store_ranges.specs.IndexReads.{Tables, IsTakenBy, part_at}
use Rattle.store_ranges.specs.ChunkRanges.{group_of}
use Rattle.store_chunks.specs.ChunkReads.{shows, tests_at, glimpse_at, read}
use Rattle.store_chunks.specs.Taken.{shown}
use Rattle.store_calls.specs.BlockReads.{gives, block_call}
use Rattle.store_calls.proofs.SmallReads.{piece, small, only, one_stretch, one_number}

abbrev block : Block
block = record { ulid = 10; index_size = Some 205; min_time = pos 1000; max_time = pos 2000; external = [] }

abbrev place : ChunkPlace
place = record { min = pos 1000; max = pos 1000; segment = 0; offset = 8 }

abbrev query : List Matcher → Query
query selector = record { selector = selector; replicas = []; low = pos 0; high = pos 5000 }

abbrev tables : List (List ℕ) → List PostingsRow → List ℕ → Tables
tables symbols rows l = record { symbols = symbols; rows = rows; lists = part_at (piece 68 32) l }

abbrev series : List Label → IndexSeries
series labels = record { labels = labels; chunks = place ∷ [] }

abbrev entry : Entry → ℕ → Key → ℕ → ℕ → List ℕ → Entry
entry some seq key from len bytes = record some { seq = seq; op = GetRange key from len; reply = Found bytes }

-- The bytes of the table of contents, of the three sections, of the series and of the chunk are read so.
pub record AreRead (selector : List Matcher) (t s p l r c : List ℕ) (symbols : List (List ℕ)) (rows : List PostingsRow) (lists : List (List ℕ)) (labels : List Label) (samples : List Sample) : Type 0 where
  t_sized : (length t == 52) ≡ true
  t_read : toc_at t ≡ Ok small
  s_sized : (length s == 27) ≡ true
  s_read : symbols_at (known (part_at (piece 5 27) s)) 5 ≡ Ok symbols
  p_sized : (length p == 30) ≡ true
  p_read : postings_table_at (known (part_at (piece 123 30) p)) 123 ≡ Ok rows
  l_sized : (length l == 32) ≡ true
  all_read : list_of (part_at (piece 68 32) l) (slice_get rows 0) ≡ Ok (2 ∷ [])
  lists_read : lists_at (part_at (piece 68 32) l) (rows_read [] rows selector) ≡ Ok lists
  selected : IsTakenBy (query selector) block (tables symbols rows l) (2 ∷ [])
  r_sized : (length r == 16) ≡ true
  r_read : each_at (numbered_at (known (part_at (piece 32 16) r)) symbols) (2 ∷ []) ≡ Ok (series labels ∷ [])
  c_read : each_at (glimpse_at (tests_at (query selector) block (place ∷ [])) (group_of (only 8)) c) (8 ∷ []) ≡ Ok (shows samples ∷ [])

abbrev empty : Cache
empty = lru_cache [] 1024

abbrev with_range : ℕ → ℕ → List ℕ → Cache → Cache
with_range from len bytes cache = kept (range_of (Index 10) (piece from len)) bytes cache

abbrev filled : List ℕ → List ℕ → List ℕ → List ℕ → Cache
filled s p l r = with_range 32 16 r (with_range 68 32 l (with_range 123 30 p (with_range 5 27 s empty)))

abbrev triples : List Matcher → List Label → List Sample → List Triple
triples selector labels samples = flat_map (shown (query selector) block (read 8 samples ∷ [])) (series labels ∷ [])

module _ (some : Entry) (selector : List Matcher) (t s p l r c : List ℕ) (symbols : List (List ℕ)) (rows : List PostingsRow) (lists : List (List ℕ)) (labels : List Label) (samples : List Sample) (are : AreRead selector t s p l r c symbols rows lists labels samples) where
  pub first_query : Runs (block_call (query selector) block empty)
      (entry some 10 (Index 10) 153 52 t ∷ entry some 11 (Index 10) 5 27 s ∷ entry some 12 (Index 10) 123 30 p ∷ entry some 13 (Index 10) 68 32 l ∷ entry some 14 (Index 10) 32 16 r ∷ entry some 15 (Segment 10 1) 8 4096 c ∷ [])
      (Some (gives (triples selector labels samples) (filled s p l r)))
  unfolding end_of
  first_query = (
    refl,
    rw (are.t_sized, are.t_read) (
      refl,
      rw (are.s_sized, are.s_read) (
        refl,
        rw (are.p_sized, are.p_read) (
          refl,
          rw (are.l_sized, are.all_read, are.lists_read)
              (inr (
                2 ∷ [],
                are.selected,
                inr (
                  only 2 ∷ [],
                  one_stretch _ 2,
                  (
                    refl,
                    rw (are.r_sized, are.r_read)
                        (inr (
                          8 ∷ [],
                          one_number 8,
                          inr (
                            only 8 ∷ [],
                            one_stretch _ 8,
                            (refl, rw are.c_read (refl, inr refl)),
                          ),
                        )),
                  ),
                ),
              )),
        ),
      ),
    ),
  )

  -- the ranges that the first query left are used in the order in which they are asked for
  abbrev again : ℕ → ℕ → Cache → Cache
  again from len cache = used (range_of (Index 10) (piece from len)) cache

  pub second_query : Runs (block_call (query selector) block (filled s p l r))
      (entry some 16 (Index 10) 153 52 t ∷ entry some 17 (Segment 10 1) 8 4096 c ∷ [])
      (Some (gives (triples selector labels samples) (again 32 16 (again 68 32 (again 123 30 (again 5 27 (filled s p l r)))))))
  unfolding end_of
  second_query = (
    refl,
    rw (are.t_sized, are.t_read, are.s_sized, are.s_read, are.p_sized, are.p_read, are.l_sized, are.all_read, are.lists_read)
        (inr (
          2 ∷ [],
          are.selected,
          inr (
            only 2 ∷ [],
            one_stretch _ 2,
            rw (are.r_sized, are.r_read)
                (inr (
                  8 ∷ [],
                  one_number 8,
                  inr (
                    only 8 ∷ [],
                    one_stretch _ 8,
                    (refl, rw are.c_read (refl, inr refl)),
                  ),
                )),
          ),
        )),
  )
