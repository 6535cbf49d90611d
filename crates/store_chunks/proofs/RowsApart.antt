-- The chunks of rows, each by itself.
use Rattle.std.proofs.Common.{◌≡◌, ℕ, ◌+◌, ◌<◌, ◌≤◌, List, [], ◌∷◌, ◌++◌, take, drop, length, get_or, refl, sym, ap, ap₂, subst, ◌∙◌, append_assoc, append-nil, arith}
use Rattle.std.specs.List.Sorted.{IsStrictlyIncreasing}
use Rattle.std.proofs.lemmas.List.{take_more, drop_more, drop_all, map_push, length-drop}
use Rattle.std.proofs.lemmas.List.Concat.{flat_map-append}
use Rattle.label_sets.specs.declared.sample.Sample.{Sample}
use Rattle.store_chunks.specs.ChunkReads.{Read, read}
use Rattle.store_chunks.specs.RowCounts.{counted}
use Rattle.store_chunks.specs.ChunksRead.{reads_from, row_reads, reads_of, reads_apart, references_read, references_in, references_apart}
use Rattle.store_chunks.specs.declared.chunk_row.RowChunk.{RowChunk}
use Rattle.store_chunks.specs.declared.chunk_row.ChunkRow.{ChunkRow}
use Rattle.store_chunks.specs.declared.shown.ChunkRead.{ChunkRead}

-- What stands apart, and what is left of the row, are what stood apart before and the whole row; and what is left has its samples.
pub record ApartSo (before : List ChunkRead) (samples : List Sample) (chunks : List RowChunk) (apart : List ChunkRead) (i : ℕ) (left : List Sample) : Type 0 where
  pub whole : reads_apart apart ++ reads_from left (drop i chunks) ≡ reads_apart before ++ reads_from samples chunks
  pub many : counted (drop i chunks) ≡ length left

pub apart_begun : (before : List ChunkRead) (samples : List Sample) (chunks : List RowChunk) → counted chunks ≡ length samples → ApartSo before samples chunks before 0 samples
apart_begun before samples chunks are = record { whole = refl; many = are }

module _ (before : List ChunkRead) (samples : List Sample) (chunks : List RowChunk) (apart : List ChunkRead) (i : ℕ) (d : RowChunk) (left : List Sample) (within : i < length chunks) (so : ApartSo before samples chunks apart i left) where
  abbrev here : RowChunk
  here = get_or chunks i d

  more : drop i chunks ≡ here ∷ drop (i + 1) chunks
  more = drop_more chunks i d within

  many_here : here.count + counted (drop (i + 1) chunks) ≡ length left
  many_here = sym (ap counted more) ∙ so.many

  -- the next chunk has its samples there
  pub fits : here.count ≤ length left
  fits = omega (arith, many_here)

  pub apart_more : (own others : List Sample) (new : List ChunkRead) → own ≡ take here.count left → others ≡ drop here.count left → reads_apart new ≡ reads_apart apart ++ read here.reference own ∷ []
      → ApartSo before samples chunks new (i + 1) others
  apart_more own others new taken behind is = record {
    whole =
        ap₂ (λ (a : List Read) (b : List Sample). a ++ reads_from b (drop (i + 1) chunks)) is behind
        ∙ append_assoc (reads_apart apart) (read here.reference own ∷ []) (reads_from (drop here.count left) (drop (i + 1) chunks))
        ∙ ap (λ (s : List Sample). reads_apart apart ++ (read here.reference s ∷ reads_from (drop here.count left) (drop (i + 1) chunks))) taken
        ∙ sym (ap (λ (l : List RowChunk). reads_apart apart ++ reads_from left l) more)
        ∙ so.whole;
    many = omega (arith, many_here, ap length behind, length-drop here.count left);
  }

pub apart_all : (before : List ChunkRead) (samples : List Sample) (chunks : List RowChunk) (apart : List ChunkRead) (i : ℕ) (left : List Sample) → length chunks ≤ i → ApartSo before samples chunks apart i left
    → reads_apart apart ≡ reads_apart before ++ reads_from samples chunks
apart_all before samples chunks apart i left all so =
    sym (append-nil (reads_apart apart)) ∙ sym (ap (λ (l : List RowChunk). reads_apart apart ++ reads_from left l) (drop_all i chunks all)) ∙ so.whole

-- one chunk by itself
pub apart_one : (old new : List ChunkRead) (reference : ℕ) (samples : List Sample) (one : ChunkRead) → new ≡ old ++ one ∷ [] → one.reference ≡ reference → one.samples ≡ samples
    → reads_apart new ≡ reads_apart old ++ read reference samples ∷ []
apart_one old new reference samples one is named same =
    ap reads_apart is ∙ map_push (λ (one : ChunkRead). read one.reference one.samples) old one ∙ ap₂ (λ (n : ℕ) (s : List Sample). reads_apart old ++ read n s ∷ []) named same

-- row after row
pub rows_more : (rows : List ChunkRow) (i : ℕ) (d row : ChunkRow) (old new : List ChunkRead) → i < length rows → row ≡ get_or rows i d → reads_apart old ≡ reads_of (take i rows) → reads_apart new ≡ reads_apart old ++ row_reads row
    → reads_apart new ≡ reads_of (take (i + 1) rows)
rows_more rows i d row old new within same was is =
    is ∙ ap₂ (λ (a b : List Read). a ++ b) was (ap row_reads same ∙ sym (append-nil (row_reads (get_or rows i d))))
    ∙ sym (ap reads_of (take_more rows i d within) ∙ flat_map-append row_reads (take i rows) (get_or rows i d ∷ []))

-- ---- what is shown of them

apart_named : (found : List ChunkRead) → references_read (reads_apart found) ≡ references_apart found
apart_named [] = refl
apart_named (one ∷ found) = ap (λ (l : List ℕ). one.reference ∷ l) (apart_named found)

-- what holds of the chunks, where each stands by itself, holds of them in rows
pub apart_shown : (Is : List Read → Type 0) (apart : List ChunkRead) (rows : List ChunkRow) → reads_apart apart ≡ reads_of rows
    → (IsStrictlyIncreasing (references_apart apart) → Is (reads_apart apart)) → IsStrictlyIncreasing (references_in rows) → Is (reads_of rows)
apart_shown Is apart rows same was up = subst Is same (was (subst IsStrictlyIncreasing (sym (ap references_read same) ∙ apart_named apart) up))
