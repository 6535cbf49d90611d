-- The reads of a small block: an index of 205 bytes with one series, and one chunk. What the bytes are read as is given; which
-- ranges are read follows.
use Rattle.std.proofs.Common.{◌≡◌, ℕ, [], ◌∷◌, refl, arith}
use Rattle.index_parts.specs.declared.toc_reading.Toc.{Toc}
use Rattle.store_ranges.specs.Stretches.{Stretch, AreStretches}
use Rattle.store_ranges.specs.IndexRanges.{Piece, section_piece, end_of, run_piece}
use Rattle.store_ranges.specs.ChunkRanges.{IsSetOf, group_piece}

abbrev pub piece : ℕ → ℕ → Piece
piece from len = record { from = from; len = len }

-- ---- where sections and series end

abbrev pub small : Toc
small = record { symbols = 5; series = 32; label_indices = 48; label_offsets = 100; postings = 68; postings_table = 123 }

pub symbols_end : section_piece small 205 5 ≡ piece 5 27
unfolding end_of
symbols_end = refl

pub table_ends : section_piece small 205 123 ≡ piece 123 30
unfolding end_of
table_ends = refl

pub lists_end : section_piece small 205 68 ≡ piece 68 32
unfolding end_of
lists_end = refl

abbrev pub only : ℕ → Stretch ℕ
only number = record { first = number; others = [] }

pub series_ends : run_piece small 205 (2 ∷ []) (only 2) ≡ piece 32 16
unfolding end_of
series_ends = refl

-- with seven bytes more behind the symbols, all that follows stands sixteen further on
abbrev pub padded : Toc
padded = record { symbols = 5; series = 48; label_indices = 64; label_offsets = 116; postings = 84; postings_table = 139 }

pub symbols_end_later : section_piece padded 221 5 ≡ piece 5 43
unfolding end_of
symbols_end_later = refl

pub table_ends_later : section_piece padded 221 139 ≡ piece 139 30
unfolding end_of
table_ends_later = refl

pub lists_end_later : section_piece padded 221 84 ≡ piece 84 32
unfolding end_of
lists_end_later = refl

pub series_ends_later : run_piece padded 221 (3 ∷ []) (only 3) ≡ piece 48 16
unfolding end_of
series_ends_later = refl

-- one of many series: up to the series that follows
pub series_follows : run_piece small 205 (2 ∷ 3 ∷ 5 ∷ []) (record { first = 2; others = 3 ∷ [] }) ≡ piece 32 48
unfolding end_of
series_follows = refl

-- the first chunk of a segment
pub chunk_group : group_piece (only 8) ≡ piece 8 4096
chunk_group = refl

pub one_stretch : {A : Type 0} (Joins : A → A → Type 0) (x : A) → AreStretches Joins (x ∷ []) (record { first = x; others = [] } ∷ [])
one_stretch Joins x = record { whole = refl; joined = (tt, tt); longest = (tt, tt) }

pub one_number : (x : ℕ) → IsSetOf (x ∷ []) (x ∷ [])
one_number x = record { increasing = λ k h. absurd (omega arith); members = λ n. ((λ c. c), (λ c. c)) }
