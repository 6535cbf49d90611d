-- Which ranges of segments are read: groups of chunks that stand near one another, and then the chunks that stick out.
use Rattle.std.specs.Prelude.{◌≡◌, ◌↔◌, ℕ, ◌+◌, ◌-◌, ◌/◌, ◌%◌, ◌≤◌, ℤ, int_le, List, Contains, Bool, ◌&&◌}
use Rattle.std.specs.List.Sorted.{IsStrictlyIncreasing}
use Rattle.index_parts.specs.declared.chunk_place.ChunkPlace.{ChunkPlace}
use Rattle.index_parts.specs.SeriesEntry.{offset_count}
use Rattle.store_ranges.specs.Stretches.{Stretch, members, last_of, AreStretches}
use Rattle.store_ranges.specs.IndexRanges.{Piece}

-- the place tells a time from low to high, both included, or times on both sides
abbrev pub meets : ℤ → ℤ → ChunkPlace → Bool
meets low high place = int_le place.min high && int_le low place.max

-- These are the numbers of a list, ascending and each once.
pub record IsSetOf (list set : List ℕ) : Type 0 where
  pub increasing : IsStrictlyIncreasing set
  pub members : (x : ℕ) → Contains set x ↔ Contains list x

-- ---- groups

-- the number of a reference's segment, which counts from 1, and the place in it
abbrev pub segment_of : ℕ → ℕ
segment_of reference = reference / offset_count + 1

abbrev pub offset_of : ℕ → ℕ
offset_of reference = reference % offset_count

-- how far behind another one a reference may stand and still be near it
abbrev pub reach : ℕ
reach = 65_536

-- as many bytes as most chunks take
abbrev pub usual_size : ℕ
usual_size = 4_096

-- One reference stands near another: in one segment, and no further behind it than this.
pub record IsNear (one other : ℕ) : Type 0 where
  pub same_segment : segment_of one ≡ segment_of other
  pub near : other ≤ one + reach

-- The longest groups of references of which each stands near the one before it.
abbrev pub AreGroups : List ℕ → List (Stretch ℕ) → Type 0
AreGroups references groups = AreStretches IsNear references groups

-- what is read of a group at first: as much behind its last chunk's begin as most chunks take
abbrev pub group_piece : Stretch ℕ → Piece
group_piece group = record { from = offset_of group.first; len = last_of group - group.first + usual_size }

-- a group: its segment, the first of its references and all of them, and what is read of it at first
pub record Group : Type 0 where
  pub segment : ℕ
  pub first : ℕ
  pub piece : Piece
  pub references : List ℕ

abbrev pub group_of : Stretch ℕ → Group
group_of group = record { segment = segment_of group.first; first = group.first; piece = group_piece group; references = members group }
