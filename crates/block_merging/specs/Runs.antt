-- Which chunks of one series are merged with one another: those that share times, directly or by others.
use Rattle.std.specs.Prelude.{◌≡◌, ◌≢◌, ℤ, ◌≤ℤ◌, ◌<ℤ◌, List, [], map, Bool, true, false, ◌&&◌, int_le, All, Any}
use Rattle.std.specs.List.{filter, AllByRecursion, AllPairs}
use Rattle.block_writing.specs.Put.{PutChunk}

-- Two chunks meet where the times from the first sample to the last one of each share a time.
abbrev pub Meet : PutChunk → PutChunk → Type 0
Meet one other = (one.min ≤ℤ other.max) × (other.min ≤ℤ one.max)

-- There are chunks, and however they are divided into two sides, a chunk of the one side meets one of the other.
pub record AreConnected (chunks : List PutChunk) : Type 0 where
  pub some : chunks ≢ []
  pub joined : (side : PutChunk → Bool) → Any (λ one. side one ≡ true) chunks → Any (λ other. side other ≡ false) chunks
      → Any (λ one. (side one ≡ true) × Any (λ other. (side other ≡ false) × Meet one other) chunks) chunks

-- a span of time, of which both ends are its own
pub record Span : Type 0 where
  pub begin : ℤ
  pub end : ℤ

-- whether a chunk lies in a span
abbrev pub lies_in : Span → PutChunk → Bool
lies_in span chunk = int_le span.begin chunk.min && int_le chunk.max span.end

-- The chunks fall into runs: each run has the chunks that lie in a span, in their order; each chunk lies in one of the spans;
-- each span ends before those behind it begin; and the chunks of a run are connected.
pub record AreRuns (chunks : List PutChunk) (runs : List (List PutChunk)) : Type 0 where
  pub spans : List Span
  pub runs_are : runs ≡ map (λ span. filter (lies_in span) chunks) spans
  pub covered : All (λ chunk. Any (λ span. lies_in span chunk ≡ true) spans) chunks
  pub apart : AllPairs (λ one other. one.end <ℤ other.begin) spans
  pub connected : AllByRecursion AreConnected runs
