-- The entries of runs over the small block, from a number and a moment on, where each operation takes a millisecond.
use Rattle.std.proofs.Common.{arith}
use Rattle.std.specs.Prelude.{ℕ, ◌+◌, List, [], ◌∷◌, Option, Some, None}
use Rattle.std.specs.List.{cons_option}
use Rattle.std.specs.List.Sorted.{IsNonDecreasingBy}
use Rattle.std.proofs.lemmas.List.Sorted.{IsNonDecreasingBy-short}
use Rattle.block_keys.specs.declared.key.Key.TheVariants as key
use Rattle.world_core.specs.declared.entry.Entry.{Entry}
use Rattle.meta_fetcher.specs.declared.view.View.{View}
use Rattle.sync_filters.specs.declared.found.Found.{Found}
use Rattle.tests_worked.specs.SmallBlock as small
use Rattle.tests_worked.specs.SmallFiles as files
use Rattle.tests_worked.specs.Entries.{stored, found, in_range, absent, listed}

-- an upload of such a block into a bucket that does not have it, with this text of the meta
abbrev pub upload_of : ℕ → List ℕ → ℕ → ℕ → ℕ → List Entry
upload_of ulid meta seq seat moment =
    absent seq seat moment (key.Meta ulid)
    ∷ stored (seq + 1) seat (moment + 1) (key.Segment ulid 1) small.segment
    ∷ stored (seq + 2) seat (moment + 2) (key.Index ulid) small.index
    ∷ stored (seq + 3) seat (moment + 3) (key.Meta ulid) meta
    ∷ []

abbrev pub upload : ℕ → ℕ → ℕ → List Entry
upload seq seat moment = upload_of small.a small.meta seq seat moment

-- a sync that finds it alone
abbrev pub sync : ℕ → ℕ → ℕ → List Entry
sync seq seat moment =
    listed seq seat moment (small.a_text ∷ [])
    ∷ absent (seq + 1) seat (moment + 1) (key.Mark small.a)
    ∷ found (seq + 2) seat (moment + 2) (key.Meta small.a) small.meta
    ∷ []

-- what that sync reads
abbrev pub seen : ℕ → Found
seen moment = small.found (moment + 1) (moment + 2)

-- one block, or none, is in order
pub at_most_one : (kept : Option Found) → IsNonDecreasingBy (λ (b : Found). b.ulid) (cons_option kept [])
at_most_one None = IsNonDecreasingBy-short (λ (b : Found). b.ulid) [] (omega arith)
at_most_one (Some block) = IsNonDecreasingBy-short (λ (b : Found). b.ulid) (block ∷ []) (omega arith)

-- the view of a sync, by the number of its first entry, by its first and last moment, and by the block that it keeps, if any
abbrev pub view_of : ℕ → ℕ → ℕ → Option Found → View
view_of seq begin end kept = record {
  first = seq;
  begin = record { ms = begin };
  end = record { ms = end };
  kept = cons_option kept [];
  covered = [];
  kept_rise = at_most_one kept;
  covered_rise = at_most_one None;
}

-- the view of the sync above
abbrev pub view : ℕ → ℕ → Option Found → View
view seq moment kept = view_of seq moment (moment + 2) kept

-- what a query over a view that keeps it reads: the table of contents and four more ranges of its index, and then its chunk
abbrev pub contents_read : ℕ → ℕ → ℕ → Entry
contents_read seq seat moment = in_range seq seat moment (key.Index small.a) 153 52 files.contents

abbrev pub chunk_read : ℕ → ℕ → ℕ → Entry
chunk_read seq seat moment = in_range seq seat moment (key.Segment small.a 1) 8 4096 files.chunk

-- behind the table of contents
abbrev pub query_rest : ℕ → ℕ → ℕ → List Entry
query_rest seq seat moment =
    in_range (seq + 1) seat (moment + 1) (key.Index small.a) 5 27 files.symbols
    ∷ in_range (seq + 2) seat (moment + 2) (key.Index small.a) 123 30 files.table
    ∷ in_range (seq + 3) seat (moment + 3) (key.Index small.a) 68 32 files.lists
    ∷ in_range (seq + 4) seat (moment + 4) (key.Index small.a) 32 16 files.series
    ∷ chunk_read (seq + 5) seat (moment + 5)
    ∷ []

abbrev pub query : ℕ → ℕ → ℕ → List Entry
query seq seat moment = contents_read seq seat moment ∷ query_rest seq seat moment

-- the same, by a gateway that has kept the four ranges
abbrev pub query_again : ℕ → ℕ → ℕ → List Entry
query_again seq seat moment = contents_read seq seat moment ∷ chunk_read (seq + 1) seat (moment + 1) ∷ []
