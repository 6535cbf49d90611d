-- Which of the blocks that a sync finds it keeps.
use Rattle.std.specs.Prelude.{◌≡◌, ℕ, pos, ◌+◌, ◌*◌, ◌==◌, nat_lt, nat_le, int_le, int_lt, ◌+ℤ◌, Bool, true, false, ◌&&◌, ◌||◌, not, List, length, Option, Some, None, codes}
use Rattle.std.specs.List.{filter, list_any, list_all}
use Rattle.std.specs.List.Sorted.{IsPermutation, IsNonDecreasingBy}
use Rattle.std.specs.Ordering.{int_eq}
use Rattle.std.specs.Str.{bytes_eq}
use Rattle.base.specs.Lists.{is_one_of}
use Rattle.ulid_core.specs.Times.{time_of}
use Rattle.block_meta.specs.declared.deletion_mark.DeletionMark.{DeletionMark}
use Rattle.block_meta.specs.declared.meta.Meta.{Meta}
use Rattle.moment_core.specs.declared.moment.Moment.{Moment}
use Rattle.moment_core.specs.declared.partition.Partition.{Partition}
use Rattle.moment_core.specs.declared.span.Span.{Span}
use Rattle.moment_core.specs.Limits.{one_second}
use Rattle.sync_filters.specs.declared.found.Found.{Found}

-- the programs that write a block's objects all at one time, long after its samples
abbrev pub is_late_source : List ℕ → Bool
is_late_source source = bytes_eq source (codes "compactor") || (bytes_eq source (codes "compactor.repair") || bytes_eq source (codes "bucket.repair"))

-- the block was old enough when its meta was read, or was written at one time
abbrev pub is_consistent : Found → Span → Bool
is_consistent found delay = nat_le (time_of found.ulid + delay.ms) found.meta_read.ms || is_late_source found.meta.source

-- the partition, whose ends count, has a time from the block's first one to its end; that end counts too, though no sample has it
abbrev pub is_in_partition : Meta → Partition → Bool
is_in_partition meta partition = int_le partition.low meta.max_time && int_le meta.min_time partition.high

-- a mark that was read at that moment was not older than the delay
abbrev pub is_recent : Option DeletionMark → Moment → Span → Bool
is_recent None read delay = true
is_recent (Some mark) read delay = nat_le read.ms (one_second * mark.deletion_time + delay.ms)

-- no mark was found, or one that was not older than the delay
abbrev pub is_unmarked : Found → Span → Bool
is_unmarked found delay = is_recent found.mark found.mark_read delay

-- a retention is set, no sample was dropped, and the moment is more than the retention after the block's end
abbrev pub is_expired : Meta → Option Span → Moment → Bool
is_expired meta None moment = false
is_expired meta (Some retention) moment = int_eq meta.resolution (pos 0) && int_lt (meta.max_time +ℤ pos retention.ms) (pos moment.ms)

-- each of the few is one of the many
abbrev pub has_all : List ℕ → List ℕ → Bool
has_all many few = list_all (λ ulid. is_one_of many ulid) few

-- it has more sources, or as many and the smaller ULID
abbrev pub has_more : Meta → Meta → Bool
has_more one other = nat_lt (length other.sources) (length one.sources) || (length one.sources == length other.sources && nat_lt one.ulid other.ulid)

-- One block holds all that the other was made of, and no sample of either was dropped.
abbrev pub is_better : Meta → Meta → Bool
is_better one other =
    int_eq one.resolution (pos 0) && int_eq other.resolution (pos 0) && has_more one other && has_all one.sources other.sources

-- one of the listed blocks is better
abbrev pub is_covered : List Found → Found → Bool
is_covered listed block = list_any (λ other. is_better other.meta block.meta) listed

-- The listed blocks ascend by their ULIDs, and each is kept, unless one of them is better.
pub record Splits (found stay leave : List Found) : Type 0 where
  pub listed : List Found
  pub same : IsPermutation found listed
  pub ascend : IsNonDecreasingBy (λ block. block.ulid) listed
  pub kept : stay ≡ filter (λ block. not (is_covered listed block)) listed
  pub covered : leave ≡ filter (is_covered listed) listed
