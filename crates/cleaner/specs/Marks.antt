-- How old marks and blocks are.
use Rattle.std.specs.Prelude.{ℕ, ◌+◌, ◌*◌, nat_lt, Bool}
use Rattle.ulid_core.specs.Times.{time_of}
use Rattle.block_meta.specs.MetaFields.{MarkFields}
use Rattle.moment_core.specs.declared.moment.Moment.{Moment}
use Rattle.moment_core.specs.declared.span.Span.{Span}
use Rattle.moment_core.specs.Limits.{one_second}

-- a mark that was read at that moment is older than the delay; it counts from its second on
abbrev pub is_old_mark : MarkFields → Moment → Span → Bool
is_old_mark mark read delay = nat_lt (one_second * mark.deletion_time + delay.ms) read.ms

-- a block is older than the delay at that moment; it counts from the time of its ULID on
abbrev pub is_old_block : ℕ → Moment → Span → Bool
is_old_block ulid moment delay = nat_lt (time_of ulid + delay.ms) moment.ms
