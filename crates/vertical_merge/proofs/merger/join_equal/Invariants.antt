use Rattle.std.proofs.Common.{◌≡◌, []}
use Rattle.std.specs.Prelude.{fold, map}
use Rattle.vertical_merge.specs.Joined.{joined_to, series_of}
use Rattle.vertical_merge.proofs.merger.join_equal.Given as goal

abbrev pub invariant-loop-next : goal.invariant-loop-next
invariant-loop-next l = map series_of l.made.items ≡ fold joined_to [] l.yielded
