use Rattle.std.proofs.Common.{◌≡◌, map}
use Rattle.vertical_merge.proofs.Merging.{firsts_of}
use Rattle.vertical_merge.proofs.merger.first_of_each.Given as goal

abbrev pub invariant-loop-one : goal.invariant-loop-one
invariant-loop-one l = l.made ≡ map firsts_of l.yielded
