use Rattle.std.proofs.Common.{◌≡◌, ◌++◌}
use Rattle.label_sets.specs.Triples.{triples_of}
use Rattle.vertical_merge.proofs.merger.take_each.Given as goal

abbrev pub invariant-loop-one : goal.invariant-loop-one
invariant-loop-one l = l.merger ≡ l.initial.merger ++ triples_of l.yielded
