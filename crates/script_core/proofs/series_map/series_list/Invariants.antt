use Rattle.std.proofs.Common.{◌≡◌, ◌++◌, map}
use Rattle.script_core.specs.State.{series_of}
use Rattle.script_core.proofs.series_map.series_list.Given as goal

-- the series so far, with those of the entries that are left, are all
abbrev pub invariant-loop-labels : goal.invariant-loop-labels
invariant-loop-labels l = l.list ++ map series_of l.labels-iterator ≡ map series_of l.fn.series.entries
