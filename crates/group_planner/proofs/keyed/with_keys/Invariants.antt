use Rattle.std.proofs.Common.{◌≡◌, map}
use Rattle.group_planner.specs.Cuts.{with_key}
use Rattle.group_planner.proofs.keyed.with_keys.Given as goal

abbrev pub invariant-loop-meta : goal.invariant-loop-meta
invariant-loop-meta l = l.made.items ≡ map (with_key l.replicas) l.yielded
