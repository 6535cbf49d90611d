use Rattle.std.proofs.Common.{◌≡◌, ◌-◌, ◌^◌, min, length, sum_by, take}
use Rattle.std.specs.List.{AllByRecursion}
use Rattle.std.specs.Str.{IsUtf8}
use Rattle.world_core.proofs.keeping.names_size.Given as goal

abbrev pub invariant-loop-name : goal.invariant-loop-name
invariant-loop-name l = (l.size ≡ min (sum_by length (take l.name-index l.names)) (2 ^ 64 - 1)) × AllByRecursion IsUtf8 (take l.name-index l.names)
