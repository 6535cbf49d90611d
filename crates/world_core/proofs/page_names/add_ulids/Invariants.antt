use Rattle.std.proofs.Common.{◌≡◌, ◌++◌, take}
use Rattle.world_core.specs.Walks.{ulids_in}
use Rattle.world_core.proofs.page_names.add_ulids.Given as goal

abbrev pub invariant-loop-name : goal.invariant-loop-name
invariant-loop-name l = l.ulids.items ≡ l.initial.ulids.items ++ ulids_in (take l.name-index l.names)
