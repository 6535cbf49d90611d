use Rattle.std.proofs.Common.{◌≡◌, take}
use Rattle.std.specs.List.{flat_map}
use Rattle.block_meta.specs.Lawful.{ascending}
use Rattle.block_meta.proofs.ulid_sets.set_of_sources.Given as goal

abbrev pub invariant-loop-one : goal.invariant-loop-one
invariant-loop-one g l = l.set.keys ≡ ascending (flat_map g.T.HasSources.sources (take l.one-index l.all))
