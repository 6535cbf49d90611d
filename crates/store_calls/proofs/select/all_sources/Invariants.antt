use Rattle.std.proofs.Common.{◌≡◌, take}
use Rattle.store_calls.specs.SeriesCalls.{sources_of}
use Rattle.store_calls.proofs.select.all_sources.Given as goal

abbrev pub invariant-loop-block : goal.invariant-loop-block
invariant-loop-block l = l.sources.items ≡ sources_of (take l.block-index l.blocks)
