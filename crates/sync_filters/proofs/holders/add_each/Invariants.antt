use Rattle.std.proofs.Common.{◌≡◌, ◌++◌, length, map, take}
use Rattle.sync_filters.specs.Holders.{holder}
use Rattle.sync_filters.proofs.holders.add_each.Given as goal

abbrev pub invariant-loop-source : goal.invariant-loop-source
invariant-loop-source l = l.made.items ≡ l.initial.made.items ++ map (λ source. holder source (length l.sources) l.place) (take l.source-index l.sources)
