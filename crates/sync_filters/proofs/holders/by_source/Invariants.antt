use Rattle.sync_filters.specs.Holders.{AreHolders, each_source}
use Rattle.sync_filters.proofs.holders.by_source.Given as goal

abbrev pub invariant-loop-place : goal.invariant-loop-place
invariant-loop-place l = AreHolders each_source l.place l.listed l.made.items
