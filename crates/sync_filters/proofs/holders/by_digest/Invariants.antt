use Rattle.sync_filters.specs.Holders.{AreHolders, digest_alone}
use Rattle.sync_filters.proofs.holders.by_digest.Given as goal

abbrev pub invariant-loop-place : goal.invariant-loop-place
invariant-loop-place l = AreHolders digest_alone l.place l.listed l.made.items
