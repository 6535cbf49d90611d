use Rattle.index_parts.specs.RowOrder.{BeginsAt}
use Rattle.index_v2.proofs.ValuesListed.{AreListed}
use Rattle.index_v2.proofs.postings.values_of.Given as goal

abbrev pub invariant-loop-place : goal.invariant-loop-place
invariant-loop-place l = BeginsAt l.rows l.name l.initial.place × AreListed l.rows l.name l.initial.place l.place l.values
