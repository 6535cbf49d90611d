use Rattle.std.proofs.Common.{List, Bor, sym, subst}
use Rattle.sync_filters.specs.Holders.{HasLarger}
use Rattle.sync_filters.specs.declared.holders.Holder.{Holder}
use Rattle.sync_filters.proofs.HolderLaws.{larger_one}
use Rattle.sync_filters.proofs.holders.fewest_larger.Goals as goal
use Rattle.sync_filters.proofs.holders.fewest_larger.Goals.{then-found-few, else-found-few}

pub loop-source-init : goal.loop-source-init
loop-source-init c = λ place count more all some. some

pub loop-source-preserved : goal.loop-source-preserved
loop-source-preserved c = elim c.if-found-few.branch [
  | then-found-few w ↦ subst (λ (b : Bor (List Holder)). HasLarger c.args.holders.now c.args.sources.now b.now) (sym w.few-is)
      (larger_one c.args.holders.now c.larger_of-found.result.now c.args.sources.now c.source-item.result c.number_of.result
      (c.loop-source.source-index, c.loop-source-test.true, sym c.source-item.is) c.number_of.ensures c.larger_of-found.ensures)
  | else-found-few w ↦ subst (λ (b : Bor (List Holder)). HasLarger c.args.holders.now c.args.sources.now b.now) (sym w.few-is) c.loop-source.invariant
]
