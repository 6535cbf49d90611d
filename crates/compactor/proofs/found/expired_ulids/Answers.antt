use Rattle.std.proofs.Common.{◌∙◌, sym, ap}
use Rattle.sync_filters.specs.Filters.{is_expired}
use Rattle.sync_filters.specs.declared.found.Found.{Found}
use Rattle.compactor.proofs.Expired.{one_more, no_more}
use Rattle.compactor.proofs.found.expired_ulids.Goals as goal
use Rattle.compactor.proofs.found.expired_ulids.Goals.{then-is_expired+in_ok-push_back, else-is_expired}

pub loop-block-preserved : goal.loop-block-preserved
loop-block-preserved c = elim c.if-is_expired.branch [
  | then-is_expired+in_ok-push_back w ↦
      one_more (λ (block : Found). is_expired block.meta c.args.retention c.args.begun) c.args.blocks.now c.loop-block.block-index c.block-item.result c.loop-block.ulids.items c.if-is_expired.ulids.items
      c.loop-block-test.true c.block-item.is c.loop-block.invariant (sym c.is_expired.ensures ∙ w.if-is_expired.true)
      (ap (λ q. q.items) w.ulids-is ∙ w.in_ok-push_back.ensures.items)
  | else-is_expired w ↦
      no_more (λ (block : Found). is_expired block.meta c.args.retention c.args.begun) c.args.blocks.now c.loop-block.block-index c.block-item.result c.loop-block.ulids.items c.if-is_expired.ulids.items
      c.loop-block-test.true c.block-item.is c.loop-block.invariant (sym c.is_expired.ensures ∙ w.if-is_expired.false)
      (ap (λ q. q.items) w.ulids-is)
]
