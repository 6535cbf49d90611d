use Rattle.std.proofs.Common.{Ok, ap, arith, sym, ◌∙◌}
use Rattle.index_v2.proofs.LabelRanks.{ranks_start, ranks_more, ranks_stop, ranks_end}
use Rattle.index_v2.proofs.LabelReading.{gives_err}
use Rattle.index_v2.proofs.ranked.ranks_at.Goals as goal

pub loop-init : goal.loop-init
loop-init c = ranks_start _ _ c.in_ok-ranks.ensures.items

pub returns-in_err-label : goal.returns-in_err-label
returns-in_err-label c = gives_err _ _ _ _ _ c.from_residual-in_err-label.ensures.1 (ranks_stop c.loop.counter _ _ _ _ _ c.loop.invariant c.loop-test.true c.in_err-label.ensures)

pub loop-preserved : goal.loop-preserved
loop-preserved c = ranks_more _ _ _ _ _ _ _ _ c.loop.invariant c.in_ok-label.ensures c.ranks_of.ensures c.in_ok-push.ensures.items

pub returns : goal.returns
returns c = ranks_end c.loop.counter c.args.count _ _ _ c.loop.invariant (omega arith) ∙ ap Ok (sym c.from_vec.ensures)
