use Rattle.report_lines.proofs.Once.{none_each}
use Rattle.report_lines.proofs.summing.count_series.Goals as goal

pub loop-block-init : goal.loop-block-init
loop-block-init c = none_each c.new-seen.result.keys c.new-seen.ensures.empty
