use Rattle.generated_day.specs.Summaries.{rounds_line}
use Rattle.generated_day.proofs.Parts.{four_parts}
use Rattle.generated_day.proofs.summary.put_rounds.Goals as goal

pub returns : goal.returns
unfolding rounds_line
returns c = four_parts _ _ _ _ _ _ _ _ _ c.in_ok-put_counted.ensures c.in_ok-put_counted-2.ensures c.in_ok-put_counted-3.ensures c.in_ok-push.ensures.items
