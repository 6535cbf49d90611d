use Rattle.generated_day.specs.Summaries.{cleaned_line}
use Rattle.generated_day.proofs.Parts.{three_parts}
use Rattle.generated_day.proofs.summary.put_cleaned.Goals as goal

pub returns : goal.returns
unfolding cleaned_line
returns c = three_parts _ _ _ _ _ _ _ c.in_ok-put_counted.ensures c.in_ok-put_counted-2.ensures c.in_ok-push.ensures.items
