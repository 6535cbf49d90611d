use Rattle.std.proofs.lemmas.Result.{IfOk-weaker}
use Rattle.run_messages.proofs.dates.date_text.Goals as goal

pub returns : goal.returns
returns c = IfOk-weaker c.shown.result _ _ (λ text same. (c.utc_date.result, c.utc_date.ensures, same)) c.shown.ensures
