use Rattle.std.proofs.lemmas.Result.{IfOk-weaker}
use Rattle.run_messages.proofs.Dated.{dated}
use Rattle.run_messages.proofs.dates.date_of.Goals as goal

pub returns-in-Some : goal.returns-in-Some
returns-in-Some c =
    IfOk-weaker c.date_text.result _ _ (λ text date. dated c.args.moment.ms c.in-Some.timestamp.nanosecond c.in-Some.ensures.some c.in-Some.timestamp.in_range text.items date) c.date_text.ensures
