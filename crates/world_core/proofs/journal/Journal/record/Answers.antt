use Rattle.std.proofs.lemmas.Result.{err_from_is_err_and}
use Rattle.world_core.proofs.Untold.{untold}
use Rattle.world_core.proofs.journal.Journal.record.Goals as goal

pub returns-in_err-told-clause-performed : goal.returns-in_err-told-clause-performed
returns-in_err-told-clause-performed g c =
    let is = err_from_is_err_and c.from_residual-in_err-told.result c.from_residual-in_err-told.ensures.1 in
    untold g.B.Bucket.told c.args.bucket.now c.perform.new.bucket c.args.op c.in_ok-reply.reply c.from_residual-in_err-told.result is.0 is.1 c.in_err-told.ensures.memory c.in_err-told.ensures.done c.in_ok-reply.ensures.performed
