use Rattle.call_verdicts.proofs.Stages.{kept_read}
use Rattle.call_verdicts.proofs.shelf_reading.keep_next.Goals as goal

pub returns-in-Ok-clause-read : goal.returns-in-Ok-clause-read
returns-in-Ok-clause-read c = λ told ended.
    kept_read told c.args.block.now c.args.stage c.in-Ended.checked c.read_of.result c.in_ok-one-in-Ended.one c.args.read.now c.push.new.self c.in-Ended.is ended c.read_of.ensures.ulid c.read_of.ensures.held c.read_of.ensures.read c.in_ok-one-in-Ended.was c.in-Ok.ensures.ok
