use Rattle.std.proofs.Common.{◌∙◌}
use Rattle.call_verdicts.specs.Asked.{for_opening}
use Rattle.call_verdicts.proofs.BucketAsked.{asked_first, just_handed}
use Rattle.call_verdicts.proofs.Unopened.{unopened_world}
use Rattle.call_verdicts.proofs.opening.open_world.Goals as goal

pub returns-in-Ok-clause-opened : goal.returns-in-Ok-clause-opened
returns-in-Ok-clause-opened g c = record {
  journal = c.in-Ok.ensures.journal;
  tick = c.in-Ok.ensures.tick;
  unfailed = c.in-Ok.ensures.only ∙ c.requires.unused.unfailed;
  asked = asked_first g.B.Bucket.told c.args.bucket c.in-Ok.world.bucket for_opening (just_handed g.B.Bucket.told c.args.bucket c.requires.unused.unasked) c.in-Ok.ensures.asks;
}

pub returns-in-Err-clause-ended : goal.returns-in-Err-clause-ended
returns-in-Err-clause-ended g c =
    unopened_world g.B.Bucket.told c.args.script.now c.args.bucket c.in-Err.store c.in-Err.refusal c.unopened_verdict.result c.empty-journal.result c.with_bucket.result
    c.with_bucket.ensures.verdict c.with_bucket.ensures.journal c.empty-journal.ensures c.with_bucket.ensures.store c.requires.unused
    c.in-Err.ensures.failed c.in-Err.ensures.not_empty c.in-Err.ensures.only c.in-Err.ensures.kept c.in-Err.ensures.asks
    c.unopened_verdict.ensures.failed c.unopened_verdict.ensures.not_empty c.unopened_verdict.ensures.none c.unopened_verdict.ensures.early
