use Rattle.call_verdicts.proofs.Unopened.{unshelved}
use Rattle.call_verdicts.proofs.opening.without_shelf.Goals as goal

pub returns-clause-ended : goal.returns-clause-ended
returns-clause-ended g c =
    unshelved g.B.Bucket.told c.args.bucket c.args.refusal c.refusal_verdict.result c.empty.result c.with_bucket.result
    c.with_bucket.ensures.verdict c.with_bucket.ensures.journal c.empty.ensures c.with_bucket.ensures.store c.requires
    c.refusal_verdict.ensures.failed c.refusal_verdict.ensures.none c.refusal_verdict.ensures.early
