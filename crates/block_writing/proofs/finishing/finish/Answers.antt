use Rattle.std.proofs.Common.{◌≡◌, rules}
use Rattle.block_meta.specs.MetaFields.{fields_of}
use Rattle.block_writing.specs.Writing.{plan_fields}
use Rattle.block_writing.specs.WrittenMeta.{meta_with}
use Rattle.block_writing.proofs.Finished.{written_is, too_large}
use Rattle.block_writing.proofs.finishing.finish.Goals as goal

pub returns-clause-written : goal.returns-clause-written
returns-clause-written c =
    let segments : c.in_ok-segments.segments ≡ c.args.writers.items = search rules in
    let meta : fields_of c.in_ok-meta.meta ≡ meta_with (plan_fields c.args.plan) c.args.counts c.in-Ok.index c.in_ok-segments.segments = search rules in
    written_is c.args.plan c.args.writers.items c.args.index c.args.counts _ c.requires segments c.in-Ok.ensures.exact.0 c.in-Ok.ensures.exact.1 c.in-Ok.ensures.index meta

pub returns-in-Err-clause-too_large : goal.returns-in-Err-clause-too_large
returns-in-Err-clause-too_large c = too_large c.args.plan c.args.writers.items c.args.index c.args.counts c.in-Err.cause c.refusal_of.result c.requires c.in-Err.ensures.exact c.refusal_of.ensures
