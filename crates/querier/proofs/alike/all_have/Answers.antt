use Rattle.std.proofs.Common.{length, refl, arith}
use Rattle.std.proofs.lemmas.Option.{slice_get_read}
use Rattle.querier.proofs.AllAlike.{each_alike, one_more}
use Rattle.querier.proofs.alike.all_have.Goals as goal

pub loop-place-preserved : goal.loop-place-preserved
loop-place-preserved c = one_more c.args.series.now c.args.answers.now c.loop-place.place c.index-series-place.result
    (slice_get_read c.args.series.now (length c.args.series.now) c.loop-place.place c.index-series-place.result refl c.loop-place-test.true c.index-series-place.is)
    c.loop-place.invariant (c.all_have_at.ensures c.if-not-all_have_at.false)

pub returns : goal.returns
returns c e = each_alike c.args.series.now c.args.answers.now (c.all_have_as_many.ensures c.if-not-all_have_as_many.false) (λ k below. c.loop-place.invariant k (omega (arith, below, c.loop-place-test.false)))
