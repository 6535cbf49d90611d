use Rattle.std.proofs.Common.{sym, ◌∙◌}
use Rattle.store_chunks.proofs.KeyedReferences.{keys_more}
use Rattle.store_chunks.proofs.places.have_keys.Goals as goal

pub loop-place-preserved : goal.loop-place-preserved
loop-place-preserved c =
    keys_more c.args.places.now c.loop-place.place-index _ c.loop-place-test.true c.loop-place.invariant.0 c.loop-place.invariant.1
    (sym c.has_key.ensures.value ∙ c.if-not-has_key.false) (c.has_key.ensures.small c.if-not-has_key.false)
