use Rattle.std.proofs.Common.{◌∙◌, sym, subst, arith}
use Rattle.std.specs.Int.{w64}
use Rattle.std.proofs.lemmas.Int.{to_z-of_z}
use Rattle.xor_chunks.specs.Grammar.{IsText}
use Rattle.block_writing.specs.Writing.{plan_fields}
use Rattle.tests_blocks.proofs.OneSample.{one_stored}
use Rattle.tests_blocks.proofs.carried.carry.Goals as goal

pub block_of-requires : goal.block_of-requires
block_of-requires c =
    let back = to_z-of_z w64 c.time_of.result c.time_of.ensures.fits in
    let least = c.in-len1.len_at_least in
    let most = c.in-len1.len_below in
    one_stored (plan_fields c.in-Some.plan) c.args.bytes.now c.members.result.now _ _ _ (subst (IsText 8 c.args.bytes.now) (sym c.members.ensures) c.in-Ok.ensures.found) (omega (arith, least, most)) (back ∙ c.time_of.ensures.value) (back ∙ c.time_of.ensures.value) (c.is_within.ensures.0 c.if-not-is_within.false)
