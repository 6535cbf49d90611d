use Rattle.std.proofs.Common.{refl, ◌∙◌, ap, length, length-append, arith}
use Rattle.wire_bytes.proofs.BitLists.{length-bits_in}
use Rattle.xor_chunks.proofs.BitPlaces.{stands_at}
use Rattle.xor_chunks.proofs.passing.place_of.Goals as goal

pub overflow_sub-result : goal.overflow_sub-result
overflow_sub-result c =
    let short = ap length c.requires.end.1 ∙ length-append _ c.args.reader.now in
    omega (arith, length-bits_in c.args.bytes.now)

pub returns-clause-place : goal.returns-clause-place
returns-clause-place c =
    let size = length-bits_in _ in
    let short = ap length c.requires.end.1 ∙ length-append c.requires.end.0 c.args.reader.now in
    stands_at _ _ _ _ _ c.requires.end size refl (omega arith)
