use Rattle.std.proofs.Common.{◌≡◌, ℕ, List, rules, arith, subst, sym, ap, ◌∙◌}
use Rattle.base.specs.Grammar.{IsBytes}
use Rattle.wire_bytes.specs.Bits.{bits_in}
use Rattle.xor_chunks.specs.Grammar.{IsText}
use Rattle.block_writing.proofs.Parts.{data_of_part, told_time, part_returns}
use Rattle.block_writing.proofs.builder.put_part.Goals as goal

pub chunk-requires-clause-stored : goal.chunk-requires-clause-stored
chunk-requires-clause-stored c =
    let same : c.bytes.result.now ≡ c.in_ok-data.data = search rules in
    data_of_part c.args.writer.now.plan c.args.part.now c.bytes.result.now _ _ (subst (λ (l : List ℕ). IsText 7 l c.args.part.now) (sym same) c.in_ok-data.ensures.text)
    (told_time c.args.part.now 0 _ c.requires.fits c.requires.fits.some) (told_time c.args.part.now _ _ c.requires.fits (omega (arith, c.requires.fits.some))) c.requires.within

pub returns-clause-ok : goal.returns-clause-ok
returns-clause-ok c =
    let same : c.bytes.result.now ≡ c.in_ok-data.data = search rules in
    part_returns c.chunk.result c.args.writer.now c.chunk.new.self c.args.part.now c.bytes.result.now _ _ (subst (λ (l : List ℕ). IsText 7 l c.args.part.now) (sym same) c.in_ok-data.ensures.text)
    (subst IsBytes (sym same) c.in_ok-data.ensures.bytes) (ap bits_in same ∙ c.in_ok-data.ensures.exact)
    (told_time c.args.part.now 0 _ c.requires.fits c.requires.fits.some) (told_time c.args.part.now _ _ c.requires.fits (omega (arith, c.requires.fits.some))) c.chunk.ensures.ok
