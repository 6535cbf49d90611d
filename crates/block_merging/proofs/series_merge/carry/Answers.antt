use Rattle.std.proofs.Common.{w64, rules}
use Rattle.std.specs.Prelude.{FitsSigned}
use Rattle.std.proofs.lemmas.Int.{to_z-of_z}
use Rattle.block_writing.proofs.PutLaws.{carried}
use Rattle.block_merging.proofs.series_merge.carry.Goals as goal

pub returns : goal.returns
returns c samples text =
    let low : FitsSigned w64 c.args.chunk.now.min = search rules in
    let high : FitsSigned w64 c.args.chunk.now.max = search rules in
    carried c.chunk_summed.result c.args.writer.now c.chunk_summed.new.self c.args.chunk.now.bytes.now _ _ _ _ (to_z-of_z w64 c.args.chunk.now.min low) (to_z-of_z w64 c.args.chunk.now.max high) c.chunk_summed.ensures.ok samples text
