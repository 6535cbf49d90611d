use Rattle.std.proofs.Common.{w64, rules}
use Rattle.std.specs.Prelude.{FitsSigned}
use Rattle.std.proofs.lemmas.Int.{to_z-of_z}
use Rattle.block_writing.proofs.PutLaws.{carried}
use Rattle.block_writing.proofs.block_writer.BlockWriter.chunk.Goals as goal

pub returns-clause-ok : goal.returns-clause-ok
returns-clause-ok c samples text =
    let low : FitsSigned w64 c.args.min = search rules in
    let high : FitsSigned w64 c.args.max = search rules in
    carried c.put_chunk.result c.args.self.now c.put_chunk.new.self c.args.bytes.now _ _ _ _ (to_z-of_z w64 c.args.min low) (to_z-of_z w64 c.args.max high) c.put_chunk.ensures.ok samples text
