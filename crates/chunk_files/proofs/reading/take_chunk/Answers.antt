use Rattle.std.specs.Prelude.{◌≤◌, length}
use Rattle.chunk_files.specs.Chunk.{IsFront}
use Rattle.chunk_files.specs.ChunkReading.{chunk_at}
use Rattle.chunk_files.proofs.ChunkLaws.{chunk_found, chunk_again, front_few, found, only}
use Rattle.chunk_files.proofs.reading.take_chunk.Goals as goal

pub returns-clause-found : goal.returns-clause-found
returns-clause-found c = found (λ x. x.now) (IsFront c.args.part.now) c.chunk_of.result (chunk_at c.args.part.now) (λ content e. chunk_found c.args.part.now content c.chunk_of.ensures.bytes e) c.chunk_of.ensures.exact

pub returns-clause-only : goal.returns-clause-only
returns-clause-only c = λ content h. only (λ x. x.now) c.chunk_of.result (chunk_at c.args.part.now) content (chunk_again c.args.part.now content h) c.chunk_of.ensures.exact

pub returns-clause-few : goal.returns-clause-few
returns-clause-few c = found (λ x. x.now) (λ content. length content ≤ length c.args.part.now) c.chunk_of.result (chunk_at c.args.part.now) (λ content e. front_few c.args.part.now content (chunk_found c.args.part.now content c.chunk_of.ensures.bytes e)) c.chunk_of.ensures.exact
