use Rattle.std.specs.Prelude.{◌≤◌, length}
use Rattle.chunk_files.specs.Chunk.{IsPlace}
use Rattle.chunk_files.specs.ChunkReading.{segment_at}
use Rattle.chunk_files.proofs.ChunkLaws.{place_found, place_again, place_few, found, only}
use Rattle.chunk_files.proofs.reading.read_summed.Goals as goal

pub returns-clause-found : goal.returns-clause-found
returns-clause-found c = found (λ x. x.0.now) (IsPlace c.args.segment.now c.args.offset) c.segment_summed.result (segment_at c.args.segment.now c.args.offset) (λ content e. place_found c.args.segment.now c.args.offset content c.segment_summed.ensures.bytes e) c.segment_summed.ensures.exact

pub returns-clause-only : goal.returns-clause-only
returns-clause-only c = λ content h. only (λ x. x.0.now) c.segment_summed.result (segment_at c.args.segment.now c.args.offset) content (place_again c.args.segment.now c.args.offset content h) c.segment_summed.ensures.exact

pub returns-clause-few : goal.returns-clause-few
returns-clause-few c = found (λ x. x.0.now) (λ content. length content ≤ length c.args.segment.now) c.segment_summed.result (segment_at c.args.segment.now c.args.offset) (λ content e. place_few c.args.segment.now c.args.offset content (place_found c.args.segment.now c.args.offset content c.segment_summed.ensures.bytes e)) c.segment_summed.ensures.exact
