use Rattle.std.proofs.Common.{ℕ, List, refl, subst, sym, rules}
use Rattle.chunk_files.specs.Chunk.{IsPlace, frame_text}
use Rattle.chunk_files.proofs.SegmentLaws.{placed, still}
use Rattle.chunk_files.proofs.segment_writer.SegmentWriter.append_summed.Goals as goal

pub returns-clause-placed : goal.returns-clause-placed
returns-clause-placed c =
    placed c.self.inside.bytes.items c.put_chunk.new.out.items (frame_text c.args.bytes.now) (frame_text c.args.bytes.now) c.args.bytes.now c.len-filled.result c.self.invariant c.in_ok-put_chunk.ensures.chunk refl (search rules) (search rules)

pub returns-clause-kept : goal.returns-clause-kept
returns-clause-kept c place content h =
    still c.self.inside.bytes.items c.put_chunk.new.out.items (frame_text c.args.bytes.now) content place (search rules) (subst (λ (a : List ℕ). IsPlace a place content) (sym c.self.view_is) h)
