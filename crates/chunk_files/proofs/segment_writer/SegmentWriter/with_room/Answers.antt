use Rattle.std.proofs.Common.{ap, sym, subst, ◌∙◌, ◌++◌, ◌∷◌, [], List, ℕ}
use Rattle.std.specs.Int.{w32, to_be_bytes}
use Rattle.chunk_files.specs.Layout.{magic, version}
use Rattle.chunk_files.specs.Chunk.{IsFilled}
use Rattle.chunk_files.proofs.SegmentLaws.{begun}
use Rattle.chunk_files.proofs.segment_writer.SegmentWriter.with_room.Goals as goal

pub invariant_of-result : goal.invariant_of-result
invariant_of-result c =
    let magic = c.in_ok-put_u32.ensures.ok ∙ ap (λ (a : List ℕ). a ++ to_be_bytes w32 magic) c.in_ok-bytes.ensures.items in
    subst IsFilled (sym (c.in_ok-put_bytes.ensures.ok ∙ ap (λ (a : List ℕ). a ++ version ∷ 0 ∷ 0 ∷ 0 ∷ []) magic)) begun
