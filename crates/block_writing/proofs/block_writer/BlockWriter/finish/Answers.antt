use Rattle.std.proofs.Common.{◌≡◌, [], List, sym, ap, subst, ◌∙◌}
use Rattle.std.specs.Prelude.{IfOk}
use Rattle.index_parts.specs.declared.chunk_place.ChunkPlace.{ChunkPlace}
use Rattle.block_writing.specs.Files.{HaveNoIndex}
use Rattle.block_writing.specs.Put.{Put}
use Rattle.block_writing.specs.Writing.{put_in, IsWriting}
use Rattle.block_writing.specs.WrittenMeta.{IsWritten}
use Rattle.block_writing.proofs.Finished.{none_left, refused_where}
use Rattle.block_writing.proofs.block_writer.BlockWriter.finish.Goals as goal

pub finish-requires : goal.finish-requires
finish-requires c =
    let none : c.self.inside.chunks.items ≡ [] = none_left c.self.inside.segments.items c.self.inside.chunks.items (ap (λ (p : Put). p.chunks) c.self.view_is ∙ c.requires) in
    subst (λ (l : List ChunkPlace). IsWriting c.self.inside.plan c.self.inside.segments.items c.self.inside.index l c.self.inside.counts) none c.self.invariant

pub returns : goal.returns
returns c =
    let none : c.self.inside.chunks.items ≡ [] = none_left c.self.inside.segments.items c.self.inside.chunks.items (ap (λ (p : Put). p.chunks) c.self.view_is ∙ c.requires) in
    let view : put_in c.self.inside.plan c.self.inside.segments.items c.self.inside.index [] c.self.inside.counts ≡ c.args.self =
    ap (λ (l : List ChunkPlace). put_in c.self.inside.plan c.self.inside.segments.items c.self.inside.index l c.self.inside.counts) (sym none) ∙ c.self.view_is in
    let written : IfOk c.finish.result (IsWritten c.args.self) = subst (λ (p : Put). IfOk c.finish.result (IsWritten p)) view c.finish.ensures.written in
    record {
      written = written;
      bytes = c.finish.ensures.bytes;
      too_large = λ large. subst (λ (p : Put). HaveNoIndex p.series) view (c.finish.ensures.too_large large);
      refused = refused_where c.finish.result c.args.self written;
    }
