use Rattle.std.proofs.Common.{refl}
use Rattle.index_writing.proofs.AddedSeries.{writable_added}
use Rattle.index_writing.proofs.index_writer.IndexWriter.add.Goals as goal

pub invariant_of-self-2 : goal.invariant_of-self-2
invariant_of-self-2 c =
    writable_added _ _ _ _ _ _ _ c.self.invariant c.self.view_is c.requires.greater refl c.requires.chunks c.in_ok-copy.ensures c.in_ok-push.ensures.items
