use Rattle.std.proofs.Common.{sym, subst}
use Rattle.index_writing.specs.Written.{AreWritable}
use Rattle.index_writing.proofs.AddedSeries.{none_writable}
use Rattle.index_writing.proofs.index_writer.IndexWriter.new.Goals as goal

pub invariant_of-result : goal.invariant_of-result
invariant_of-result c = subst AreWritable (sym c.new.ensures.items) none_writable
