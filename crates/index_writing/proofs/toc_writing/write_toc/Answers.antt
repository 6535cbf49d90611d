use Rattle.index_writing.proofs.Writing.{toc_written}
use Rattle.index_writing.proofs.toc_writing.write_toc.Goals as goal

pub returns-clause-stands : goal.returns-clause-stands
returns-clause-stands c = toc_written _ _ _ _ _ _ c.in_ok-content.ensures.fit c.as_slice.ensures.value c.in_ok-content.ensures.ok c.append_summed.ensures.sum c.append_summed.ensures.ok
