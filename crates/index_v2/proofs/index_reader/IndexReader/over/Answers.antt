use Rattle.index_v2.proofs.OverLaws.{over_same, over_only}
use Rattle.index_v2.proofs.index_reader.IndexReader.over.Goals as goal

pub returns-clause-same : goal.returns-clause-same
returns-clause-same c = λ index contents slices hold. over_same c.args.parts index c.read_parts.result contents slices hold c.read_parts.ensures.exact

pub returns-clause-only : goal.returns-clause-only
returns-clause-only c = λ opened is toc slices hold. over_only c.args.parts opened c.read_parts.result is toc slices hold (c.read_parts.ensures.found opened is toc slices) c.read_parts.ensures.exact
