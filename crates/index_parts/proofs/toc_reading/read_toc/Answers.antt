use Rattle.index_parts.specs.ContentsReading.{toc_at}
use Rattle.index_parts.proofs.TocLaws.{toc_found, toc_again, toc_answers, toc_only}
use Rattle.index_parts.proofs.toc_reading.read_toc.Goals as goal

pub returns-clause-found : goal.returns-clause-found
returns-clause-found c = toc_answers _ _ _ (λ toc e. toc_found c.args.index.now toc c.toc_of.ensures.bytes e) c.toc_of.ensures.exact

pub returns-clause-only : goal.returns-clause-only
returns-clause-only c = λ toc is. toc_only c.toc_of.result (toc_at c.args.index.now) toc (toc_again _ _ is) c.toc_of.ensures.exact
