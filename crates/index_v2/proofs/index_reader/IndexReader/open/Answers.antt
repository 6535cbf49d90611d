use Rattle.index_parts.proofs.ListLaws.{found_from, only_from}
use Rattle.index_v2.proofs.OpeningLaws.{opened_found, opened_again}
use Rattle.index_v2.proofs.HeldLaws.{both_ok, whole_only}
use Rattle.index_v2.proofs.FewLaws.{opened_few_of}
use Rattle.index_v2.proofs.index_reader.IndexReader.open.Goals as goal

pub returns-clause-found : goal.returns-clause-found
returns-clause-found c =
    both_ok _ _ _
    (found_from _ _ _ _ _ (λ o e. (opened_found _ o c.read.ensures.bytes e).0) c.read.ensures.exact)
    c.read.ensures.whole

pub returns-clause-only : goal.returns-clause-only
returns-clause-only c = λ o bytes is. whole_only c.read.result o c.read.ensures.whole (only_from _ _ _ _ o (opened_again _ o bytes is) c.read.ensures.exact)

pub returns-clause-few : goal.returns-clause-few
returns-clause-few c =
    found_from _ _ _ _ _
    (λ o e. opened_few_of c.args.bytes.now o (opened_found _ o c.read.ensures.bytes e)) c.read.ensures.exact
