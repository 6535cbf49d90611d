use Rattle.index_parts.specs.Postings.{IsNextPosting}
use Rattle.index_parts.specs.PostingsReading.{posting_at}
use Rattle.index_parts.proofs.PostingsLaws.{posting_turn, posting_size}
use Rattle.index_parts.proofs.ListLaws.{read_found, read_only, read_few, same_from}
use Rattle.index_parts.proofs.postings_reading.read_postings.Goals as goal

pub returns-clause-found : goal.returns-clause-found
returns-clause-found c = read_found IsNextPosting posting_at posting_turn (λ x. x) _ _ _ c.postings_of.ensures.exact c.postings_of.ensures.bytes

pub returns-clause-only : goal.returns-clause-only
returns-clause-only c = λ members is. same_from _ _ members (read_only IsNextPosting posting_at posting_turn (λ x. x) _ _ _ c.postings_of.ensures.exact _ is)

pub returns-clause-few : goal.returns-clause-few
returns-clause-few c = read_few IsNextPosting posting_at posting_turn (λ x. x) _ c.args.at _ c.postings_of.ensures.exact 4 posting_size c.postings_of.ensures.bytes
