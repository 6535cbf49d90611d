use Rattle.std.proofs.Common.{ap, List, ℕ}
use Rattle.base.specs.Reading.{refused_as}
use Rattle.index_parts.specs.PostingsReading.{postings_at}
use Rattle.index_parts.specs.Parts.{part_of, known}
use Rattle.index_v2.specs.Opening.{refused_in}
use Rattle.index_v2.proofs.ListNumbers.{numbers_rise, numbers_small}
use Rattle.index_v2.proofs.HeldLaws.{known_is, section_refused, section_outside, not_refused}
use Rattle.index_v2.proofs.postings.list_at.Goals as goal

pub returns-in-Ok-clause-rise : goal.returns-in-Ok-clause-rise
returns-in-Ok-clause-rise c = numbers_rise _ _ _ (c.in-Ok.ensures.found (known (part_of c.args.part)) (known_is _))

pub returns-in-Ok-clause-small : goal.returns-in-Ok-clause-small
returns-in-Ok-clause-small c = numbers_small _ _ _ (c.in-Ok.ensures.found (known (part_of c.args.part)) (known_is _))

pub returns-in-Ok-clause-same : goal.returns-in-Ok-clause-same
returns-in-Ok-clause-same c = λ index is lies. ap (refused_as (refused_in 5)) (c.in-Ok.ensures.same index is lies)

pub returns-in-Ok-clause-outside : goal.returns-in-Ok-clause-outside
returns-in-Ok-clause-outside c = λ out. not_refused c.in-Ok.numbers _ _ (c.in-Ok.ensures.outside out)

pub returns-in-Err-clause-same : goal.returns-in-Err-clause-same
returns-in-Err-clause-same c = λ index is lies. section_refused 5 (postings_at index c.args.at) c.in-Err.refusal c.refused_in.result c.refused_in.ensures (c.in-Err.ensures.same index is lies)

pub returns-in-Err-clause-outside : goal.returns-in-Err-clause-outside
returns-in-Err-clause-outside c = λ out. section_outside {X = List ℕ} 5 c.args.at c.in-Err.refusal c.refused_in.result c.refused_in.ensures (c.in-Err.ensures.outside out)

pub returns-in-Err-clause-exact : goal.returns-in-Err-clause-exact
returns-in-Err-clause-exact c = section_refused 5 _ _ _ c.refused_in.ensures c.in-Err.ensures.exact
