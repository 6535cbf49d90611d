use Rattle.index_parts.proofs.ListLaws.{only_from, same_from}
use Rattle.index_v2.specs.declared.refusal.IndexRefusal.TheVariants.{NoMemory}
use Rattle.index_v2.proofs.HeldLaws.{file_is}
use Rattle.index_v2.proofs.LabelLaws.{numbered_again}
use Rattle.index_v2.proofs.numbered.series_of_file.Goals as goal

pub returns-clause-found : goal.returns-clause-found
returns-clause-found c = c.series_of.ensures.found c.args.index.now (file_is _)

pub returns-clause-only : goal.returns-clause-only
returns-clause-only c =
    λ s is. same_from NoMemory c.series_of.result s (only_from _ _ _ _ s
    (numbered_again _ _ _ s is) c.series_of.ensures.exact)
