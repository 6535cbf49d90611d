use Rattle.index_parts.proofs.ListLaws.{found_from, only_from}
use Rattle.index_v2.specs.declared.refusal.IndexRefusal.TheVariants.{NoMemory}
use Rattle.index_v2.specs.SeriesLabels.{numbered_at}
use Rattle.index_v2.proofs.LabelLaws.{numbered_found, numbered_again}
use Rattle.index_v2.proofs.numbered.lent_series_of.Goals as goal

pub returns-clause-found : goal.returns-clause-found
returns-clause-found c =
    found_from _ _ _ _ _
    (λ s e. numbered_found c.args.index.now c.args.symbols.now c.args.number s c.lent_at.ensures.bytes e) c.lent_at.ensures.exact

pub returns-clause-only : goal.returns-clause-only
returns-clause-only c =
    λ s is. only_from NoMemory (λ s. s) c.lent_at.result (numbered_at c.args.index.now c.args.symbols.now c.args.number) s
    (numbered_again _ _ _ s is) c.lent_at.ensures.exact
