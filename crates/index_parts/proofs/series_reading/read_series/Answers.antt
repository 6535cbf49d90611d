use Rattle.index_parts.specs.declared.refusal.PartRefusal.TheVariants.{NoMemory}
use Rattle.index_parts.proofs.ListLaws.{found_from, only_from, same_from}
use Rattle.index_parts.proofs.SeriesLaws.{series_found, series_again, series_few}
use Rattle.index_parts.proofs.series_reading.read_series.Goals as goal

pub returns-clause-found : goal.returns-clause-found
returns-clause-found c = found_from _ _ _ _ _ (λ series e. series_found c.args.index.now c.args.at series c.series_of.ensures.bytes e) c.series_of.ensures.exact

pub returns-clause-only : goal.returns-clause-only
returns-clause-only c = λ series is. same_from NoMemory c.series_of.result series (only_from _ _ _ _ _ (series_again _ _ _ is) c.series_of.ensures.exact)

pub returns-clause-few : goal.returns-clause-few
returns-clause-few c = found_from _ _ _ _ _ (λ series e. series_few c.args.index.now c.args.at series (series_found _ _ _ c.series_of.ensures.bytes e)) c.series_of.ensures.exact
