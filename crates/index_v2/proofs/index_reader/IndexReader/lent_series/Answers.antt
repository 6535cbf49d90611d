use Rattle.std.proofs.Common.{subst}
use Rattle.index_parts.specs.IndexFile.{IsSeriesOf}
use Rattle.index_parts.specs.Parts.{part_of}
use Rattle.index_v2.specs.Held.{Held}
use Rattle.index_v2.proofs.PostingsLaws.{opened_is}
use Rattle.index_v2.proofs.HeldLaws.{opened_from}
use Rattle.index_v2.proofs.FewLaws.{if_ok, series_few}
use Rattle.index_v2.proofs.index_reader.IndexReader.lent_series.Goals as goal

pub returns-clause-only : goal.returns-clause-only
returns-clause-only c = rw (← c.self.view_is) c.lent_series_of.ensures.only

pub returns-clause-few : goal.returns-clause-few
returns-clause-few c = rw (← c.self.view_is) (if_ok _ _ _ (λ series is. series_few _ _ c.args.number series is) c.lent_series_of.ensures.found)

pub returns-clause-agrees : goal.returns-clause-agrees
returns-clause-agrees c =
    let h : Held = record { bytes = c.self.inside.bytes.now; toc = c.self.inside.toc; symbols = c.self.inside.symbols; rows = c.self.inside.rows; lists = part_of c.self.inside.lists; symbols_size = c.self.inside.symbols_size; rows_size = c.self.inside.rows_size } in
    rw (← c.self.view_is) (λ list is series has. c.lent_series_of.ensures.only series
    (subst (λ x. IsSeriesOf x.bytes x.symbols c.args.number series) (opened_is _ (opened_from h c.self.invariant.0 _ is) list is) (is.series_are.stand c.args.number series has)))
