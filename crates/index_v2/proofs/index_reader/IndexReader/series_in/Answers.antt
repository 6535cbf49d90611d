use Rattle.std.proofs.Common.{ap, ◌∙◌, sym}
use Rattle.index_parts.proofs.ListLaws.{only_from, same_from}
use Rattle.index_parts.specs.Parts.{part_of}
use Rattle.index_v2.specs.Held.{Held}
use Rattle.index_v2.specs.SeriesLabels.{numbered_at}
use Rattle.index_v2.proofs.LabelLaws.{numbered_again}
use Rattle.index_v2.proofs.ReadersOf.{reader_holds}
use Rattle.index_v2.proofs.index_reader.IndexReader.series_in.Goals as goal

pub returns-clause-agrees : goal.returns-clause-agrees
returns-clause-agrees c =
    let h : Held = record { bytes = c.self.inside.bytes.now; toc = c.self.inside.toc; symbols = c.self.inside.symbols; rows = c.self.inside.rows; lists = part_of c.self.inside.lists; symbols_size = c.self.inside.symbols_size; rows_size = c.self.inside.rows_size } in
    rw (← c.self.view_is) (λ index list is reads part lies series has.
    let held = reader_holds h _ c.self.invariant.0 is.is_opened reads in
    let read = ap (λ bytes. numbered_at bytes h.symbols c.args.number) (sym is.bytes_are) ∙ ap (λ symbols. numbered_at is.opened.bytes symbols c.args.number) held.symbols_are ∙ numbered_again _ _ _ _ (is.series_are.stand c.args.number series has) in
    same_from _ _ _ (only_from _ _ _ _ _ read (c.series_of.ensures.same index part lies)))
