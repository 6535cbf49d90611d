use Rattle.std.proofs.Common.{ap, ◌∙◌}
use Rattle.std.specs.Prelude.{slice_get}
use Rattle.index_parts.specs.Parts.{part_of}
use Rattle.index_v2.specs.Held.{Held}
use Rattle.index_v2.proofs.ReadersOf.{reader_holds}
use Rattle.index_v2.proofs.index_reader.IndexReader.symbol.Goals as goal

pub returns-clause-agrees : goal.returns-clause-agrees
returns-clause-agrees c =
    let h : Held = record { bytes = c.self.inside.bytes.now; toc = c.self.inside.toc; symbols = c.self.inside.symbols; rows = c.self.inside.rows; lists = part_of c.self.inside.lists; symbols_size = c.self.inside.symbols_size; rows_size = c.self.inside.rows_size } in
    rw (← c.self.view_is) (λ index list is reads. c.get.ensures.value ∙ ap (slice_get h.symbols) c.from.ensures ∙ ap (λ symbols. slice_get symbols c.args.number) (reader_holds h _ c.self.invariant.0 is.is_opened reads).symbols_are)
