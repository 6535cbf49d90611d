use Rattle.index_parts.specs.declared.postings_row.PostingsRow.{PostingsRow}
use Rattle.index_parts.specs.Parts.{part_of}
use Rattle.index_v2.specs.Held.{Held}
use Rattle.index_v2.proofs.ReadersOf.{reader_holds, has_reader, row_is, row_agrees, row_wanting}
use Rattle.index_v2.proofs.index_reader.IndexReader.row_numbers.Goals as goal

pub returns-clause-agrees : goal.returns-clause-agrees
returns-clause-agrees c =
    let h : Held = record { bytes = c.self.inside.bytes.now; toc = c.self.inside.toc; symbols = c.self.inside.symbols; rows = c.self.inside.rows; lists = part_of c.self.inside.lists; symbols_size = c.self.inside.symbols_size; rows_size = c.self.inside.rows_size } in
    let one : PostingsRow = record { name = c.unwrap-row.result.0.now; value = c.unwrap-row.result.1.now; offset = c.unwrap-row.result.2 } in
    let at = row_is _ _ _ _ c.unwrap-row.ensures c.get.ensures in
    rw (← c.self.view_is) (λ index list is reads.
    let holds = reader_holds h _ c.self.invariant.0 is.is_opened reads in
    row_agrees h index list is _ _ at holds c.list_at.result (c.list_at.ensures.found is.opened.bytes holds.lists_are))

pub returns-clause-wanting : goal.returns-clause-wanting
returns-clause-wanting c =
    let h : Held = record { bytes = c.self.inside.bytes.now; toc = c.self.inside.toc; symbols = c.self.inside.symbols; rows = c.self.inside.rows; lists = part_of c.self.inside.lists; symbols_size = c.self.inside.symbols_size; rows_size = c.self.inside.rows_size } in
    let one : PostingsRow = record { name = c.unwrap-row.result.0.now; value = c.unwrap-row.result.1.now; offset = c.unwrap-row.result.2 } in
    let at = row_is _ _ _ _ c.unwrap-row.ensures c.get.ensures in
    rw (← c.self.view_is) (λ index list is has.
    let holds = reader_holds h _ c.self.invariant.0 is.is_opened (has_reader h _ _ has) in
    row_wanting h index list is _ _ at holds c.list_at.result c.self.invariant.0 has c.list_at.ensures.exact)
