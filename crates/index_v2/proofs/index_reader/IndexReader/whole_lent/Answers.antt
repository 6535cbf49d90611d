use Rattle.index_parts.specs.Parts.{part_of}
use Rattle.index_v2.specs.Held.{Held}
use Rattle.index_v2.proofs.WholeGives.{gives_whole}
use Rattle.index_v2.proofs.index_reader.IndexReader.whole_lent.Goals as goal

pub returns : goal.returns
returns c =
    let h : Held = record { bytes = c.self.inside.bytes.now; toc = c.self.inside.toc; symbols = c.self.inside.symbols; rows = c.self.inside.rows; lists = part_of c.self.inside.lists; symbols_size = c.self.inside.symbols_size; rows_size = c.self.inside.rows_size } in
    rw (← c.self.view_is) (gives_whole h _ c.self.invariant.0 c.self.invariant.1 (c.whole_lent.ensures h.symbols_size h.rows_size))
