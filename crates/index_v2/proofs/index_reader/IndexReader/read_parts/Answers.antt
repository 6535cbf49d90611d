use Rattle.index_v2.proofs.HeldLaws.{held_of_slices, held_of_bytes}
use Rattle.index_v2.proofs.index_reader.IndexReader.read_parts.Goals as goal

pub returns-clause-found : goal.returns-clause-found
returns-clause-found c = λ opened is toc slices.
    held_of_slices c.args.parts opened c.in_ok-symbols.symbols c.in_ok-rows.field-0 is toc slices (c.in_ok-symbols.ensures.found opened.bytes slices.symbols_are) (c.in_ok-rows.ensures.found opened.bytes slices.table_is)

pub returns-clause-stands : goal.returns-clause-stands
returns-clause-stands c = λ index slices.
    held_of_bytes c.args.parts index c.in_ok-symbols.symbols c.in_ok-rows.field-0 slices (c.in_ok-symbols.ensures.found index slices.symbols_are) (c.in_ok-rows.ensures.found index slices.table_is)
