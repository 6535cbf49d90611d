use Rattle.std.proofs.Common.{◌≡◌, ap, subst, ◌∙◌, Ok}
use Rattle.std.specs.Prelude.{IfOk}
use Rattle.base.specs.Reading.{Gives}
use Rattle.index_v2.specs.declared.refusal.IndexRefusal.TheVariants.{NoMemory}
use Rattle.index_parts.specs.Parts.{part_of, file}
use Rattle.index_v2.specs.Held.{Held}
use Rattle.index_v2.specs.PostingsLists.{row_of, list_of}
use Rattle.index_v2.proofs.PostingsLaws.{list_read}
use Rattle.index_v2.proofs.ReadersOf.{reader_holds, has_reader, list_there, read_is, only_memory}
use Rattle.index_v2.proofs.index_reader.IndexReader.postings.Goals as goal

pub returns-clause-agrees : goal.returns-clause-agrees
returns-clause-agrees c =
    let h : Held = record { bytes = c.self.inside.bytes.now; toc = c.self.inside.toc; symbols = c.self.inside.symbols; rows = c.self.inside.rows; lists = part_of c.self.inside.lists; symbols_size = c.self.inside.symbols_size; rows_size = c.self.inside.rows_size } in
    rw (← c.self.view_is) (λ index list is reads.
    let held = reader_holds h _ c.self.invariant.0 is.is_opened reads in
    let read = list_read index list is _ _ in
    let found =
    subst (λ rows. IfOk c.list_of.result (λ numbers. list_of (file is.opened.bytes) (row_of rows c.args.name.now c.args.value.now) ≡ Ok numbers)) held.rows_are (c.list_of.ensures.found is.opened.bytes held.lists_are) in
    read_is _ _ _ _ read.1 read.2 found)

pub returns-clause-wanting : goal.returns-clause-wanting
returns-clause-wanting c =
    let h : Held = record { bytes = c.self.inside.bytes.now; toc = c.self.inside.toc; symbols = c.self.inside.symbols; rows = c.self.inside.rows; lists = part_of c.self.inside.lists; symbols_size = c.self.inside.symbols_size; rows_size = c.self.inside.rows_size } in
    rw (← c.self.view_is) (λ index list is has.
    let row = row_of h.rows c.args.name.now c.args.value.now in
    let held = reader_holds h _ c.self.invariant.0 is.is_opened (has_reader h _ _ has) in
    let read = list_read index list is _ _ in
    let there = list_there h _ _ c.self.invariant.0 is.is_opened has ∙ ap (λ rows. list_of (file is.opened.bytes) (row_of rows c.args.name.now c.args.value.now)) held.rows_are in
    only_memory _ _ _ _ (there ∙ read.1) c.list_of.ensures.exact)

pub returns-clause-same : goal.returns-clause-same
returns-clause-same c =
    rw (← c.self.view_is) (λ opened held lies.
    subst (λ rows. Gives NoMemory (λ numbers. numbers) c.list_of.result (list_of (file opened.bytes) (row_of rows c.args.name.now c.args.value.now))) held.rows_are (c.list_of.ensures.same opened.bytes held.lists_are lies))

pub returns-clause-outside : goal.returns-clause-outside
returns-clause-outside c = rw (← c.self.view_is) c.list_of.ensures.outside

pub returns-clause-found : goal.returns-clause-found
returns-clause-found c =
    rw (← c.self.view_is) (λ opened held.
    subst (λ rows. IfOk c.list_of.result (λ numbers. list_of (file opened.bytes) (row_of rows c.args.name.now c.args.value.now) ≡ Ok numbers)) held.rows_are (c.list_of.ensures.found opened.bytes held.lists_are))
