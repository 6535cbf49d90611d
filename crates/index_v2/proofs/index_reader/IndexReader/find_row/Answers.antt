use Rattle.std.proofs.Common.{sym, subst, ◌∙◌}
use Rattle.std.specs.Prelude.{IfSome}
use Rattle.index_v2.specs.PostingsLists.{is_row_of}
use Rattle.index_parts.specs.RowOrder.{IsAlone}
use Rattle.index_v2.proofs.RowsFound.{found_alone, found_none}
use Rattle.index_v2.proofs.index_reader.IndexReader.find_row.Goals as goal

pub returns-clause-found : goal.returns-clause-found
returns-clause-found c = rw (← c.self.view_is)
    (subst (λ o. IfSome o (λ place. IsAlone (is_row_of c.args.name.now c.args.value.now) c.self.inside.rows place)) (sym c.ok.ensures.value)
    (found_alone _ _ _ _ c.place_of.ensures.ascending c.place_of.ensures.found))

pub returns-clause-absent : goal.returns-clause-absent
returns-clause-absent c = rw (← c.self.view_is)
    (λ none. found_none c.place_of.result c.self.inside.rows c.args.name.now c.args.value.now c.place_of.ensures.absent (sym c.ok.ensures.value ∙ none))
