use Rattle.std.proofs.Common.{◌<◌, ◌^◌, sym, ◌∙◌, ap, subst, Ok}
use Rattle.std.specs.List.{All}
use Rattle.std.specs.List.Sorted.{IsStrictlyIncreasing}
use Rattle.std.proofs.lemmas.Option.{same_Some}
use Rattle.index_parts.specs.Parts.{part_of, file, HoldsSection}
use Rattle.index_v2.proofs.HeldLaws.{no_row, found_of_row}
use Rattle.index_v2.proofs.RowsFound.{list_found, list_absent, row_found, row_absent}
use Rattle.index_v2.proofs.ListNumbers.{none_rise, none_small}
use Rattle.index_v2.proofs.postings.list_of.Goals as goal

pub returns-in-Some-clause-exact : goal.returns-in-Some-clause-exact
returns-in-Some-clause-exact c = list_found _ _ _ _ _ _ _ _ c.place_of.ensures.ascending c.in-Ok.ensures.found (sym c.in-Some.ensures) c.list_at.ensures.exact

pub returns-in-Err-clause-exact : goal.returns-in-Err-clause-exact
returns-in-Err-clause-exact c = list_absent _ _ _ _ _ c.in-Err.ensures.absent ∙ ap Ok (sym c.new-in-Err.ensures)

pub returns-in-Err-clause-rise : goal.returns-in-Err-clause-rise
returns-in-Err-clause-rise c = subst IsStrictlyIncreasing (sym c.new-in-Err.ensures) none_rise

pub returns-in-Err-clause-small : goal.returns-in-Err-clause-small
returns-in-Err-clause-small c = subst (All (λ n. n < 2 ^ 32)) (sym c.new-in-Err.ensures) none_small

pub returns-in-Some-clause-same : goal.returns-in-Some-clause-same
returns-in-Some-clause-same c = λ index is lies.
    list_found _ c.list_at.result (file index) _ _ _ c.in-Ok.place _ c.place_of.ensures.ascending c.in-Ok.ensures.found (sym c.in-Some.ensures)
    (c.list_at.ensures.same index is (lies _ (row_found _ _ _ _ _ c.place_of.ensures.ascending c.in-Ok.ensures.found (sym c.in-Some.ensures))))

pub returns-in-Some-clause-outside : goal.returns-in-Some-clause-outside
returns-in-Some-clause-outside c = λ row is out.
    let same = same_Some _ _ (sym (row_found _ _ _ _ _ c.place_of.ensures.ascending c.in-Ok.ensures.found (sym c.in-Some.ensures)) ∙ is) in
    rw (← same) (c.list_at.ensures.outside (subst (λ r. HoldsSection (part_of c.args.part) r.offset → ⊥) (sym same) out))

pub returns-in-Err-clause-same : goal.returns-in-Err-clause-same
returns-in-Err-clause-same c = λ index is lies. list_absent (file index) _ _ _ c.in-Err.field-0 c.in-Err.ensures.absent ∙ ap Ok (sym c.new-in-Err.ensures)

pub returns-in-Err-clause-outside : goal.returns-in-Err-clause-outside
returns-in-Err-clause-outside c = λ row is out. no_row _ row (row_absent _ _ _ _ c.in-Err.ensures.absent) is

pub returns-in-Some-clause-found : goal.returns-in-Some-clause-found
returns-in-Some-clause-found c = λ index is.
    found_of_row c.list_at.result index _ _ _ _ (row_found _ _ _ _ _ c.place_of.ensures.ascending c.in-Ok.ensures.found (sym c.in-Some.ensures)) (c.list_at.ensures.found index is)

pub returns-in-Err-clause-found : goal.returns-in-Err-clause-found
returns-in-Err-clause-found c = λ index is. list_absent (file index) _ _ _ c.in-Err.field-0 c.in-Err.ensures.absent ∙ ap Ok (sym c.new-in-Err.ensures)
