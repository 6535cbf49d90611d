use Rattle.std.proofs.Common.{[], refl}
use Rattle.index_v2.specs.PostingsLists.{is_row_of}
use Rattle.series_selection.proofs.OneRow.{nothing_given, nothing_stands, given_by, rises_by, stands_by}
use Rattle.series_selection.proofs.rows.listed_in.Goals as goal

pub returns-in-Some-clause-gives : goal.returns-in-Some-clause-gives
returns-in-Some-clause-gives c = given_by c.args.index.now (is_row_of c.args.name.now c.args.value.now) c.in-Some.place c.in-Some.ensures.found [] refl (λ x. x) c.read_row.result c.read_row.ensures.read c.read_row.ensures.refused

pub returns-in-Some-clause-rises : goal.returns-in-Some-clause-rises
returns-in-Some-clause-rises c = rises_by c.args.index.now (is_row_of c.args.name.now c.args.value.now) c.in-Some.place c.in-Some.ensures.found [] refl (λ x. x) c.read_row.result c.read_row.ensures.read

pub returns-in-Some-clause-stand : goal.returns-in-Some-clause-stand
returns-in-Some-clause-stand c = stands_by c.args.index.now (is_row_of c.args.name.now c.args.value.now) c.in-Some.place c.in-Some.ensures.found [] refl (λ x. x) c.read_row.result c.read_row.ensures.read

pub returns-in-None-clause-gives : goal.returns-in-None-clause-gives
returns-in-None-clause-gives c = nothing_given c.args.index.now (is_row_of c.args.name.now c.args.value.now) (c.in-None.ensures.absent refl) c.new.result c.new.ensures

pub returns-in-None-clause-stand : goal.returns-in-None-clause-stand
returns-in-None-clause-stand c = nothing_stands c.args.index.now (is_row_of c.args.name.now c.args.value.now) (c.in-None.ensures.absent refl)
