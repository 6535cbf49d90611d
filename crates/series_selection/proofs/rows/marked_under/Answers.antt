use Rattle.std.proofs.Common.{ℕ, List, Bool, true, false, length, sym, ap, subst, ◌∙◌, arith}
use Rattle.std.proofs.lemmas.List.{length-map}
use Rattle.base.specs.Lists.{is_one_of}
use Rattle.index_parts.specs.declared.postings_row.PostingsRow.{PostingsRow}
use Rattle.index_parts.specs.RowOrder.{BeginsAt}
use Rattle.index_v2.proofs.ValuesListed.{same_name, other_name, listed_none}
use Rattle.index_v2.proofs.WholeLoops.{stop_refused}
use Rattle.series_selection.proofs.Walk.{decides_when}
use Rattle.series_selection.proofs.MarkedRows.{rows_start, rows_past, rows_on, rows_stopped, rows_stop, rows_end}
use Rattle.series_selection.proofs.rows.marked_under.Goals as goal
use Rattle.series_selection.proofs.rows.marked_under.Goals.{then-accepts-wanted+in_ok-list, else-accepts-wanted}

pub loop-place-init : goal.loop-place-init
loop-place-init c =
    let begins = subst (λ (n : List ℕ). BeginsAt c.args.index.now.rows n c.first_row-place.result) c.as_str-name.ensures c.first_row-place.ensures.begins in
    (begins, rows_start c.args.index.now c.args.matcher.now _ c.args.numbers.now _ c.in_ok-marks.ensures begins, c.requires.asks)

pub mark-requires-clause-as_many : goal.mark-requires-clause-as_many
mark-requires-clause-as_many c =
    let far = c.loop-place.invariant.1 in
    ap (λ (l : List Bool). length l) far.marks_are ∙ length-map c.args.numbers.now (λ n. is_one_of far.listed n)

pub loop-place-preserved : goal.loop-place-preserved
loop-place-preserved c =
    let held = c.args.index.now in
    let m = c.args.matcher.now in
    let row : PostingsRow = record { name = c.in-Some.row.0.now; value = c.in-Some.row.1.now; offset = c.in-Some.row.2 } in
    let far = c.loop-place.invariant.1 in
    let asks = c.loop-place.invariant.2 in
    let name = same_name _ _ _ c.ne.ensures c.if-ne.false ∙ c.as_str-name.ensures in
    elim c.if-accepts-wanted.branch [
      | then-accepts-wanted+in_ok-list w ↦ (
        c.loop-place.invariant.0,
        rows_on held m _ c.args.numbers.now c.loop-place.place _ row far c.in-Some.ensures _ w.in_ok-list.list _ (decides_when m row c.accepts.result c.args.wanted true _ asks name c.accepts.ensures.value c.requires.decides w.if-accepts-wanted.true) w.in_ok-list.ensures.read w.members.ensures (λ full e. ap (λ v. v.items) w.marks-is ∙ w.mark.ensures full e),
        c.accepts.ensures.same ∙ asks,
      )
      | else-accepts-wanted w ↦ (
        c.loop-place.invariant.0,
        rows_past held m _ c.args.numbers.now c.loop-place.place _ row far c.in-Some.ensures _ (decides_when m row c.accepts.result c.args.wanted false _ asks name c.accepts.ensures.value c.requires.decides w.if-accepts-wanted.false) (ap (λ v. v.items) w.marks-is),
        c.accepts.ensures.same ∙ asks,
      )
    ]

pub returns-in_err-list-clause-marked : goal.returns-in_err-list-clause-marked
returns-in_err-list-clause-marked c =
    let m = c.args.matcher.now in
    let row : PostingsRow = record { name = c.in-Some.row.0.now; value = c.in-Some.row.1.now; offset = c.in-Some.row.2 } in
    let name = same_name _ _ _ c.ne.ensures c.if-ne.false ∙ c.as_str-name.ensures in
    stop_refused _ c.from_residual-in_err-list.result c.in_err-list.field-0.0 _ _ c.from_residual-in_err-list.ensures.1 c.in_err-list.ensures.refused
    (λ refused. rows_stopped c.args.index.now m _ c.args.numbers.now c.loop-place.place _ row c.loop-place.invariant.1 c.in-Some.ensures _ (decides_when m row c.accepts.result c.args.wanted true _ c.loop-place.invariant.2 name c.accepts.ensures.value c.requires.decides c.if-accepts-wanted.true) refused)

pub returns-then-ne-clause-marked : goal.returns-then-ne-clause-marked
returns-then-ne-clause-marked c = (rows_stop c.args.index.now c.args.matcher.now _ c.args.numbers.now c.loop-place.place _ c.loop-place.invariant.1 _ c.first_row-place.ensures.ascending c.loop-place.invariant.0 (sym c.in-Some.ensures) (λ same. other_name _ _ _ c.ne.ensures c.if-ne.true (same ∙ sym c.as_str-name.ensures))).0

pub returns-then-ne-clause-stand : goal.returns-then-ne-clause-stand
returns-then-ne-clause-stand c = (rows_stop c.args.index.now c.args.matcher.now _ c.args.numbers.now c.loop-place.place _ c.loop-place.invariant.1 _ c.first_row-place.ensures.ascending c.loop-place.invariant.0 (sym c.in-Some.ensures) (λ same. other_name _ _ _ c.ne.ensures c.if-ne.true (same ∙ sym c.as_str-name.ensures))).1

pub returns-in_default-clause-marked : goal.returns-in_default-clause-marked
returns-in_default-clause-marked c = listed_none c.args.index.now.rows c.args.matcher.now.name c.loop-place.place (omega arith) (sym c.in_default.ensures)

pub returns-in_default-clause-stand : goal.returns-in_default-clause-stand
returns-in_default-clause-stand c = listed_none c.args.index.now.rows c.args.matcher.now.name c.loop-place.place (omega arith) (sym c.in_default.ensures)

pub returns-clause-marked : goal.returns-clause-marked
returns-clause-marked c = (rows_end c.args.index.now c.args.matcher.now _ c.args.numbers.now c.loop-place.place _ c.loop-place.invariant.1 (omega arith)).0

pub returns-clause-stand : goal.returns-clause-stand
returns-clause-stand c = (rows_end c.args.index.now c.args.matcher.now _ c.args.numbers.now c.loop-place.place _ c.loop-place.invariant.1 (omega arith)).1
