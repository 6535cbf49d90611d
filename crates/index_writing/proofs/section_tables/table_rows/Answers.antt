use Rattle.std.proofs.Common.{[], ◌∷◌, ◌++◌, refl, ap, ◌∙◌, arith}
use Rattle.std.specs.List.{sum_by}
use Rattle.index_writing.specs.WriteSteps.{row_size}
use Rattle.index_writing.proofs.TableRows.{table_start, table_step, table_end, size_first, size_more, table_stop}
use Rattle.index_writing.proofs.section_tables.table_rows.Goals as goal

pub loop-place-init : goal.loop-place-init
loop-place-init c =
    let pushed = c.in_ok-push.ensures.ok ∙ ap (λ l. l ++ c.in_ok-row_of_all.field-0 ∷ []) c.new-table.ensures in
    (table_start _ _ _ _ _ c.requires c.in_ok-row_of_all.ensures pushed, size_first _ _ _ c.in_ok-row_of_all.ensures pushed, omega arith)

pub returns-in_err-size-clause-large : goal.returns-in_err-size-clause-large
returns-in_err-size-clause-large c =
    table_stop _ _ _ _ _ _ _ _ _ _ _ _ c.from_residual-in_err-size.ensures.1 c.in_err-size.ensures c.loop-place.invariant.1 c.loop-place.invariant.0 c.loop-place-test.true c.requires c.index-rows-place.is refl c.in_ok-made.ensures

pub loop-place-preserved : goal.loop-place-preserved
loop-place-preserved c = (
  table_step _ _ _ _ _ _ _ _ _ _ c.loop-place.invariant.0 c.loop-place-test.true c.requires c.index-rows-place.is refl c.in_ok-made.ensures c.in_ok-push-2.ensures.ok,
  size_more _ _ _ _ _ c.loop-place.invariant.1 c.in_ok-size.ensures.0 c.in_ok-push-2.ensures.ok,
  (let grown = c.in_ok-size.ensures in omega arith),
)

pub returns-clause-rows : goal.returns-clause-rows
returns-clause-rows c = table_end _ _ _ _ _ _ c.loop-place.invariant.0 c.loop-place-test.false

pub returns-clause-fit : goal.returns-clause-fit
returns-clause-fit c =
    let whole = table_end _ _ _ _ c.loop-place.table _ c.loop-place.invariant.0 c.loop-place-test.false in
    omega (arith, ap (sum_by row_size) whole, c.loop-place.invariant.1, c.loop-place.invariant.2)
