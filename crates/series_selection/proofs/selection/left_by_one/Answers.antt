use Rattle.std.proofs.Common.{sym, ap, subst, ◌∙◌}
use Rattle.std.specs.List.Sorted.{IsNonDecreasing}
use Rattle.index_v2.proofs.WholeLoops.{gives_stop}
use Rattle.series_selection.specs.SelectionSteps.{numbers_at, ListsStand}
use Rattle.series_selection.proofs.KeptNumbers.{never_falls}
use Rattle.series_selection.proofs.OneRow.{named_rows}
use Rattle.series_selection.proofs.Answered.{rows_left, rows_refused}
use Rattle.series_selection.proofs.selection.left_by_one.Goals as goal

pub kept_numbers-requires-clause-others_rise : goal.kept_numbers-requires-clause-others_rise
kept_numbers-requires-clause-others_rise c = subst IsNonDecreasing (sym c.members.ensures) (never_falls _ c.in_ok-listed.ensures.rises)

pub returns-in_err-listed-clause-gives : goal.returns-in_err-listed-clause-gives
returns-in_err-listed-clause-gives c =
    gives_stop _ _ c.from_residual.result c.in_err-listed.field-0.0 _ _ c.from_residual.ensures.1 c.in_err-listed.ensures.gives
    (λ refused. rows_refused _ _ _ _ _ (ap (numbers_at c.args.index.now.lists) (sym (named_rows c.args.matcher.now c.as_str.result.now c.args.value.now c.args.wanted c.args.index.now.rows c.as_str.ensures c.requires.decided)) ∙ refused))

pub returns-clause-gives : goal.returns-clause-gives
returns-clause-gives c =
    rows_left c.args.index.now.lists c.args.index.now.rows c.args.matcher.now c.args.numbers _ _ _ _ _
    (ap (numbers_at c.args.index.now.lists) (sym (named_rows c.args.matcher.now c.as_str.result.now c.args.value.now c.args.wanted c.args.index.now.rows c.as_str.ensures c.requires.decided)) ∙ c.in_ok-listed.ensures.gives)
    c.members.ensures c.members-2.ensures c.requires.decided.wanted_is c.in_ok-kept_numbers.ensures.value

pub returns-clause-stand : goal.returns-clause-stand
returns-clause-stand c = subst (ListsStand c.args.index.now) (named_rows c.args.matcher.now c.as_str.result.now c.args.value.now c.args.wanted c.args.index.now.rows c.as_str.ensures c.requires.decided) c.in_ok-listed.ensures.stand
