use Rattle.std.proofs.Common.{option_copied, sym, ap, ◌∙◌}
use Rattle.script_core.specs.Lines.{question_at}
use Rattle.std.proofs.lemmas.Result.{err_from_is_err_and}
use Rattle.script_core.specs.View.{asked_of, state_of}
use Rattle.script_core.proofs.GivenUpLines.{query_refused}
use Rattle.script_core.proofs.phase_lines.query_line.Goals as goal

pub returns-in_err-selector : goal.returns-in_err-selector
unfolding state_of
returns-in_err-selector c =
    let left = option_copied c.args.fields in
    let asked = ap (λ begun. question_at begun left) (sym c.is_some.ensures) ∙ c.in_ok-asked.ensures in
    let p = err_from_is_err_and c.from_residual-in_err-selector.result c.from_residual-in_err-selector.ensures.1 in
    rw (p.1, p.2) (query_refused (state_of c.args.draft.now) c.args.number left (asked_of c.in_ok-asked.asked) c.in_err-selector.field-0.0 asked c.in_err-selector.ensures)
