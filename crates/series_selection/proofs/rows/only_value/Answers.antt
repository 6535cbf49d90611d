use Rattle.series_selection.proofs.OneRow.{equal_found, differs_found}
use Rattle.series_selection.proofs.rows.only_value.Goals as goal

pub returns-in-Equal : goal.returns-in-Equal
returns-in-Equal c = equal_found (λ one. one.0.now) (λ one. one.1) c.some_text.result c.args.condition.now c.in-Equal.text c.in-Equal.is c.some_text.ensures.text c.some_text.ensures.wanted c.some_text.ensures.some

pub returns-in-NotEqual : goal.returns-in-NotEqual
returns-in-NotEqual c = differs_found (λ one. one.0.now) (λ one. one.1) c.some_text-in-NotEqual.result c.args.condition.now c.in-NotEqual.text c.in-NotEqual.is c.some_text-in-NotEqual.ensures.text c.some_text-in-NotEqual.ensures.wanted c.some_text-in-NotEqual.ensures.some
