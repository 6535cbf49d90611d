use Rattle.std.proofs.Common.{ap, sym, ◌∙◌}
use Rattle.base.specs.Decimal.{unsigned_of}
use Rattle.base.proofs.Parsed.{unsigned_found_text, unsigned_again, unsigned_large, unsigned_found_large, unsigned_found_none, unsigned_none}
use Rattle.base.proofs.number.read_unsigned.Goals as goal

pub returns-clause-found : goal.returns-clause-found
returns-clause-found c = unsigned_found_text _ _ c.unsigned_exact.ensures

pub returns-clause-only : goal.returns-clause-only
returns-clause-only c = λ n small is. c.unsigned_exact.ensures ∙ ap unsigned_of is ∙ unsigned_again n small

pub returns-clause-too_large : goal.returns-clause-too_large
returns-clause-too_large c = (λ e. unsigned_found_large c.args.text.now (sym c.unsigned_exact.ensures ∙ e), λ p. c.unsigned_exact.ensures ∙ ap unsigned_of p.2 ∙ unsigned_large _ p.1)

pub returns-clause-no_number : goal.returns-clause-no_number
returns-clause-no_number c = (λ e. unsigned_found_none c.args.text.now (sym c.unsigned_exact.ensures ∙ e), λ none. c.unsigned_exact.ensures ∙ unsigned_none _ none)
