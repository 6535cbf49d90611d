use Rattle.std.proofs.Common.{ap, sym, ◌∙◌}
use Rattle.base.specs.Decimal.{signed_of}
use Rattle.base.proofs.ParsedSigned.{signed_found_text, signed_again, signed_large, signed_found_large, signed_found_none, signed_none}
use Rattle.base.proofs.number.read_signed.Goals as goal

pub returns-clause-found : goal.returns-clause-found
returns-clause-found c = signed_found_text _ _ c.signed_exact.ensures

pub returns-clause-only : goal.returns-clause-only
returns-clause-only c = λ n small is. c.signed_exact.ensures ∙ ap signed_of is ∙ signed_again n small

pub returns-clause-too_large : goal.returns-clause-too_large
returns-clause-too_large c = (λ e. signed_found_large c.args.text.now (sym c.signed_exact.ensures ∙ e), λ p. c.signed_exact.ensures ∙ ap signed_of p.2 ∙ signed_large _ p.1)

pub returns-clause-no_number : goal.returns-clause-no_number
returns-clause-no_number c = (λ e. signed_found_none c.args.text.now (sym c.signed_exact.ensures ∙ e), λ none. c.signed_exact.ensures ∙ signed_none _ none)
