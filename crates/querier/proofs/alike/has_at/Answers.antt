use Rattle.std.proofs.Common.{sym, ap, ◌∙◌}
use Rattle.std.specs.Prelude.{Some}
use Rattle.std.specs.Option.{option_copied}
use Rattle.querier.proofs.alike.has_at.Goals as goal

pub returns-in-Some : goal.returns-in-Some
returns-in-Some c e = sym (sym (ap option_copied c.in-Some.is) ∙ c.get.ensures) ∙ ap Some (sym (c.is_same.ensures e))
