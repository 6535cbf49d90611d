use Rattle.std.proofs.Common.{sym, ◌∙◌}
use Rattle.ulid_core.proofs.UlidLaws.{found_of, ulid_of-only, length_refused, character_refused, large_refused}
use Rattle.ulid_core.proofs.ulid.Ulid.read.Goals as goal

pub returns-clause-found : goal.returns-clause-found
returns-clause-found c = found_of c.args.text.now c.read_ulid.result c.read_ulid.ensures

pub returns-clause-only : goal.returns-clause-only
returns-clause-only c = λ ulid is. c.read_ulid.ensures ∙ ulid_of-only c.args.text.now ulid is

pub returns-clause-length : goal.returns-clause-length
returns-clause-length c = let p = length_refused c.args.text.now in (λ e. p.0 (sym c.read_ulid.ensures ∙ e), λ h. c.read_ulid.ensures ∙ p.1 h)

pub returns-clause-character : goal.returns-clause-character
returns-clause-character c = λ place. let p = character_refused c.args.text.now place in (λ e. p.0 (sym c.read_ulid.ensures ∙ e), λ h. c.read_ulid.ensures ∙ p.1 h)

pub returns-clause-large : goal.returns-clause-large
returns-clause-large c = let p = large_refused c.args.text.now in (λ e. p.0 (sym c.read_ulid.ensures ∙ e), λ h. c.read_ulid.ensures ∙ p.1 h)
