use Rattle.std.proofs.Common.{◌≡◌, ℕ, Ok, subst}
use Rattle.ulid_core.specs.UlidText.{text_of, ulid_of}
use Rattle.breach_finding.proofs.Changes.{is_written}
use Rattle.breach_finding.proofs.standing.has_text.Goals as goal

pub returns : goal.returns
returns c = is_written c.args.key.now c.requires (subst (λ (u : ℕ). ulid_of (text_of u) ≡ Ok u) c.ulid.ensures c.text_is_read.ensures)
