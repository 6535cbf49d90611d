use Rattle.std.proofs.Common.{sym, subst}
use Rattle.base.specs.Reading.{Answers}
use Rattle.xor_chunks.proofs.spanning.pass_others.Goals as goal

pub returns : goal.returns
returns c = subst (λ r. Answers (λ x. (x.0.time, x.1)) c.pass_each.result r) (sym c.pass_most-left.ensures) c.pass_each.ensures
