use Rattle.std.proofs.Common.{sym, ◌∙◌, arith}
use Rattle.label_sets.specs.Finals.{is_among}
use Rattle.matchers.proofs.Built.{named_first}
use Rattle.matchers.proofs.replicas.first_replica.Goals as goal

pub returns-then-is_among-clause-some : goal.returns-then-is_among-clause-some
returns-then-is_among-clause-some c =
    named_first c.args.replicas.now c.args.matchers.now c.loop-matcher.matcher-index c.matcher-item.result c.loop-matcher.invariant
    ((λ i. is_among (sym c.members.ensures i) (sym c.as_str.ensures i)) ∙ sym c.is_among.ensures ∙ c.if-is_among.true)
    (omega (arith, c.loop-matcher-test.true)) c.matcher-item.is
