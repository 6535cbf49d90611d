use Rattle.std.proofs.Common.{inr, sym, ◌∙◌}
use Rattle.querier.proofs.compare_way.compare_in_turn.Goals as goal

pub returns-then-all_have : goal.returns-then-all_have
returns-then-all_have c i d below = inr (sym c.members.ensures ∙ c.all_have.ensures c.if-all_have.true i d below, c.empty_all.ensures i d below)
