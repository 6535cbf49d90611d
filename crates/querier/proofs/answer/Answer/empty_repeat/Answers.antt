use Rattle.std.proofs.Common.{inr, sym, ◌∙◌}
use Rattle.querier.proofs.answer.Answer.empty_repeat.Goals as goal

pub returns-then-are_same : goal.returns-then-are_same
returns-then-are_same c = inr (sym c.members.ensures ∙ (c.are_same.ensures c.if-are_same.true ∙ c.members-own.ensures), c.empty.ensures)
