use Rattle.std.proofs.Common.{rules}
use Rattle.vertical_merge.proofs.Joining.{triples-push, triples-none}
use Rattle.vertical_merge.proofs.merger.Merger.take.Goals as goal

pub returns-in_ok-push-clause-ok : goal.returns-in_ok-push-clause-ok
returns-in_ok-push-clause-ok c = triples-push _ _ _ _ c.self.view_is c.in_ok-push.ensures.items

pub returns-else-not-is_empty-clause-ok : goal.returns-else-not-is_empty-clause-ok
returns-else-not-is_empty-clause-ok c = triples-none _ _ _ (c.is_empty.ensures.0 (search rules))
