use Rattle.std.proofs.lemmas.Result.{IfOk-weaker}
use Rattle.vertical_merge.proofs.Laws.{deduplicates, only_one}
use Rattle.vertical_merge.proofs.merger.Merger.finish.Goals as goal

pub returns-clause-deduplicated : goal.returns-clause-deduplicated
returns-clause-deduplicated c = IfOk-weaker c.merge.result _ _ (λ series is. deduplicates _ c.args.self series c.self.view_is is) c.merge.ensures

pub returns-clause-only : goal.returns-clause-only
returns-clause-only c = IfOk-weaker c.merge.result _ _ (λ series is. only_one _ c.args.self series c.self.view_is is) c.merge.ensures
