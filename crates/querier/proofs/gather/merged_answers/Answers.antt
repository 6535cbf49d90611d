use Rattle.querier.proofs.ToldOnce.{is_merged, is_deduplicated}
use Rattle.querier.proofs.gather.merged_answers.Goals as goal

pub returns-clause-merged : goal.returns-clause-merged
returns-clause-merged g c = is_merged c.args.answers c.into_vec.result.items c.in_ok-told.told.items c.merged_all.result c.into_vec.ensures c.in_ok-told.ensures c.merged_all.ensures

pub returns-clause-deduplicated : goal.returns-clause-deduplicated
returns-clause-deduplicated g c = is_deduplicated c.args.answers c.into_vec.result.items c.in_ok-told.told.items c.merged_all.result c.into_vec.ensures c.in_ok-told.ensures c.merged_all.ensures
