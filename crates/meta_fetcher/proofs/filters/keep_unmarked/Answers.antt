use Rattle.std.proofs.Common.{rules}
use Rattle.std.proofs.lemmas.Fn.{filter_same}
use Rattle.sync_filters.specs.Filters.{is_unmarked}
use Rattle.meta_fetcher.proofs.filters.keep_unmarked.Goals as goal

pub returns : goal.returns
returns c = filter_same _ (λ block. is_unmarked block c.args.delay) _ (λ block b f' k. search rules) _ _ c.retain.ensures.filtered
