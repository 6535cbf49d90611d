use Rattle.std.proofs.Common.{sym, true≢false}
use Rattle.store_ranges.specs.Caches.{range}
use Rattle.store_ranges.proofs.SameRanges.{there}
use Rattle.store_ranges.proofs.cache.IndexCache.keep.Goals as goal

pub returns-in_err-put-clause-again : goal.returns-in_err-put-clause-again
returns-in_err-put-clause-again c = λ some. absurd (true≢false (sym (c.in_err-put.ensures.succeeds (there (range c.args.key c.args.from c.args.len) _ some))))
