use Rattle.std.proofs.Common.{eqb}
use Rattle.std.proofs.lemmas.List.Filters.{dedup_is}
use Rattle.block_content.proofs.BytesRead.{once_read}
use Rattle.block_content.proofs.reading_bound.numbers_once.Goals as goal

pub returns : goal.returns
returns c segments =
    once_read segments _ c.in_ok-numbers.numbers.items c.sort_unstable.new.self.items c.dedup.new.self.items c.in_ok-numbers.ensures.fits c.in_ok-numbers.ensures.numbers c.sort_unstable.ensures.sorted c.sort_unstable.ensures.permutation (dedup_is eqb _ _ c.dedup.ensures.filtered)
