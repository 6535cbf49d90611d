use Rattle.block_merging.proofs.MergeLaws.{merge_first, merge_deduplicates}
use Rattle.block_merging.proofs.laws.merge_holds_first.Goals as goal

pub returns : goal.returns
returns c = record { first = merge_first; deduplicated = merge_deduplicates }
