use Rattle.block_merging.proofs.MergeLaws.{merge_once, merge_or_none}
use Rattle.block_merging.proofs.laws.merge_is_one.Goals as goal

pub returns : goal.returns
returns c = record {
  once = merge_once;
  or_none = merge_or_none;
}
