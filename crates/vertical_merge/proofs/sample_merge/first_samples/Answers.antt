use Rattle.vertical_merge.proofs.TimesMerged.{as_it_was}
use Rattle.vertical_merge.proofs.sample_merge.first_samples.Goals as goal

pub returns-then-is_none : goal.returns-then-is_none
returns-then-is_none c = as_it_was _ _ _ _ _ c.if-is_none.ensures c.fall.ensures c.as_slice.ensures.value c.into_vec-samples.ensures c.from_vec.ensures
