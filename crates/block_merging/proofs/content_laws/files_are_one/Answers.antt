use Rattle.block_writing.proofs.OneText.{one_index, one_segments}
use Rattle.block_merging.proofs.content_laws.files_are_one.Goals as goal

pub returns : goal.returns
returns c series index other segments others is too = (one_index series index other segments others is too, one_segments series index other segments others is too)
