use Rattle.index_writing.proofs.Entries.{entries_sorted}
use Rattle.index_writing.proofs.label_groups.sort_entries.Goals as goal

pub returns : goal.returns
returns c = entries_sorted _ _ c.in_ok-sort.ensures.sorted c.in_ok-sort.ensures.stable
