use Rattle.replay_cli.proofs.ToldMisses.{full_misses, full_misses_compacting, whole_misses, whole_misses_compacting}
use Rattle.replay_cli.proofs.laws.told_misses_are_explained.Goals as goal

pub returns : goal.returns
returns c = record { whole = whole_misses; full = full_misses; compaction = whole_misses_compacting; compaction_of_full = full_misses_compacting }
