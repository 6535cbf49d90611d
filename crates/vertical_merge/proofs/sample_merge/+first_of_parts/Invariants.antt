use Rattle.std.proofs.Common.{length}
use Rattle.vertical_merge.proofs.sample_merge.+first_of_parts.Given as goal

abbrev pub decreases-first_of_parts : goal.decreases-first_of_parts
decreases-first_of_parts l = length l.parts.items
