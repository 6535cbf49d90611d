use Rattle.std.proofs.Common.{◌≡◌, map, take}
use Rattle.store_ranges.specs.Stretches.{stretch_at}
use Rattle.store_ranges.specs.ChunkRanges.{group_of}
use Rattle.store_ranges.specs.ToRead.{group_read}
use Rattle.store_ranges.proofs.group_reads.all_groups.Given as goal

abbrev pub invariant-loop-span : goal.invariant-loop-span
invariant-loop-span l = map group_read l.groups.items ≡ map group_of (map (stretch_at l.references) (take l.span-index l.spans))
