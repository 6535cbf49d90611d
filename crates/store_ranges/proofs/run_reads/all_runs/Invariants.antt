use Rattle.std.proofs.Common.{◌≡◌, map, take}
use Rattle.store_ranges.specs.Stretches.{stretch_at}
use Rattle.store_ranges.specs.IndexRanges.{run_of}
use Rattle.store_ranges.specs.ToRead.{run_read}
use Rattle.store_ranges.proofs.run_reads.all_runs.Given as goal

abbrev pub invariant-loop-span : goal.invariant-loop-span
invariant-loop-span l = map run_read l.runs.items ≡ map (run_of l.sections.toc l.sections.size l.all) (map (stretch_at l.numbers) (take l.span-index l.spans))
