use Rattle.std.proofs.Common.{take}
use Rattle.std.specs.List.{flat_map}
use Rattle.report_lines.specs.Summed.{HasEach, seen_in}
use Rattle.report_lines.proofs.summing.count_series.Given as goal

abbrev pub invariant-loop-block : goal.invariant-loop-block
invariant-loop-block l = HasEach l.seen.keys (flat_map (seen_in l.script.rules.replicas) (take l.block-index l.script.blocks))
