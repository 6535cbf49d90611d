use Rattle.std.proofs.Common.{◌≡◌, ◌-◌, take}
use Rattle.std.specs.Prelude.{◌^◌, min}
use Rattle.std.specs.List.{sum_by}
use Rattle.report_lines.specs.Summed.{samples_in}
use Rattle.report_lines.proofs.summing.count_samples.Given as goal

abbrev pub invariant-loop-block : goal.invariant-loop-block
invariant-loop-block l = l.count ≡ min (sum_by samples_in (take l.block-index l.blocks)) (2 ^ 64 - 1)
