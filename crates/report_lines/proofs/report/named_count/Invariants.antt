use Rattle.std.proofs.Common.{◌≡◌, take}
use Rattle.report_lines.specs.Reports.{named_count}
use Rattle.report_lines.proofs.report.named_count.Given as goal

abbrev pub invariant-loop-one : goal.invariant-loop-one
invariant-loop-one l = l.count ≡ named_count (take l.one-index l.names)
