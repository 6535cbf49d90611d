use Rattle.std.proofs.Common.{◌≡◌, ◌++◌, take}
use Rattle.std.specs.List.{flat_map}
use Rattle.report_lines.specs.Reports.{named_line}
use Rattle.report_lines.proofs.report.put_named.Given as goal

abbrev pub invariant-loop-source : goal.invariant-loop-source
invariant-loop-source l = l.out.items ≡ l.initial.out.items ++ flat_map (named_line l.script l.names.gateway) (take l.source-index l.source-items)
