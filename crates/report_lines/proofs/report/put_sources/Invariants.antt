use Rattle.std.proofs.Common.{◌≡◌, ◌++◌, take}
use Rattle.std.specs.List.{flat_map}
use Rattle.report_lines.specs.Reports.{source_line}
use Rattle.report_lines.proofs.report.put_sources.Given as goal

abbrev pub invariant-loop-source : goal.invariant-loop-source
invariant-loop-source l = l.out.items ≡ l.initial.out.items ++ flat_map source_line (take l.source-index l.sources)
