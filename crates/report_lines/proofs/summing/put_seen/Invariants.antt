use Rattle.std.proofs.Common.{◌++◌, List, map, take}
use Rattle.label_sets.specs.Finals.{final_of}
use Rattle.label_sets.specs.declared.label.Label.{Label}
use Rattle.label_sets.specs.declared.series.Series.{Series}
use Rattle.report_lines.specs.Summed.{HasEach, own_series}
use Rattle.report_lines.proofs.summing.put_seen.Given as goal

abbrev pub invariant-loop-series : goal.invariant-loop-series
invariant-loop-series l = (sets : List (List Label)) → HasEach l.initial.seen.keys sets → HasEach l.seen.keys (sets ++ map (λ (one : Series). final_of one.labels l.block.labels l.replicas) (take l.series-index (own_series l.block.body)))
