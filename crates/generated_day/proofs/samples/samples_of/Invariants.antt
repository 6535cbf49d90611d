use Rattle.std.proofs.Common.{◌≡◌, ◌-◌, ◌++◌}
use Rattle.std.specs.List.{flat_map, range_with_len}
use Rattle.generated_day.specs.Day.{sample_part}
use Rattle.generated_day.proofs.samples.samples_of.Given as goal

-- the samples, with those that are left, are all
abbrev pub invariant-loop-place : goal.invariant-loop-place
invariant-loop-place l =
    l.samples.items ++ flat_map (sample_part l.number l.block l.replica l.series) (range_with_len l.place (480 - l.place)) ≡ flat_map (sample_part l.number l.block l.replica l.series) (range_with_len 0 480)
