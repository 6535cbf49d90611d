use Rattle.std.proofs.Common.{◌≡◌, ◌-◌, ◌++◌}
use Rattle.std.specs.List.{flat_map, range_with_len}
use Rattle.generated_day.specs.Day.{round_text}
use Rattle.generated_day.proofs.day.put_rounds.Given as goal

-- what is appended, with what is left, is all
abbrev pub invariant-loop-round : goal.invariant-loop-round
invariant-loop-round l =
    l.out.items ++ flat_map (round_text) (range_with_len l.round (16 - l.round)) ≡ l.fn.out.items ++ flat_map (round_text) (range_with_len 1 15)
