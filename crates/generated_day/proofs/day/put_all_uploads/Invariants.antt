use Rattle.std.proofs.Common.{◌≡◌, ◌-◌, ◌++◌}
use Rattle.std.specs.List.{flat_map, range_with_len}
use Rattle.generated_day.specs.Day.{uploads_at}
use Rattle.generated_day.proofs.day.put_all_uploads.Given as goal

-- what is appended, with what is left, is all
abbrev pub invariant-loop-block : goal.invariant-loop-block
invariant-loop-block l =
    l.out.items ++ flat_map (uploads_at) (range_with_len l.block (12 - l.block)) ≡ l.fn.out.items ++ flat_map (uploads_at) (range_with_len 0 12)
