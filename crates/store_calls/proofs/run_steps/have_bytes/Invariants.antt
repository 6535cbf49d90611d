use Rattle.std.proofs.Common.{◌≡◌, true, take, map}
use Rattle.std.specs.List.{list_all}
use Rattle.store_ranges.specs.IndexRanges.{has_bytes}
use Rattle.store_ranges.specs.ToRead.{run_read}
use Rattle.store_calls.proofs.run_steps.have_bytes.Given as goal

abbrev pub invariant-loop-run : goal.invariant-loop-run
invariant-loop-run l = list_all (λ run. has_bytes run.piece) (map run_read (take l.run-index l.runs)) ≡ true
