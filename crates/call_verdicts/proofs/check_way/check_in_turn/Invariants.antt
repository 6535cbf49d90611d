use Rattle.std.proofs.Common.{◌≡◌, ℕ, ◌<◌, ◌≤◌, slice_index_or}
use Rattle.call_verdicts.specs.Stages.{IsCheckedAs}
use Rattle.call_verdicts.specs.declared.check_way.Stage.{Stage}
use Rattle.call_verdicts.proofs.check_way.check_in_turn.Given as goal

-- those before the place are checked, and the others are as they were
abbrev pub invariant-loop-place : goal.invariant-loop-place
invariant-loop-place l =
    ((j : ℕ) (d : Stage) → l.place ≤ j → slice_index_or l.stages j d ≡ slice_index_or l.initial.stages j d)
    × ((j : ℕ) (d : Stage) → j < l.place → IsCheckedAs (slice_index_or l.initial.stages j d) (slice_index_or l.stages j d))
