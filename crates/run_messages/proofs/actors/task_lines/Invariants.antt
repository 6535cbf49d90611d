use Rattle.std.proofs.Common.{◌≡◌, take}
use Rattle.std.specs.Prelude.{flat_map, slice_get}
use Rattle.run_messages.specs.Actors.{line_if}
use Rattle.run_messages.proofs.actors.task_lines.Given as goal

abbrev pub invariant-loop-place : goal.invariant-loop-place
invariant-loop-place l = l.lines.items ≡ flat_map (λ place. line_if l.op (slice_get l.tasks place)) (take l.place-index l.places)
