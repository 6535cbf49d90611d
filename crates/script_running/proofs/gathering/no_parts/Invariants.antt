use Rattle.std.proofs.Common.{◌≡◌, ◌≤◌, [], length}
use Rattle.std.specs.List.{All}
use Rattle.script_running.proofs.gathering.no_parts.Given as goal

abbrev pub invariant-loop : goal.invariant-loop
invariant-loop l = record {
  count : length l.lists.items ≡ l.counter;
  room : l.tasks ≤ l.lists.cap;
  none : All (λ own. own.parts.items ≡ []) l.lists.items;
}
