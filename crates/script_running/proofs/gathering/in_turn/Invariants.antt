use Rattle.std.proofs.Common.{◌≡◌, ◌≤◌, ◌++◌, length, drop, map}
use Rattle.std.specs.List.{zip}
use Rattle.script_running.specs.Gathering.{back_of}
use Rattle.script_running.proofs.gathering.in_turn.Given as goal

-- those so far, and those that are left
abbrev pub invariant-loop-end : goal.invariant-loop-end
invariant-loop-end l = record {
  number : l.number ≡ length l.yielded;
  count : length l.backs.items ≡ l.number;
  room : length l.workers ≤ l.backs.cap;
  so_far : map back_of l.backs.items ++ zip (drop l.number l.workers) (drop l.number l.fn.ends.items) ≡ zip l.workers l.fn.ends.items;
}
