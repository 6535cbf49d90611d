use Rattle.std.proofs.Common.{◌≡◌, length}
use Rattle.script_running.proofs.Taking.{IsOnWay}
use Rattle.script_running.proofs.gathering.lay.Given as goal

-- the parts so far are laid
abbrev pub invariant-loop-part : goal.invariant-loop-part
invariant-loop-part l = record {
  number : l.number ≡ length l.yielded;
  wide : length l.lists.items ≡ length l.initial.lists.items;
  way : IsOnWay l.places l.fn.parts.items l.number l.initial.lists.items l.lists.items;
}
