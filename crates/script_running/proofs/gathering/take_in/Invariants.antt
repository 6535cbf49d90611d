use Rattle.std.proofs.Common.{◌≡◌, length, map}
use Rattle.script_running.specs.Gathering.{AreTakenIn, back_of}
use Rattle.script_running.proofs.gathering.take_in.Given as goal

-- those so far are taken in
abbrev pub invariant-loop-back : goal.invariant-loop-back
invariant-loop-back l = record {
  long : length l.sights.items ≡ length l.initial.sights.items;
  wide : length l.lists.items ≡ l.tasks;
  taken : AreTakenIn (map back_of l.yielded) l.initial.sights.items l.sights.items l.lists.items;
}
