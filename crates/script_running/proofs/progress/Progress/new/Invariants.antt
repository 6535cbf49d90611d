use Rattle.std.proofs.Common.{◌≡◌, length}
use Rattle.std.specs.List.{All}
use Rattle.script_running.specs.Sights.{no_sight}
use Rattle.script_running.proofs.progress.Progress.new.Given as goal

abbrev pub invariant-loop : goal.invariant-loop
invariant-loop g l = record {
  count : length l.sights.items ≡ l.counter;
  unseen : All (λ sight. sight ≡ no_sight) l.sights.items;
}
