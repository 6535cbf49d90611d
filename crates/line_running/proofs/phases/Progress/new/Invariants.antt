use Rattle.std.proofs.Common.{◌≡◌, length}
use Rattle.std.specs.List.{All}
use Rattle.report_lines.specs.script_running.specs.Sights.{no_sight}
use Rattle.line_running.proofs.phases.Progress.new.Given as goal

abbrev pub invariant-loop : goal.invariant-loop
invariant-loop g l = record {
  count : length l.gateways.items ≡ l.counter;
  unseen : All (λ sight. sight ≡ no_sight) l.gateways.items;
}
