use Rattle.std.proofs.Common.{◌≡◌, ◌++◌, true, take, map}
use Rattle.matchers.specs.SelectorText.{are_lawful}
use Rattle.matchers.specs.Stages.{matcher_of}
use Rattle.matchers.proofs.building.push_matchers.Given as goal

abbrev pub invariant-loop-asked : goal.invariant-loop-asked
invariant-loop-asked l = record {
  made : l.matchers.items ≡ l.initial.matchers.items ++ map matcher_of (take l.asked-index l.listed);
  lawful : are_lawful (map matcher_of (take l.asked-index l.listed)) ≡ true;
}
