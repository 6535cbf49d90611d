use Rattle.std.proofs.Common.{◌≡◌, true, take}
use Rattle.std.specs.List.{list_all}
use Rattle.matchers.specs.Selectors.{accepts}
use Rattle.matchers.proofs.selector.Selector.matches.Given as goal

abbrev pub invariant-loop-matcher : goal.invariant-loop-matcher
invariant-loop-matcher l = list_all (λ matcher. accepts matcher l.labels) (take l.matcher-index l.matcher-items) ≡ true
