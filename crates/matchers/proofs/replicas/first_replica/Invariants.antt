use Rattle.std.proofs.Common.{◌≡◌, [], take}
use Rattle.matchers.specs.SelectorText.{named_replicas}
use Rattle.matchers.proofs.replicas.first_replica.Given as goal

abbrev pub invariant-loop-matcher : goal.invariant-loop-matcher
invariant-loop-matcher l = named_replicas l.replicas (take l.matcher-index l.matchers) ≡ []
