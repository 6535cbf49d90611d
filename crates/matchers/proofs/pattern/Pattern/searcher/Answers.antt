use Rattle.matchers.proofs.pattern.Pattern.searcher.Goals as goal

pub invariant_of-result : goal.invariant_of-result
invariant_of-result c = rw (c.in_ok-matcher.ensures.pattern, ← c.self.view_is) c.self.invariant
