use Rattle.std.proofs.Common.{◌≡◌, ◌++◌, length}
use Rattle.store_ranges.proofs.cache.IndexCache.copy.Given as goal

-- what is left stands before what was put
abbrev pub invariant-loop-range : goal.invariant-loop-range
invariant-loop-range l = (l.self.cache.entries ≡ l.left ++ l.cache.entries) × (l.cache.cap ≡ l.self.cache.cap)

abbrev pub decreases-loop-range : goal.decreases-loop-range
decreases-loop-range l = length l.left
