-- Blocks that begin before an earlier one ends.
use Rattle.std.specs.Prelude.{◌≡◌, ◌≢◌, ℤ, int_lt, Bool, true, false, not, List, [], ◌∷◌, ◌++◌}
use Rattle.std.specs.List.{list_any}
use Rattle.block_meta.specs.declared.meta.Meta.{Meta}
use Rattle.group_planner.specs.Runs.{EachPasses, IsLongestRun}

-- the time is before the end of one of the blocks
abbrev pub is_before_end : List Meta → ℤ → Bool
is_before_end before time = list_any (λ earlier. int_lt time earlier.max_time) before

-- the block begins before one of those ends
abbrev pub overlaps : List Meta → Meta → Bool
overlaps before meta = is_before_end before meta.min_time

-- it begins when all of those have ended
abbrev pub is_apart : List Meta → Meta → Bool
is_apart before meta = not (overlaps before meta)

-- The plan of overlaps, by its first block: all members up to this one are apart, and the longest run of overlapping ones follows.
pub record TakesOverlaps (members : List Meta) (first : Meta) (run : List Meta) : Type 0 where
  pub front : List Meta
  pub behind : List Meta
  pub are : members ≡ (front ++ first ∷ []) ++ (run ++ behind)
  pub apart : IsLongestRun is_apart [] (front ++ first ∷ []) (run ++ behind)
  pub longest : IsLongestRun overlaps (front ++ first ∷ []) run behind
  pub some : run ≢ []

-- It is empty where all members are apart.
abbrev pub IsOverlapPlan : List Meta → List Meta → Type 0
IsOverlapPlan members [] = EachPasses is_apart [] members
IsOverlapPlan members (first ∷ run) = TakesOverlaps members first run

-- members that overlap, or those that are apart
abbrev pub overlaps_as : Bool → List Meta → Meta → Bool
overlaps_as true before meta = overlaps before meta
overlaps_as false before meta = not (overlaps before meta)

-- a time is before that one exactly where it is before the end of one of the blocks
abbrev pub IsEndOf : List Meta → ℤ → Type 0
IsEndOf before end = (time : ℤ) → int_lt time end ≡ is_before_end before time
