-- Which times a block may have, and how its sources are listed.
use Rattle.std.specs.Prelude.{ℕ, ℤ, pos, neg_ℤ, ◌<ℤ◌, ◌≤ℤ◌, ◌^◌, ◌&&◌, Bool, int_lt, int_le, List, [], fold}
use Rattle.std.specs.BTreeSet.{insert_key}
use Rattle.std.specs.Ordering.{nat_cmp}
use Rattle.label_sets.specs.Limits.{time_limit}

-- the first is below the second, and neither is further from zero than a time may be
pub record AreLawfulTimes (min max : ℤ) : Type 0 where
  pub early : neg_ℤ (pos time_limit) ≤ℤ min
  pub ascend : min <ℤ max
  pub late : max ≤ℤ pos time_limit

-- the test of that
unfoldable pub are_lawful_times : ℤ → ℤ → Bool
are_lawful_times min max = int_le (neg_ℤ (pos time_limit)) min && int_lt min max && int_le max (pos time_limit)

-- the least number that is no level
abbrev pub level_limit : ℕ
level_limit = 2 ^ 32

-- a mark's second of deletion is below this one
abbrev pub deletion_limit : ℕ
deletion_limit = 2 ^ 46

-- the listed numbers ascending, each once
abbrev pub ascending : List ℕ → List ℕ
ascending listed = fold (insert_key nat_cmp) [] listed
