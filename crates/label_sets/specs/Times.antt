-- When samples were taken.
use Rattle.std.specs.Prelude.{List, map, ℤ, ◌≤ℤ◌, ◌<ℤ◌, Bool, ◌&&◌, int_le, int_lt}
use Rattle.label_sets.specs.declared.sample.Sample.{Sample}

-- the times of samples, in their order
abbrev pub times_of : List Sample → List ℤ
times_of samples = map (λ sample. sample.time) samples

-- at the first time or after it, and before the last
abbrev pub IsWithin : ℤ → ℤ → Sample → Type 0
IsWithin first last sample = (first ≤ℤ sample.time) × (sample.time <ℤ last)

-- the same as a test
abbrev pub is_within : ℤ → ℤ → Sample → Bool
is_within first last sample = int_le first sample.time && int_lt sample.time last
