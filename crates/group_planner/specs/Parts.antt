-- Members that lie within stretches of one length, each of which begins at a multiple of it.
use Rattle.std.specs.Prelude.{◌≡◌, ◌≢◌, ℤ, ◌+ℤ◌, ◌-ℤ◌, ◌*ℤ◌, ◌<ℤ◌, ◌≤ℤ◌, int_le, Bool, not, ◌&&◌, List, [], ◌∷◌, ◌++◌}
use Rattle.std.specs.Int.{int_rem_euclid}
use Rattle.std.specs.Ordering.{int_eq}
use Rattle.block_meta.specs.declared.meta.Meta.{Meta}
use Rattle.group_planner.specs.Runs.{EachPasses, IsLongestRun}

-- the greatest multiple of the range that is at most the time
pub record IsStart (range time start : ℤ) : Type 0 where
  pub multiple : (count : ℤ) × (start ≡ count *ℤ range)
  pub reached : start ≤ℤ time
  pub last : time <ℤ (start +ℤ range)

-- that multiple
abbrev pub start_of : ℤ → ℤ → ℤ
start_of range time = time -ℤ int_rem_euclid time range

-- the block ends within the stretch in which it begins
abbrev pub fits : ℤ → Meta → Bool
fits range meta = int_le meta.max_time (start_of range meta.min_time +ℤ range)

-- it fits into the stretch that begins there
abbrev pub fits_at : ℤ → ℤ → Meta → Bool
fits_at range start meta = int_eq (start_of range meta.min_time) start && fits range meta

-- none of them fits
abbrev pub NoneFits : ℤ → List Meta → Type 0
NoneFits range members = EachPasses (λ before meta. not (fits range meta)) [] members

-- The first part: no member before it fits, and it is the longest run of those that fit into one stretch.
pub record IsNextPart (range : ℤ) (members part behind : List Meta) : Type 0 where
  pub passed : List Meta
  pub start : ℤ
  pub are : members ≡ passed ++ (part ++ behind)
  pub none : NoneFits range passed
  pub longest : IsLongestRun (λ before meta. fits_at range start meta) [] part behind
  pub some : part ≢ []

-- The parts in their order: the first one, and the parts of what stands behind it.
abbrev pub AreParts : ℤ → List Meta → List (List Meta) → Type 0
AreParts range members [] = NoneFits range members
AreParts range members (part ∷ parts) = (behind : List Meta) × IsNextPart range members part behind × AreParts range behind parts
