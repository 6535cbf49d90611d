-- The part of a range that is worth a compaction.
use Rattle.std.specs.Prelude.{◌≡◌, ℤ, pos, ◌-ℤ◌, ◌-◌, int_le, nat_le, Bool, false, ◌&&◌, ◌||◌, List, [], ◌∷◌, ◌++◌, map, length, Option, Some, None, slice_get}
use Rattle.std.specs.Option.{option_map_or}
use Rattle.std.specs.List.{find}
use Rattle.std.specs.Ordering.{int_eq}
use Rattle.block_meta.specs.declared.meta.Meta.{Meta}
use Rattle.group_planner.specs.Parts.{AreParts}

abbrev pub last_of : List Meta → Option Meta
last_of members = slice_get members (length members - 1)

-- from the first block to the last one they fill the range, or end by that time
abbrev pub is_due : ℤ → ℤ → Option Meta → Option Meta → Bool
is_due range high (Some first) (Some last) = int_eq (last.max_time -ℤ first.min_time) range || int_le last.max_time high
is_due range high (Some first) None = false
is_due range high None last = false

-- the part has at least two blocks, which fill the range or end by that time
abbrev pub is_worthwhile : ℤ → ℤ → List Meta → Bool
is_worthwhile range high part = nat_le 2 (length part) && is_due range high (slice_get part 0) (last_of part)

-- a part and its range
pub record Candidate : Type 0 where
  pub range : ℤ
  pub part : List Meta

abbrev pub is_wanted : ℤ → Candidate → Bool
is_wanted high candidate = is_worthwhile candidate.range high candidate.part

-- the parts of the ranges, one range after another
abbrev pub AreCandidates : List ℤ → List Meta → List Candidate → Type 0
AreCandidates [] members candidates = candidates ≡ []
AreCandidates (range ∷ ranges) members candidates =
    (parts : List (List Meta)) × (others : List Candidate) × AreParts range members parts × AreCandidates ranges members others
    × (candidates ≡ map (λ part. record { range = range; part = part }) parts ++ others)

-- 2, 8, 48 and 336 hours, in milliseconds
abbrev pub ranges : List ℤ
ranges = pos 7200000 ∷ pos 28800000 ∷ pos 172800000 ∷ pos 1209600000 ∷ []

-- where the last of the members begins; without members there is no part of which that is asked
abbrev pub last_begin : List Meta → ℤ
last_begin members = option_map_or (λ last. last.min_time) (last_of members) (pos 0)

-- The first part that fills its range, or ends before the last member begins: smaller ranges come first. Nothing where there is none.
pub record IsSelection (members selected : List Meta) : Type 0 where
  pub candidates : List Candidate
  pub listed : AreCandidates ranges members candidates
  pub first : selected ≡ option_map_or (λ candidate. candidate.part) (find (is_wanted (last_begin members)) candidates) []
