-- Which members of a group are compacted together.
use Rattle.std.specs.Prelude.{◌≡◌, ◌-◌, ◌==◌, List, take, length, if◌then◌else◌}
use Rattle.block_meta.specs.declared.meta.Meta.{Meta}
use Rattle.group_planner.specs.Overlaps.{IsOverlapPlan}
use Rattle.group_planner.specs.Selections.{IsSelection}

abbrev pub without_last : List Meta → List Meta
without_last members = take (length members - 1) members

-- The members that overlap, or else what is selected of all but the last one.
pub record IsPlan (members plan : List Meta) : Type 0 where
  pub overlap : List Meta
  pub is_overlap : IsOverlapPlan members overlap
  pub selected : List Meta
  pub is_selection : IsSelection (without_last members) selected
  pub first : plan ≡ (if length overlap == 0 then selected else overlap)
