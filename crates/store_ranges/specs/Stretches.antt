-- A list cut into its longest stretches in which each member joins the one before it.
use Rattle.std.specs.Prelude.{◌≡◌, ℕ, ◌+◌, ◌-◌, ◌<◌, ◌≤◌, List, [], ◌∷◌, length, take, drop, flat_map, slice_index}
use Rattle.std.specs.List.{AllByRecursion}
use Rattle.store_ranges.specs.declared.span.Span.{Span}

-- members of a list that stand one behind another: there is one at least
pub record Stretch (A : Type 0) : Type 0 where
  pub first : A
  pub others : List A

abbrev pub members : {A : Type 0} → Stretch A → List A
members stretch = stretch.first ∷ stretch.others

-- the last of a member and those behind it
abbrev pub last_behind : {A : Type 0} → A → List A → A
last_behind one [] = one
last_behind one (other ∷ others) = last_behind other others

abbrev pub last_of : {A : Type 0} → Stretch A → A
last_of stretch = last_behind stretch.first stretch.others

-- each of the others joins the one before it
abbrev pub AreJoined : {A : Type 0} → (A → A → Type 0) → A → List A → Type 0
AreJoined Joins one [] = Unit {0}
AreJoined Joins one (other ∷ others) = Joins one other × AreJoined Joins other others

abbrev pub IsJoined : {A : Type 0} → (A → A → Type 0) → Stretch A → Type 0
IsJoined Joins stretch = AreJoined Joins stretch.first stretch.others

-- the stretches that come next, if there are any, do not go on with one that joins this one
abbrev pub BeginAnew : {A : Type 0} → (A → A → Type 0) → A → List (Stretch A) → Type 0
BeginAnew Joins one [] = Unit {0}
BeginAnew Joins one (next ∷ others) = ¬ Joins one next.first

-- none of these stretches could be longer
abbrev pub AreLongest : {A : Type 0} → (A → A → Type 0) → List (Stretch A) → Type 0
AreLongest Joins [] = Unit {0}
AreLongest Joins (stretch ∷ others) = BeginAnew Joins (last_of stretch) others × AreLongest Joins others

-- The stretches make up the list, in each of them every member joins the one before it, and none could be longer.
pub record AreStretches {A : Type 0} (Joins : A → A → Type 0) (list : List A) (stretches : List (Stretch A)) : Type 0 where
  pub whole : flat_map members stretches ≡ list
  pub joined : AllByRecursion (IsJoined Joins) stretches
  pub longest : AreLongest Joins stretches

-- ---- stretches as the code has them

-- the members of a list from one place up to another
abbrev pub stretch_at : List ℕ → Span → Stretch ℕ
stretch_at list span = record { first = slice_index list span.start; others = take (span.end - (span.start + 1)) (drop (span.start + 1) list) }

-- it has a member, and all of them are members of the list
abbrev pub IsSpanOf : List ℕ → Span → Type 0
IsSpanOf list span = (span.start < span.end) × (span.end ≤ length list)
