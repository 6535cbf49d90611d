-- Why the patterns of what was read are not all built.
use Rattle.std.specs.Prelude.{◌≡◌, ◌⊎◌, ℕ, List, ◌∷◌, ◌++◌, map, true, false, IsTrue}
use Rattle.matchers.specs.declared.asked.Asked.{Asked}
use Rattle.matchers.specs.declared.asked.Operator.{Operator}
use Rattle.matchers.specs.declared.selector_refusal.SelectorRefusal.{SelectorRefusal}
use Rattle.matchers.specs.declared.selector_refusal.SelectorRefusal.TheVariants.{BadPattern, PatternSize, NoMemory}
use Rattle.matchers.specs.Patterns.{is_pattern}
use Rattle.matchers.specs.Selectors.{has_pattern}
use Rattle.matchers.specs.SelectorText.{are_lawful}
use Rattle.matchers.specs.Stages.{condition_of, matcher_of}

-- The pattern of a text, whose quote opens at this place, is none or nests too deep; or it is a pattern, and too large.
abbrev pub IsUnbuilt : List ℕ → ℕ → SelectorRefusal → Type 0
IsUnbuilt text quote (BadPattern place) = (place ≡ quote) × (is_pattern text ≡ false)
IsUnbuilt text quote (PatternSize place) = (place ≡ quote) × (is_pattern text ≡ true)
IsUnbuilt text quote other = ⊥

-- A condition has a pattern, which is not built; or there is no memory.
abbrev pub IsUnbuiltCondition : Operator → List ℕ → ℕ → SelectorRefusal → Type 0
IsUnbuiltCondition operator value quote refusal =
    (refusal ≡ NoMemory) ⊎ (IsTrue (has_pattern (condition_of operator value)) × IsUnbuilt value quote refusal)

-- The same of the first such matcher of a list, whose quote opens at the refused place. All patterns before it are lawful.
pub record FirstUnbuilt (listed : List Asked) (refusal : SelectorRefusal) : Type 0 where
  pub before : List Asked
  pub asked : Asked
  pub others : List Asked
  pub stands : listed ≡ before ++ asked ∷ others
  pub lawful : IsTrue (are_lawful (map matcher_of before))
  pub has_pattern : IsTrue (has_pattern (condition_of asked.operator asked.value))
  pub unbuilt : IsUnbuilt asked.value asked.quote refusal

abbrev pub IsUnbuiltList : List Asked → SelectorRefusal → Type 0
IsUnbuiltList listed refusal = (refusal ≡ NoMemory) ⊎ FirstUnbuilt listed refusal
