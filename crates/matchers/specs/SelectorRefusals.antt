-- Why a text is not read as a selector, by what stands in it.
use Rattle.std.specs.Prelude.{◌≡◌, ℕ, ◌<◌, ◌≤◌, suc, List, [], ◌∷◌, ◌++◌, length, take, true, false, IsTrue}
use Rattle.label_sets.specs.Characters.{double_quote, open_brace}
use Rattle.matchers.specs.declared.matcher.Matcher.{Matcher}
use Rattle.matchers.specs.declared.selector_refusal.SelectorRefusal.{SelectorRefusal}
use Rattle.matchers.specs.declared.selector_refusal.SelectorRefusal.TheVariants.{BadSelector, BadPattern, PatternSize, ReplicaNamed, NoMemory}
use Rattle.matchers.specs.Patterns.{is_pattern}
use Rattle.matchers.specs.Selectors.{has_pattern}
use Rattle.matchers.specs.SelectorText.{IsSelectorText, IsMetric, metric_part, commas_text, opening_text, asked_by, are_lawful, named_replicas}

-- The text is of the selector, whose patterns are all lawful, and it names no replica label.
pub record IsReadable (text : List ℕ) (replicas : List (List ℕ)) (selector : List Matcher) : Type 0 where
  pub is_text : IsSelectorText text selector
  pub lawful : IsTrue (are_lawful selector)
  pub no_replica : named_replicas replicas selector ≡ []

-- Some selector's text begins with it.
pub record BeginsASelector (front : List ℕ) : Type 0 where
  pub after : List ℕ
  pub selector : List Matcher
  pub is_text : IsSelectorText (front ++ after) selector

-- The text is no selector's. One goes on up to this place, and not to the next.
pub record StopsAt (text : List ℕ) (place : ℕ) : Type 0 where
  pub within : place ≤ length text
  pub so_far : BeginsASelector (take place text)
  pub no_further : place < length text → ¬ BeginsASelector (take (suc place) text)
  pub no_selector : (selector : List Matcher) → ¬ IsSelectorText text selector

-- The text is a selector's. This matcher has a pattern, whose quote opens at this place, and all patterns before it are
-- lawful.
pub record HasPatternAt (text : List ℕ) (place : ℕ) (m : Matcher) : Type 0 where
  pub metric : List ℕ
  pub before : List Matcher
  pub others : List Matcher
  pub is_text : IsSelectorText text (metric_part metric ++ (before ++ m ∷ others))
  pub rest : List ℕ
  pub stands : text ≡ (metric ++ open_brace ∷ (commas_text before ++ opening_text m)) ++ double_quote ∷ rest
  pub is_metric : IsMetric metric
  pub place_is : place ≡ length (metric ++ open_brace ∷ (commas_text before ++ opening_text m))
  pub lawful : IsTrue (are_lawful before)
  pub has_pattern : IsTrue (has_pattern m.condition)

-- The first pattern that is none, or nests too deep, opens at this place.
abbrev pub HasBadPattern : List ℕ → ℕ → Type 0
HasBadPattern text place = (m : Matcher) × HasPatternAt text place m × (is_pattern (asked_by m.condition) ≡ false)

-- A lawful pattern opens at this place, and those before it are lawful.
abbrev pub HasGoodPattern : List ℕ → ℕ → Type 0
HasGoodPattern text place = (m : Matcher) × HasPatternAt text place m × (is_pattern (asked_by m.condition) ≡ true)

-- The text is a selector's, all of its patterns are lawful, and this is the first replica label that it names.
abbrev pub NamesReplica : List ℕ → List (List ℕ) → List ℕ → Type 0
NamesReplica text replicas name =
    (selector : List Matcher) × IsSelectorText text selector × IsTrue (are_lawful selector)
    × ((others : List (List ℕ)) × (named_replicas replicas selector ≡ name ∷ others))

-- The cause to refuse a text.
abbrev pub IsRefused : List ℕ → List (List ℕ) → SelectorRefusal → Type 0
IsRefused text replicas (BadSelector place) = StopsAt text place
IsRefused text replicas (BadPattern place) = HasBadPattern text place
IsRefused text replicas (PatternSize place) = ⊥
IsRefused text replicas (ReplicaNamed name) = NamesReplica text replicas name
IsRefused text replicas NoMemory = ⊥

-- What is refused for want of memory, or for the size of a lawful pattern. Of which sizes `regex` builds a pattern, no
-- definition says.
abbrev pub IsGivenUp : List ℕ → SelectorRefusal → Type 0
IsGivenUp text (PatternSize place) = HasGoodPattern text place
IsGivenUp text NoMemory = Unit {0}
IsGivenUp text other = ⊥
