-- The texts of selectors, apart from how one is read. A selector is a metric name, or matchers in braces, or the one and then
-- the other. A matcher is a name, an operator and a value in quotes. A comma stands between matchers, and one may stand
-- after the last.
use Rattle.std.specs.Prelude.{◌≡◌, ◌⊎◌, ℕ, ◌*◌, ◌≤◌, List, [], ◌∷◌, ◌++◌, length, map, Bool, true, All, IsTrue, codes}
use Rattle.std.specs.List.{AllByRecursion, filter, flat_map, list_all}
use Rattle.label_sets.specs.Characters.{double_quote, comma, open_brace, close_brace}
use Rattle.label_sets.specs.Finals.{is_among}
use Rattle.label_sets.specs.Notation.{is_name, quoted}
use Rattle.matchers.specs.declared.condition.Condition.{Condition}
use Rattle.matchers.specs.declared.condition.Condition.TheVariants.{Equal, NotEqual, Matches, MatchesNot}
use Rattle.matchers.specs.declared.matcher.Matcher.{Matcher}
use Rattle.matchers.specs.Patterns.{is_pattern}
use Rattle.matchers.specs.Selectors.{is_metric_name, metric_matcher}

-- `!`, which an operator may begin with
abbrev pub exclamation : ℕ
exclamation = 33

-- `~`, which an operator may end with
abbrev pub tilde : ℕ
tilde = 126

-- the operator of a condition
abbrev pub sign_of : Condition → List ℕ
sign_of (Equal asked) = codes "="
sign_of (NotEqual asked) = codes "!="
sign_of (Matches pattern) = codes "=~"
sign_of (MatchesNot pattern) = codes "!~"

-- the value or the pattern that it asks for
abbrev pub asked_by : Condition → List ℕ
asked_by (Equal asked) = asked
asked_by (NotEqual asked) = asked
asked_by (Matches pattern) = pattern
asked_by (MatchesNot pattern) = pattern

-- what of a matcher stands before the opening quote
abbrev pub opening_text : Matcher → List ℕ
opening_text m = m.name ++ sign_of m.condition

-- `name="value"`
unfoldable pub matcher_text : Matcher → List ℕ
matcher_text m = opening_text m ++ double_quote ∷ (quoted (asked_by m.condition) ++ double_quote ∷ [])

-- matchers with a comma after each
abbrev pub comma_text : Matcher → List ℕ
comma_text m = matcher_text m ++ comma ∷ []

abbrev pub commas_text : List Matcher → List ℕ
commas_text matchers = flat_map comma_text matchers

-- What stands in braces: the matchers with a comma after each, of which the last one may lack.
abbrev pub AreListed : List ℕ → List Matcher → Type 0
AreListed inside matchers = (inside ≡ commas_text matchers) ⊎ (inside ++ comma ∷ [] ≡ commas_text matchers)

-- a metric name, or none
abbrev pub IsMetric : List ℕ → Type 0
IsMetric metric = (metric ≡ []) ⊎ IsTrue (is_metric_name metric)

-- its matcher
abbrev pub metric_part : List ℕ → List Matcher
metric_part [] = []
metric_part (byte ∷ bytes) = metric_matcher (byte ∷ bytes) ∷ []

-- matchers in braces, behind a metric name if there is one
pub record HasBraces (text : List ℕ) (selector : List Matcher) : Type 0 where
  pub metric : List ℕ
  pub matchers : List Matcher
  pub inside : List ℕ
  pub written : text ≡ metric ++ open_brace ∷ (inside ++ close_brace ∷ [])
  pub is_metric : IsMetric metric
  pub listed : AreListed inside matchers
  pub named : All (λ m. IsTrue (is_name m.name)) matchers
  pub selector_is : selector ≡ metric_part metric ++ matchers

-- The text is one of the selector.
abbrev pub IsSelectorText : List ℕ → List Matcher → Type 0
IsSelectorText text selector =
    (IsTrue (is_metric_name text) × (selector ≡ metric_matcher text ∷ [])) ⊎ HasBraces text selector

-- whether a condition that has a pattern has a lawful one
abbrev pub is_lawful : Condition → Bool
is_lawful (Equal asked) = true
is_lawful (NotEqual asked) = true
is_lawful (Matches pattern) = is_pattern pattern
is_lawful (MatchesNot pattern) = is_pattern pattern

-- all patterns are lawful
abbrev pub are_lawful : List Matcher → Bool
are_lawful matchers = list_all (λ m. is_lawful m.condition) matchers

-- the replica labels that are named, in the order of the matchers
abbrev pub named_replicas : List (List ℕ) → List Matcher → List (List ℕ)
named_replicas replicas selector = filter (is_among replicas) (map (λ m. m.name) selector)

-- The one selector of the simplest texts: `{}` and a metric name.
abbrev pub IsSimpleText : List ℕ → List Matcher → Type 0
IsSimpleText text selector =
    ((text ≡ codes "{}") × (selector ≡ []))
    ⊎ (IsTrue (is_metric_name text) × (selector ≡ metric_matcher text ∷ []))

-- There are no more matchers than so many, and none has a longer text, but that the name of a metric's matcher is told by one
-- byte at least.
abbrev pub AreFew : ℕ → List Matcher → Type 0
AreFew most selector = (length selector ≤ most) × AllByRecursion (λ m. (length m.name ≤ 8 * most) × (length (asked_by m.condition) ≤ most)) selector
