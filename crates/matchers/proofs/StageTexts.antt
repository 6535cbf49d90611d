-- What of a selector's text was read to get to a stage.
use Rattle.std.proofs.Common.{◌≡◌, ℕ, ◌+◌, List, [], ◌∷◌, ◌++◌, length, map, refl, ap, ◌∙◌, arith, true, append-nil}
use Rattle.std.specs.List.{All}
use Rattle.std.proofs.lemmas.List.{length-append, map-append}
use Rattle.std.proofs.lemmas.List.Concat.{flat_map-append}
use Rattle.label_sets.specs.Notation.{is_name, quoted}
use Rattle.matchers.specs.declared.asked.Asked.{Asked}
use Rattle.matchers.specs.declared.draft.Draft.{Draft}
use Rattle.matchers.specs.declared.matcher.Matcher.{Matcher}
use Rattle.matchers.specs.declared.asked.Operator.{Operator}
use Rattle.matchers.specs.declared.asked.Operator.TheVariants.{Equal, NotEqual, Matches, MatchesNot}
use Rattle.matchers.specs.declared.stage.Stage.{Stage}
use Rattle.matchers.specs.declared.stage.Stage.TheVariants.{Start, Metric, Comma, Name, Exclamation, Equals, Sign, Value, Backslash, Quote, End}
use Rattle.matchers.specs.Selectors.{is_metric_name}
use Rattle.matchers.specs.SelectorText.{sign_of, asked_by, opening_text, matcher_text, comma_text, commas_text, AreListed, IsMetric}
use Rattle.matchers.specs.Stages.{condition_of, matcher_of, nothing_asked}

-- ---- matchers as they are read

abbrev pub sign : Operator → List ℕ
sign Equal = 61 ∷ []
sign NotEqual = 33 ∷ 61 ∷ []
sign Matches = 61 ∷ 126 ∷ []
sign MatchesNot = 33 ∷ 126 ∷ []

pub sign_is : (operator : Operator) (value : List ℕ) → sign_of (condition_of operator value) ≡ sign operator
sign_is Equal value = refl
sign_is NotEqual value = refl
sign_is Matches value = refl
sign_is MatchesNot value = refl

pub value_is : (operator : Operator) (value : List ℕ) → asked_by (condition_of operator value) ≡ value
value_is Equal value = refl
value_is NotEqual value = refl
value_is Matches value = refl
value_is MatchesNot value = refl

-- what stands before the quote
abbrev pub opening : Asked → List ℕ
opening a = a.name ++ sign a.operator

pub opening_is : (a : Asked) → opening_text (matcher_of a) ≡ opening a
opening_is a = ap (λ s. a.name ++ s) (sign_is a.operator a.value)

pub matcher_is : (a : Asked) → matcher_text (matcher_of a) ≡ opening a ++ 34 ∷ (quoted a.value ++ 34 ∷ [])
unfolding matcher_text
matcher_is a = λ i. opening_is a i ++ 34 ∷ (quoted (value_is a.operator a.value i) ++ 34 ∷ [])

-- the texts of those that are whole
abbrev pub whole_text : List Asked → List ℕ
whole_text listed = commas_text (map matcher_of listed)

pub commas_more : (ms : List Matcher) (m : Matcher) → commas_text (ms ++ m ∷ []) ≡ commas_text ms ++ comma_text m
commas_more ms m = flat_map-append comma_text ms (m ∷ []) ∙ ap (λ t. commas_text ms ++ t) (append-nil (comma_text m))

pub whole_more : (listed : List Asked) (a : Asked) → whole_text (listed ++ a ∷ []) ≡ whole_text listed ++ comma_text (matcher_of a)
whole_more listed a = ap commas_text (map-append matcher_of listed (a ∷ [])) ∙ commas_more (map matcher_of listed) (matcher_of a)

-- ---- the places of their quotes

abbrev pub AreQuoted : ℕ → List Asked → Type 0
AreQuoted start [] = Unit {0}
AreQuoted start (a ∷ listed) = (a.quote ≡ start + length (opening a)) × AreQuoted (start + length (comma_text (matcher_of a))) listed

pub quoted_more : (start : ℕ) (listed : List Asked) (a : Asked) → AreQuoted start listed → a.quote ≡ start + length (whole_text listed) + length (opening a) → AreQuoted start (listed ++ a ∷ [])
quoted_more start [] a are here = (omega (arith, here), tt)
quoted_more start (x ∷ xs) a are here =
    (are.0, quoted_more (start + length (comma_text (matcher_of x))) xs a are.1 (omega (arith, here, length-append (comma_text (matcher_of x)) (whole_text xs))))

pub quoted_there : (start : ℕ) (front : List Asked) (a : Asked) (others : List Asked) → AreQuoted start (front ++ a ∷ others) → a.quote ≡ start + length (whole_text front) + length (opening a)
quoted_there start [] a others are = omega (arith, are.0)
quoted_there start (x ∷ xs) a others are = omega (arith, quoted_there (start + length (comma_text (matcher_of x))) xs a others are.1, length-append (comma_text (matcher_of x)) (whole_text xs))

-- ---- stages

-- up to the last comma, or to the opening brace
abbrev pub before_text : List ℕ → List Asked → List ℕ
before_text metric listed = metric ++ 123 ∷ whole_text listed

-- what is read of matchers is well formed
pub record AreRead (metric : List ℕ) (listed : List Asked) : Type 0 where
  pub is_metric : IsMetric metric
  pub named : All (λ (a : Asked). is_name a.name ≡ true) listed
  pub placed : AreQuoted (length metric + 1) listed

-- a part of a matcher behind the last comma
pub record IsInside (metric : List ℕ) (listed : List Asked) (text part : List ℕ) : Type 0 where
  pub read : AreRead metric listed
  pub text_is : text ≡ before_text metric listed ++ part

-- a name stands, and no value yet
pub record IsNamed (a : Asked) : Type 0 where
  pub named : is_name a.name ≡ true
  pub no_value : a.value ≡ []

-- a quote has opened
pub record IsOpened (metric : List ℕ) (listed : List Asked) (a : Asked) : Type 0 where
  pub named : is_name a.name ≡ true
  pub quote : a.quote ≡ length (before_text metric listed ++ opening a)

pub record IsClosed (metric : List ℕ) (listed : List Asked) (text : List ℕ) : Type 0 where
  pub read : AreRead metric listed
  pub inside : List ℕ
  pub text_is : text ≡ metric ++ 123 ∷ (inside ++ 125 ∷ [])
  pub lists : AreListed inside (map matcher_of listed)

abbrev pub Reached : Stage → Draft → List ℕ → Type 0
Reached Start d text = (text ≡ []) × (d.metric ≡ []) × (d.listed ≡ []) × (d.asked ≡ nothing_asked)
Reached Metric d text = (text ≡ d.metric) × (is_metric_name d.metric ≡ true) × (d.listed ≡ []) × (d.asked ≡ nothing_asked)
Reached Comma d text = IsInside d.metric d.listed text [] × (d.asked ≡ nothing_asked)
Reached Name d text = IsInside d.metric d.listed text d.asked.name × IsNamed d.asked
Reached Exclamation d text = IsInside d.metric d.listed text (d.asked.name ++ 33 ∷ []) × IsNamed d.asked
Reached Equals d text = IsInside d.metric d.listed text (d.asked.name ++ 61 ∷ []) × IsNamed d.asked × (d.asked.operator ≡ Equal)
Reached Sign d text = IsInside d.metric d.listed text (opening d.asked) × IsNamed d.asked
Reached Value d text = IsInside d.metric d.listed text (opening d.asked ++ 34 ∷ quoted d.asked.value) × IsOpened d.metric d.listed d.asked
Reached Backslash d text = IsInside d.metric d.listed text (opening d.asked ++ 34 ∷ (quoted d.asked.value ++ 92 ∷ [])) × IsOpened d.metric d.listed d.asked
Reached Quote d text = IsInside d.metric d.listed text (opening d.asked ++ 34 ∷ (quoted d.asked.value ++ 34 ∷ [])) × IsOpened d.metric d.listed d.asked
Reached End d text = IsClosed d.metric d.listed text
