-- What is refused though nothing of it is wrong: for want of memory, or for the size of a lawful pattern. Of which sizes
-- `regex` builds a pattern, no definition says.
use Rattle.std.specs.Prelude.{◌≡◌, ◌≢◌, ◌⊎◌, ℕ, ◌+◌, ◌≤◌, ℤ, ◌≤ℤ◌, List, [], ◌∷◌, ◌++◌, length, true, false, Option, Some, Result, Ok, Err, MatchResult, codes}
use Rattle.std.specs.Str.{is_utf8}
use Rattle.matchers.specs.SelectorRefusals.{HasGoodPattern}
use Rattle.moment_core.specs.StandardRules.{standard_rules}
use Rattle.script_fields.specs.Limits.{longest_text}
use Rattle.script_fields.specs.declared.cause.LineCause.{LineCause}
use Rattle.script_fields.specs.declared.cause.LineCause.TheVariants.{PatternSizeText}
use Rattle.script_fields.specs.declared.line_kind.LineKind.{LineKind}
use Rattle.script_fields.specs.declared.line_kind.LineKind.TheVariants as kinds
use Rattle.script_fields.specs.declared.line_refusal.LineRefusal.{LineRefusal}
use Rattle.script_fields.specs.declared.line_refusal.LineRefusal.TheVariants as lines
use Rattle.script_fields.specs.declared.script_refusal.ScriptRefusal.{ScriptRefusal}
use Rattle.script_fields.specs.declared.script_refusal.ScriptRefusal.TheVariants as scripts
use Rattle.script_fields.specs.Fields.{lines_of, is_silent, next_field, line_kind}
use Rattle.script_core.specs.State.{State, start, end_block}
use Rattle.script_core.specs.Lines.{Asked, has_begun, question_at}
use Rattle.script_core.specs.Reading.{lines_at}
use Rattle.script_core.specs.Spelling.{spaced, IsTimeText, SoFar, nothing, HasEnded, Say}

-- What a function of the code returned, seen by view, is what the reading function gives, unless the function gave up.
abbrev pub GivesUnless : {X Y E : Type 0} → (E → Type 0) → (X → Y) → Result X E → Result Y E → Type 0
GivesUnless is_given_up view result read =
    MatchResult result (λ x. read ≡ Ok (view x)) (λ e. is_given_up e ⊎ (read ≡ Err e))

-- Some pattern of a selector's text is lawful, and those before it are too.
abbrev pub HasPattern : List ℕ → Type 0
HasPattern text = (place : ℕ) × HasGoodPattern text place

-- ---- the texts that are given up

-- A query in a phase, for times in order, by a selector that has such a pattern.
pub record AsksByPattern (before : SoFar) (line : List ℕ) : Type 0 where
  pub low_text : List ℕ
  pub high_text : List ℕ
  pub selector_text : List ℕ
  pub low : ℤ
  pub high : ℤ
  pub spelled : line ≡ spaced (codes "query" ∷ low_text ∷ high_text ∷ selector_text ∷ [])
  pub is_low : IsTimeText low_text low
  pub is_high : IsTimeText high_text high
  pub begun : before.script.phases ≢ []
  pub times : low ≤ℤ high
  pub pattern : HasPattern selector_text

-- The line with this number is such a query, behind lines that are as they should be.
pub record HasPatternLine (text : List ℕ) (number : ℕ) : Type 0 where
  pub short : length text ≤ longest_text
  pub earlier : List (List ℕ)
  pub line : List ℕ
  pub later : List (List ℕ)
  pub stands : lines_of text ≡ earlier ++ line ∷ later
  pub number_is : number ≡ length earlier + 1
  pub before : SoFar
  pub said : Say nothing 1 earlier before
  pub ended : HasEnded before.script.blocks
  pub asks : AsksByPattern before line

abbrev pub IsGivenUpFor : List ℕ → ℕ → LineCause → Type 0
IsGivenUpFor text number PatternSizeText = HasPatternLine text number
IsGivenUpFor text number other = ⊥

-- The text is given up.
abbrev pub IsGivenUp : List ℕ → ScriptRefusal → Type 0
IsGivenUp text (scripts.BadLine number cause) = IsGivenUpFor text number cause
IsGivenUp text scripts.NoMemory = Unit {0}
IsGivenUp text other = ⊥

-- ---- the same on the way through a text

abbrev pub IsSelectorGivenUp : List ℕ → LineRefusal → Type 0
IsSelectorGivenUp text refusal =
    (refusal ≡ lines.NoMemory) ⊎ ((refusal ≡ lines.Bad PatternSizeText) × HasPattern text)

-- a query whose line is lawful up to its selector, which has such a pattern
pub record AsksPattern (st : State) (left : Option (List ℕ)) : Type 0 where
  pub asked : Asked
  pub is_asked : question_at (has_begun st) left ≡ Ok asked
  pub pattern : HasPattern asked.text

abbrev pub IsQueryGivenUp : State → Option (List ℕ) → LineRefusal → Type 0
IsQueryGivenUp st left refusal =
    (refusal ≡ lines.NoMemory) ⊎ ((refusal ≡ lines.Bad PatternSizeText) × AsksPattern st left)

abbrev pub IsKindGivenUp : State → Option LineKind → Option (List ℕ) → LineRefusal → Type 0
IsKindGivenUp st kind left refusal =
    (refusal ≡ lines.NoMemory)
    ⊎ ((refusal ≡ lines.Bad PatternSizeText) × (kind ≡ Some kinds.Query) × AsksPattern st left)

-- The block ends before the query's line.
pub record IsPatternLine (st : State) (line : List ℕ) : Type 0 where
  pub before : State
  pub ended : end_block st ≡ Ok before
  pub is_query : line_kind (next_field (Some line)).0 ≡ Some kinds.Query
  pub asks : AsksPattern before (next_field (Some line)).1

abbrev pub IsTextGivenUp : State → ℕ → List ℕ → ScriptRefusal → Type 0
IsTextGivenUp st number line refusal =
    (refusal ≡ scripts.NoMemory) ⊎ ((refusal ≡ scripts.BadLine number PatternSizeText) × IsPatternLine st line)

abbrev pub IsLineGivenUp : State → ℕ → List ℕ → ScriptRefusal → Type 0
IsLineGivenUp st number line refusal =
    (refusal ≡ scripts.NoMemory)
    ⊎ ((refusal ≡ scripts.BadLine number PatternSizeText) × (is_silent line ≡ false) × (is_utf8 line ≡ true) × IsPatternLine st line)

-- one of these lines, the first of which has a number, is such a query, and those before it are read
pub record IsPatternAmong (st : State) (number : ℕ) (all : List (List ℕ)) (at : ℕ) : Type 0 where
  pub earlier : List (List ℕ)
  pub line : List ℕ
  pub later : List (List ℕ)
  pub stands : all ≡ earlier ++ line ∷ later
  pub at_is : at ≡ number + length earlier
  pub before : State
  pub read : lines_at st number earlier ≡ Ok before
  pub spoken : is_silent line ≡ false
  pub utf8 : is_utf8 line ≡ true
  pub asks : IsPatternLine before line

abbrev pub AreLinesGivenUp : State → ℕ → List (List ℕ) → ScriptRefusal → Type 0
AreLinesGivenUp st number all refusal =
    (refusal ≡ scripts.NoMemory)
    ⊎ ((at : ℕ) × (refusal ≡ scripts.BadLine at PatternSizeText) × IsPatternAmong st number all at)

abbrev pub IsWholeGivenUp : List ℕ → ScriptRefusal → Type 0
IsWholeGivenUp text refusal =
    (length text ≤ longest_text) × AreLinesGivenUp (start standard_rules) 1 (lines_of text) refusal
