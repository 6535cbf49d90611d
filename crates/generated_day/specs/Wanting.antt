-- How the reading of a part of the day's text ends.
use Rattle.std.specs.Prelude.{◌≡◌, ◌⊎◌, ◌*◌, ◌≤◌, ℕ, List, ◌++◌, length, Result, MatchResult}
use Rattle.script_fields.specs.Limits.{longest_text}
use Rattle.script_core.specs.Parts.{HasRead, Reads}
use Rattle.script_core.specs.Spelling.{Spells}
use Rattle.script_core.specs.declared.part_reader.PartReader.{PartReader}
use Rattle.script_core.specs.declared.script.Script.{Script}
use Rattle.script_fields.specs.declared.script_refusal.ScriptRefusal.{ScriptRefusal}
use Rattle.script_fields.specs.declared.script_refusal.ScriptRefusal.TheVariants.{NoMemory}

-- The text spells a script, and has at most half of the bytes that one may have.
pub record IsShortScript (text : List ℕ) : Type 0 where
  pub script : Script
  pub spelled : Spells text script
  pub short : 2 * length text ≤ longest_text

-- Behind what was read, the text stands in no such text.
abbrev pub StandsNowhere : PartReader → List ℕ → Type 0
StandsNowhere before text = (read more : List ℕ) → HasRead before read → ¬ IsShortScript (read ++ (text ++ more))

-- Memory was wanting, unless the text stands nowhere.
abbrev pub IsWanting : PartReader → List ℕ → ScriptRefusal → Type 0
IsWanting before text refusal = (refusal ≡ NoMemory) ⊎ StandsNowhere before text

-- The text is read, or memory was wanting.
abbrev pub ReadsOrWants : {A : Type 0} → PartReader → PartReader → List ℕ → Result A ScriptRefusal → Type 0
ReadsOrWants before after text result = MatchResult result (λ _. Reads before after text) (IsWanting before text)
