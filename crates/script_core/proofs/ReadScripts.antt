-- What `Script::read` answers.
use Rattle.std.proofs.Common.{◌≡◌, ◌≢◌, ℕ, ◌≤◌, true, List, [], ◌∷◌, ◌++◌, length, Option, Some, None, is_some, Result, Ok, Err, IfOk, MatchResult, inl, inr, sym, ap, ◌∙◌, subst, arith}
use Rattle.base.proofs.Binds.{one_answer, ok_not_err}
use Rattle.moment_core.specs.StandardRules.{standard_rules}
use Rattle.script_fields.specs.declared.line_kind.LineKind.TheVariants as kinds
use Rattle.script_core.specs.declared.script.Script.{Script}
use Rattle.script_fields.specs.declared.script_refusal.ScriptRefusal.{ScriptRefusal}
use Rattle.script_workers.specs.declared.phase.Phase.{Phase}
use Rattle.script_fields.specs.Fields.{lines_of, next_field}
use Rattle.script_core.specs.GivenUp.{GivesUnless, IsGivenUp, IsWholeGivenUp, IsPatternAmong, IsPatternLine, HasPatternLine, AsksByPattern}
use Rattle.script_core.specs.Lawful.{IsLawfulScript}
use Rattle.script_fields.specs.Limits.{longest_text}
use Rattle.script_core.specs.Reading.{script_of}
use Rattle.script_core.specs.Spelling.{SoFar, Say, Spells}
use Rattle.script_core.specs.State.{State, all_phases, start}
use Rattle.script_core.proofs.FoundLines.{end_found, lines_found, script_found, starts_of}
use Rattle.script_core.proofs.FoundPhases.{question_found}
use Rattle.script_core.proofs.FoundSetup.{closed}
use Rattle.script_core.proofs.AgainLines.{script_again}
use Rattle.script_core.proofs.Kept.{so_far_of, start_kept, start_is}
use Rattle.script_core.proofs.LawfulScripts.{spelled_lawful}
use Rattle.base.proofs.Lists.{pushed_not_nil}

some_phase : (phases : List Phase) (phase : Option Phase) → is_some phase ≡ true → all_phases phases phase ≢ []
some_phase phases None some = absurd cc
some_phase phases (Some phase) some = pushed_not_nil phases phase

-- a query's line that is given up, in the words of its text
asks_by_pattern : (st : State) (line : List ℕ) (is : IsPatternLine st line) → closed st ≡ is.before → AsksByPattern (so_far_of st) line
asks_by_pattern st line is same =
    let asks = question_found is.before (next_field (Some line)).1 is.asks.asked is.asks.is_asked in
    record {
      low_text = asks.low_text;
      high_text = asks.high_text;
      selector_text = is.asks.asked.text;
      low = is.asks.asked.low;
      high = is.asks.asked.high;
      spelled = starts_of line kinds.Query is.is_query (asks.low_text ++ 32 ∷ (asks.high_text ++ 32 ∷ is.asks.asked.text)) asks.left_is;
      is_low = asks.is_low;
      is_high = asks.is_high;
      begun = some_phase st.phases st.phase (ap (λ (s : State). is_some s.phase) same ∙ asks.begun);
      times = asks.times;
      pattern = is.asks.pattern;
    }

has_pattern_line : (text : List ℕ) (number : ℕ) → length text ≤ longest_text → IsPatternAmong (start standard_rules) 1 (lines_of text) number → HasPatternLine text number
has_pattern_line text number short is =
    let earlier = lines_found (start standard_rules) is.before 1 is.earlier start_kept is.read in
    let end = end_found is.before is.asks.before earlier.1 is.asks.ended in
    record {
      short = short;
      earlier = is.earlier;
      line = is.line;
      later = is.later;
      stands = is.stands;
      number_is = omega (arith, is.at_is);
      before = so_far_of is.before;
      said = subst (λ (s : SoFar). Say s 1 is.earlier (so_far_of is.before)) start_is earlier.0;
      ended = end.0;
      asks = asks_by_pattern is.before is.line is.asks end.1;
    }

given_up : (text : List ℕ) (refusal : ScriptRefusal) → IsWholeGivenUp text refusal → IsGivenUp text refusal
given_up text refusal (short, inl memory) = subst (IsGivenUp text) (sym memory) tt
given_up text refusal (short, inr large) =
    subst (IsGivenUp text) (sym large.1) (has_pattern_line text large.0 short large.2)

abbrev Reads : List ℕ → Result Script ScriptRefusal → Type 0
Reads text result = GivesUnless (IsWholeGivenUp text) (λ (script : Script). script) result (script_of text)

pub gives_of : (text : List ℕ) (result : Result Script ScriptRefusal) → Reads text result → GivesUnless (IsGivenUp text) (λ (script : Script). script) result (script_of text)
gives_of text (Ok script) read = read
gives_of text (Err refusal) (inl whole) = inl (given_up text refusal whole)
gives_of text (Err refusal) (inr refused) = inr refused

pub found_of : (text : List ℕ) (result : Result Script ScriptRefusal) → Reads text result → IfOk result (λ script. Spells text script)
found_of text (Ok script) read = script_found text script read
found_of text (Err refusal) read = tt

pub lawful_of : (text : List ℕ) (result : Result Script ScriptRefusal) → Reads text result → IfOk result (λ script. IsLawfulScript script)
lawful_of text (Ok script) read = spelled_lawful text script (script_found text script read)
lawful_of text (Err refusal) read = tt

pub only_of : (text : List ℕ) (result : Result Script ScriptRefusal) → Reads text result → (script : Script) → Spells text script → MatchResult result (λ read. read ≡ script) (IsGivenUp text)
only_of text (Ok read) gives script spells = one_answer read script (script_of text) gives (script_again text script spells)
only_of text (Err refusal) (inl whole) script spells = given_up text refusal whole
only_of text (Err refusal) (inr refused) script spells =
    absurd (ok_not_err script refusal (script_of text) (script_again text script spells) refused)
