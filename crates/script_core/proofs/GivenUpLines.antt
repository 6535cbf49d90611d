-- A query that is given up, from its selector to its whole text.
use Rattle.std.proofs.Common.{◌≡◌, ℕ, true, false, nat_lt, List, Option, Some, Ok, Err, ◌⊎◌, inl, inr, refl, sym, ap, ◌∙◌, arith, length}
use Rattle.std.specs.Str.{is_utf8}
use Rattle.std.proofs.lemmas.Bool.Decides.{nat_tests}
use Rattle.moment_core.specs.StandardRules.{standard_rules}
use Rattle.script_fields.specs.declared.line_kind.LineKind.{LineKind}
use Rattle.script_fields.specs.declared.line_kind.LineKind.TheVariants as kinds
use Rattle.script_fields.specs.declared.line_refusal.LineRefusal.{LineRefusal}
use Rattle.script_fields.specs.declared.script_refusal.ScriptRefusal.{ScriptRefusal}
use Rattle.script_fields.specs.Fields.{lines_of, is_silent, next_field, line_kind}
use Rattle.script_core.specs.GivenUp.{IsSelectorGivenUp, IsQueryGivenUp, IsKindGivenUp, IsTextGivenUp, IsLineGivenUp, AreLinesGivenUp, IsWholeGivenUp}
use Rattle.script_fields.specs.Limits.{longest_text}
use Rattle.script_fields.specs.LineRefusals.{bad}
use Rattle.script_core.specs.Lines.{Asked, has_begun, query_line, question_at, selector_field}
use Rattle.script_fields.specs.LineRefusals.{of_line}
use Rattle.script_core.specs.Reading.{is_series}
use Rattle.script_core.specs.State.{State, start, end_block}

-- a query whose selector is given up
query_given_up : (st : State) (left : Option (List ℕ)) (asked : Asked) (refusal : LineRefusal) → question_at (has_begun st) left ≡ Ok asked → IsSelectorGivenUp asked.text refusal → IsQueryGivenUp st left refusal
query_given_up st left asked refusal is (inl memory) = inl memory
query_given_up st left asked refusal is (inr large) =
    inr (large.0, record { asked = asked; is_asked = is; pattern = large.1 })

-- a query whose selector is refused
pub query_refused : (st : State) (number : ℕ) (left : Option (List ℕ)) (asked : Asked) (refusal : LineRefusal) → question_at (has_begun st) left ≡ Ok asked
    → IsSelectorGivenUp asked.text refusal ⊎ (bad (selector_field st.rules.replicas asked.text) ≡ Err refusal) → IsQueryGivenUp st left refusal ⊎ (query_line st number left ≡ Err refusal)
unfolding query_line
query_refused st number left asked refusal is (inl given_up) = inl (query_given_up st left asked refusal is given_up)
query_refused st number left asked refusal is (inr refused) = inr (rw (is, refused) refl)

-- a line of fields that is a query
pub kind_given_up : (st : State) (left : Option (List ℕ)) (refusal : LineRefusal) → IsQueryGivenUp st left refusal → IsKindGivenUp st (Some kinds.Query) left refusal
kind_given_up st left refusal (inl memory) = inl memory
kind_given_up st left refusal (inr large) = inr (large.0, refl, large.1)

-- the line of a query, behind a block that ends
pub text_given_up : (st before : State) (number : ℕ) (line : List ℕ) (refusal : LineRefusal) → end_block st ≡ Ok before
    → IsKindGivenUp before (line_kind (next_field (Some line)).0) (next_field (Some line)).1 refusal → IsTextGivenUp st number line (of_line number refusal)
text_given_up st before number line refusal ended (inl memory) = inl (ap (of_line number) memory)
text_given_up st before number line refusal ended (inr large) =
    inr (ap (of_line number) large.0, record { before = before; ended = ended; is_query = large.1; asks = large.2 })

-- a series line is no query
pub series_given_up : (st : State) (number : ℕ) (line : List ℕ) (kind : Option LineKind) (left : Option (List ℕ)) (refusal : LineRefusal) → is_series kind ≡ true → IsKindGivenUp st kind left refusal
    → IsTextGivenUp st number line (of_line number refusal)
series_given_up st number line kind left refusal series (inl memory) = inl (ap (of_line number) memory)
series_given_up st number line kind left refusal series (inr large) =
    let query : is_series (Some kinds.Query) ≡ true = ap is_series (sym large.1) ∙ series in absurd cc

pub line_given_up : (st : State) (number : ℕ) (line : List ℕ) (refusal : ScriptRefusal) → is_silent line ≡ false → is_utf8 line ≡ true → IsTextGivenUp st number line refusal → IsLineGivenUp st number line refusal
line_given_up st number line refusal spoken utf8 (inl memory) = inl memory
line_given_up st number line refusal spoken utf8 (inr large) = inr (large.0, spoken, utf8, large.1)

pub whole_given_up : (text : List ℕ) (refusal : ScriptRefusal) → nat_lt longest_text (length text) ≡ false → AreLinesGivenUp (start standard_rules) 1 (lines_of text) refusal → IsWholeGivenUp text refusal
whole_given_up text refusal short given_up = (grind (arith, nat_tests), given_up)
