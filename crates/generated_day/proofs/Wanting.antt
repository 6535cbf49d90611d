-- Nothing but want of memory refuses a part of a text that spells a short script.
use Rattle.std.proofs.Common.{◌≡◌, ℕ, ◌+◌, Bool, true, false, not, ◌||◌, nat_lt, ◌==◌, List, [], ◌∷◌, ◌++◌, length, Option, Some, unwrap_or, Result, Ok, Err, OnOk, IfErr, ◌⊎◌, inl, inr, refl, sym, ap, ◌∙◌, subst, arith, codes, append-nil, append_assoc}
use Rattle.std.specs.List.{list_all}
use Rattle.std.specs.Str.{bytes_eq}
use Rattle.std.proofs.lemmas.Bool.{and_parts}
use Rattle.std.proofs.lemmas.Bool.Decides.{nat_tests}
use Rattle.std.proofs.lemmas.List.{length-append, same_from_push}
use Rattle.base.specs.Lines.{line_feed}
use Rattle.base.specs.Reading.{Gives}
use Rattle.base.proofs.Binds.{ok_not_err}
use Rattle.moment_core.specs.StandardRules.{standard_rules}
use Rattle.matchers.specs.SelectorText.{commas_text, opening_text}
use Rattle.script_fields.specs.Fields.{lines_of, next_field}
use Rattle.script_core.specs.GivenUp.{HasPattern, IsPatternAmong, IsPatternLine}
use Rattle.script_fields.specs.Limits.{longest_text}
use Rattle.script_core.specs.Lines.{Asked, has_begun, question_at}
use Rattle.script_core.specs.Parts.{AreNextGivenUp, HasRead, IsEnded, IsPartRefused, Reads, is_long, no_script}
use Rattle.script_core.specs.Reading.{lines_at, script_of}
use Rattle.script_core.specs.State.{State, start}
use Rattle.script_core.specs.View.{state_of}
use Rattle.script_core.specs.declared.part_reader.PartReader.{PartReader}
use Rattle.script_core.specs.declared.script.Script.{Script}
use Rattle.script_fields.specs.declared.script_refusal.ScriptRefusal.{ScriptRefusal}
use Rattle.script_fields.specs.declared.script_refusal.ScriptRefusal.TheVariants.{NoMemory}
use Rattle.script_core.proofs.AgainLines.{script_again}
use Rattle.script_fields.proofs.FieldLaws.{cut_again}
use Rattle.script_core.proofs.FoundPhases.{question_found}
use Rattle.script_core.proofs.LineTools.{kind_found}
use Rattle.script_core.proofs.PartLaws.{reads_both}
use Rattle.generated_day.specs.Wanting.{IsShortScript, IsWanting, ReadsOrWants}

-- what holds of all members holds of each
holds_there : {A : Type 0} (p : A → Bool) (earlier : List A) (one : A) (later : List A) → list_all p (earlier ++ one ∷ later) ≡ true → p one ≡ true
holds_there p [] one later all = (and_parts (p one) (list_all p later) all).0
holds_there p (first ∷ earlier) one later all =
    holds_there p earlier one later (and_parts (p first) (list_all p (earlier ++ one ∷ later)) all).1

-- ---- lines that ask by no pattern

abbrev is_unquoted : List ℕ → Bool
is_unquoted text = list_all (λ byte. not (byte == 34)) text

-- the text of a query's selector
abbrev selector_text : Option (List ℕ) → List ℕ
selector_text left = unwrap_or (next_field (next_field left).1).1 []

-- a line that is no query, or one whose selector has no quote
unfoldable pub is_plain : List ℕ → Bool
is_plain line =
    not (bytes_eq (next_field (Some line)).0 (codes "query")) || is_unquoted (selector_text (next_field (Some line)).1)

no_pattern : (text : List ℕ) → is_unquoted text ≡ true → HasPattern text → ⊥
no_pattern text unquoted has =
    let stands = has.1.1 in
    let front = stands.metric ++ 123 ∷ (commas_text stands.before ++ opening_text has.1.0) in
    let bad : not (34 == 34) ≡ true = holds_there (λ byte. not (byte == 34)) front 34 stands.rest (subst (λ t. is_unquoted t ≡ true) stands.stands unquoted) in
    absurd cc

selector_is : (st : State) (left : Option (List ℕ)) (asked : Asked) → question_at (has_begun st) left ≡ Ok asked → asked.text ≡ selector_text left
selector_is st left asked is =
    let asks = question_found st left asked is in
    let rest : List ℕ = asks.high_text ++ 32 ∷ asked.text in
    let first = ap next_field asks.left_is ∙ cut_again asks.low_text rest asks.is_low.field.no_space in
    let second = cut_again asks.high_text asked.text asks.is_high.field.no_space in
    sym (ap (λ (p : List ℕ × Option (List ℕ)). unwrap_or (next_field p.1).1 []) first ∙ ap (λ (p : List ℕ × Option (List ℕ)). unwrap_or p.1 []) second)

no_pattern_line : (st : State) (line : List ℕ) → is_plain line ≡ true → IsPatternLine st line → ⊥
unfolding is_plain
no_pattern_line st line plain is =
    let left = (next_field (Some line)).1 in
    let word : (next_field (Some line)).0 ≡ codes "query" = kind_found _ _ is.is_query in
    let query : bytes_eq (next_field (Some line)).0 (codes "query") ≡ true = ap (λ w. bytes_eq w (codes "query")) word in
    let unquoted : is_unquoted (selector_text left) ≡ true = subst (λ b. (not b || is_unquoted (selector_text left)) ≡ true) query plain in
    let text_is = selector_is is.before left is.asks.asked is.asks.is_asked in
    no_pattern is.asks.asked.text (subst (λ t. is_unquoted t ≡ true) (sym text_is) unquoted) is.asks.pattern

no_pattern_among : (st : State) (number : ℕ) (all : List (List ℕ)) (at : ℕ) → list_all is_plain all ≡ true → IsPatternAmong st number all at → ⊥
no_pattern_among st number all at plain is =
    no_pattern_line is.before is.line (holds_there is_plain is.earlier is.line is.later (subst (λ (ls : List (List ℕ)). list_all is_plain ls ≡ true) is.stands plain)) is.asks

-- ---- refusals

lines_refused : (text : List ℕ) (refusal : ScriptRefusal) → nat_lt longest_text (length text) ≡ false → lines_at (start standard_rules) 1 (lines_of text) ≡ Err refusal → script_of text ≡ Err refusal
unfolding script_of
lines_refused text refusal short refused = rw (short, refused) refl

not_refused : (text : List ℕ) (refusal : ScriptRefusal) → IsShortScript text → lines_at (start standard_rules) 1 (lines_of text) ≡ Err refusal → ⊥
not_refused text refusal whole refused =
    let fits = whole.short in
    let short : nat_lt longest_text (length text) ≡ false = grind (arith, nat_tests) in
    ok_not_err whole.script refusal (script_of text) (script_again text whole.script whole.spelled) (lines_refused text refusal short refused)

module _ (before : PartReader) (text : List ℕ) (refusal : ScriptRefusal) where
  part_wants : IsPartRefused before text refusal → IsWanting before text refusal
  part_wants (is_long is long) = inr (λ read more has whole.
      omega (
        arith,
        long read has,
        whole.short,
        length-append read text,
        length-append read (text ++ more),
        length-append text more,
      ))
  part_wants (no_script refused) =
      inr (λ read more has whole. not_refused (read ++ (text ++ more)) refusal whole (refused read more has))

  series_want : (refusal ≡ NoMemory) ⊎ IsPartRefused before text refusal → IsWanting before text refusal
  series_want (inl memory) = inl memory
  series_want (inr refused) = part_wants refused

  pub lines_want : list_all is_plain (lines_of text) ≡ true → AreNextGivenUp before text refusal ⊎ IsPartRefused before text refusal → IsWanting before text refusal
  lines_want plain (inl (inl memory)) = inl memory
  lines_want plain (inl (inr large)) =
      absurd (no_pattern_among (state_of before.draft) (before.lines + 1) (lines_of text) large.0 plain large.2)
  lines_want plain (inr refused) = part_wants refused

  -- more behind it
  pub first_wants : (rest : List ℕ) → IsWanting before text refusal → IsWanting before (text ++ rest) refusal
  first_wants rest (inl memory) = inl memory
  first_wants rest (inr nowhere) = inr (λ read more has whole.
      nowhere read (rest ++ more) has (subst (λ t. IsShortScript (read ++ t)) (append_assoc text rest more) whole))

  -- and before it
  pub then_wants : (old : PartReader) (front : List ℕ) → Reads old before front → IsWanting before text refusal → IsWanting old (front ++ text) refusal
  then_wants old front reads (inl memory) = inl memory
  then_wants old front reads (inr nowhere) = inr (λ read more has whole.
      nowhere (read ++ front) more (reads read has) (subst IsShortScript (ap (λ t. read ++ t) (append_assoc front text more) ∙ sym (append_assoc read front (text ++ more))) whole))

-- ---- what a reader answers

module _ {A : Type 0} (before after : PartReader) (text : List ℕ) where
  pub series_end : (result : Result A ScriptRefusal) → OnOk result (Reads before after text) → IfErr result (λ e. (e ≡ NoMemory) ⊎ IsPartRefused before text e) → ReadsOrWants before after text result
  series_end (Ok done) reads refused = reads
  series_end (Err e) reads refused = series_want before text e refused

  pub lines_end : (result : Result A ScriptRefusal) → list_all is_plain (lines_of text) ≡ true → OnOk result (Reads before after text) → IfErr result (λ e. AreNextGivenUp before text e ⊎ IsPartRefused before text e) → ReadsOrWants before after text result
  lines_end (Ok done) plain reads refused = reads
  lines_end (Err e) plain reads refused = lines_want before text e plain refused

  -- behind a front
  pub both_end : (result : Result A ScriptRefusal) (old : PartReader) (front : List ℕ) → Reads old before front → ReadsOrWants before after text result → ReadsOrWants old after (front ++ text) result
  both_end (Ok done) old front first second = reads_both old before after front text first second
  both_end (Err e) old front first second = then_wants before text e old front first second

-- what is refused of a whole script
pub whole_wants : (before : PartReader) (text : List ℕ) (refusal : ScriptRefusal) → HasRead before [] → IsShortScript text → IsWanting before text refusal → refusal ≡ NoMemory
whole_wants before text refusal has whole (inl memory) = memory
whole_wants before text refusal has whole (inr nowhere) =
    absurd (nowhere [] [] has (subst IsShortScript (sym (append-nil text)) whole))

pub script_wants : (text : List ℕ) (result : Result Script ScriptRefusal) → IsShortScript text → Gives NoMemory (λ (script : Script). script) result (script_of text) → IfErr result (λ e. e ≡ NoMemory)
script_wants text (Ok script) whole gives = tt
script_wants text (Err e) whole (inl memory) = memory
script_wants text (Err e) whole (inr refused) =
    absurd (ok_not_err whole.script e (script_of text) (script_again text whole.script whole.spelled) refused)

-- ---- ends

pub ended_by : (line : List ℕ) → IsEnded (line ++ line_feed ∷ [])
ended_by line front byte is = sym (same_from_push line front line_feed byte is).1
