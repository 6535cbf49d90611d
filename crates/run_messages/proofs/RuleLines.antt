-- The rules that lines set, one after another.
use Rattle.std.proofs.Common.{◌≡◌, ℕ, ◌==◌, Bool, true, false, List, [], ◌∷◌, length, refl, ap, sym, ◌∙◌, arith, if◌then◌else◌}
use Rattle.std.specs.List.{before_first, after_first}
use Rattle.std.proofs.lemmas.Bool.Decides.{nat_tests}
use Rattle.moment_core.specs.declared.rules.Rules.{Rules}
use Rattle.script_fields.specs.Fields.{is_newline, lines_of}
use Rattle.run_messages.specs.RuleConflicts.{is_phase, rules_by, with_line}
use Rattle.run_messages.specs.ScriptLines.{kind_of}
use Rattle.run_messages.specs.Told.{spoken}
use Rattle.run_messages.proofs.LineWalks.{walks_on}

-- the empty line sets nothing
rules_empty : (rules : Rules) → rules_by rules (lines_of []) ≡ rules
unfolding rules_by with_line kind_of spoken
rules_empty rules = refl

rules_end : (rules : Rules) (line : List ℕ) → rules_by rules (line ∷ []) ≡ rules_by rules (line ∷ [] ∷ [])
unfolding rules_by
rules_end rules line = ap (λ (behind : Rules). if is_phase (kind_of line) then rules else behind) (sym (rules_empty (with_line rules line)))

module _ (rules : Rules) (text line rest : List ℕ) (line_is : line ≡ before_first is_newline text) (rest_is : rest ≡ after_first is_newline text) where
  rules_next : rules_by rules (lines_of text) ≡ (if is_phase (kind_of line) then rules else rules_by (with_line rules line) (lines_of rest))
  unfolding rules_by
  rules_next = rw (line_is, rest_is) (walks_on (rules_by rules) (rules_end rules) text)

  -- what the lines that are left set, is what all set
  pub rules_go_on : (set whole : Rules) → is_phase (kind_of line) ≡ false → set ≡ with_line rules line → rules_by rules (lines_of text) ≡ whole → rules_by set (lines_of rest) ≡ whole
  rules_go_on set whole later set_is so_far = rw set_is (sym (rules_next ∙ ap (λ (b : Bool). if b then rules else rules_by (with_line rules line) (lines_of rest)) later) ∙ so_far)

  -- at the first phase all are set
  pub rules_stop : (whole : Rules) → is_phase (kind_of line) ≡ true → rules_by rules (lines_of text) ≡ whole → rules ≡ whole
  rules_stop whole phase so_far = sym (rules_next ∙ ap (λ (b : Bool). if b then rules else rules_by (with_line rules line) (lines_of rest)) phase) ∙ so_far

pub rules_whole : (rules : Rules) (text : List ℕ) (whole : Rules) → (length text == 0) ≡ true → rules_by rules (lines_of text) ≡ whole → rules ≡ whole
rules_whole rules [] whole none so_far = sym (rules_empty rules) ∙ so_far
rules_whole rules (byte ∷ text) whole none so_far = absurd (grind (arith, nat_tests))
