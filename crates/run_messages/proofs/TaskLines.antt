-- The lines of a script's tasks, one after another.
use Rattle.std.proofs.Common.{◌≡◌, ℕ, ◌+◌, ◌==◌, Bool, true, List, [], ◌∷◌, ◌++◌, length, refl, ap, sym, ◌∙◌, arith, append_assoc, append-nil}
use Rattle.std.specs.List.{before_first, after_first}
use Rattle.std.proofs.lemmas.Bool.Decides.{nat_tests}
use Rattle.script_fields.specs.Fields.{is_newline, lines_of}
use Rattle.run_messages.specs.ScriptLines.{is_task_kind, kind_of, number_if, task_lines}
use Rattle.run_messages.specs.Told.{spoken}
use Rattle.run_messages.proofs.LineWalks.{walks_on}

-- the empty line has no task
tasks_empty : (number : ℕ) → task_lines number (lines_of []) ≡ []
unfolding task_lines kind_of spoken
tasks_empty number = refl

tasks_end : (number : ℕ) (line : List ℕ) → task_lines number (line ∷ []) ≡ task_lines number (line ∷ [] ∷ [])
unfolding task_lines
tasks_end number line = ap (λ (rest : List ℕ). number_if (is_task_kind (kind_of line)) number ++ rest) (sym (tasks_empty (number + 1)))

tasks_next : (number : ℕ) (text line rest : List ℕ) → line ≡ before_first is_newline text → rest ≡ after_first is_newline text
    → task_lines number (lines_of text) ≡ number_if (is_task_kind (kind_of line)) number ++ task_lines (number + 1) (lines_of rest)
unfolding task_lines
tasks_next number text line rest line_is rest_is = rw (line_is, rest_is) (walks_on (task_lines number) (tasks_end number) text)

-- the tasks of the front, and those of the lines that are left, are all
pub tasks_go_on : (number : ℕ) (text line rest : List ℕ) (has : Bool) (tasks more whole : List ℕ) → line ≡ before_first is_newline text → rest ≡ after_first is_newline text
    → is_task_kind (kind_of line) ≡ has → more ≡ tasks ++ number_if has number → tasks ++ task_lines number (lines_of text) ≡ whole → more ++ task_lines (number + 1) (lines_of rest) ≡ whole
tasks_go_on number text line rest has tasks more whole line_is rest_is has_is more_is so_far =
    let next = tasks_next number text line rest line_is rest_is in
    rw (more_is, sym has_is) (append_assoc tasks (number_if (is_task_kind (kind_of line)) number) (task_lines (number + 1) (lines_of rest)) ∙ ap (λ (r : List ℕ). tasks ++ r) (sym next) ∙ so_far)

pub tasks_whole : (number : ℕ) (text tasks whole : List ℕ) → (length text == 0) ≡ true → tasks ++ task_lines number (lines_of text) ≡ whole → tasks ≡ whole
tasks_whole number [] tasks whole none so_far = sym (append-nil tasks) ∙ ap (λ (rest : List ℕ). tasks ++ rest) (sym (tasks_empty number)) ∙ so_far
tasks_whole number (byte ∷ text) tasks whole none so_far = absurd (grind (arith, nat_tests))
