-- What the lines of a report tell, one after another.
use Rattle.std.proofs.Common.{◌≡◌, ℕ, ◌==◌, true, List, [], ◌∷◌, ◌++◌, length, refl, ap, sym, ◌∙◌, arith, append_assoc, append-nil}
use Rattle.std.specs.Prelude.{Option}
use Rattle.std.specs.List.{before_first, after_first}
use Rattle.std.proofs.lemmas.Bool.Decides.{nat_tests}
use Rattle.script_fields.specs.Fields.{is_newline, lines_of}
use Rattle.run_messages.specs.Told.{spoken, tasks_with, told_by, told_with}
use Rattle.run_messages.specs.declared.told.Told.{Told}
use Rattle.run_messages.proofs.LineWalks.{walks_on}

-- the empty line tells nothing
told_empty : (tasks : ℕ) → told_by tasks (lines_of []) ≡ []
unfolding told_by spoken
told_empty tasks = refl

told_ends : (tasks : ℕ) (line : List ℕ) → told_by tasks (line ∷ []) ≡ told_by tasks (line ∷ [] ∷ [])
unfolding told_by
told_ends tasks line =
    let now = tasks_with tasks (spoken line) in
    ap (λ (rest : List Told). told_with now (spoken line) ++ rest) (sym (told_empty now))

-- the first line tells, and then the lines behind it
told_next : (tasks : ℕ) (text line rest : List ℕ) (said : Option (List ℕ)) → line ≡ before_first is_newline text → rest ≡ after_first is_newline text → said ≡ spoken line
    → told_by tasks (lines_of text) ≡ told_with (tasks_with tasks said) said ++ told_by (tasks_with tasks said) (lines_of rest)
unfolding told_by
told_next tasks text line rest said line_is rest_is said_is = rw (said_is, line_is, rest_is) (walks_on (told_by tasks) (told_ends tasks) text)

-- what was told of the front, with what the lines that are left tell, is what all tell
pub tells_on : (tasks now : ℕ) (text line rest : List ℕ) (said : Option (List ℕ)) (told more whole : List Told) → line ≡ before_first is_newline text → rest ≡ after_first is_newline text → said ≡ spoken line
    → now ≡ tasks_with tasks said → more ≡ told ++ told_with now said → told ++ told_by tasks (lines_of text) ≡ whole → more ++ told_by now (lines_of rest) ≡ whole
tells_on tasks now text line rest said told more whole line_is rest_is said_is now_is more_is so_far =
    let next = told_next tasks text line rest said line_is rest_is said_is in
    rw (more_is, now_is) (append_assoc told (told_with (tasks_with tasks said) said) (told_by (tasks_with tasks said) (lines_of rest)) ∙ ap (λ (r : List Told). told ++ r) (sym next) ∙ so_far)

pub told_whole : (tasks : ℕ) (text : List ℕ) (told whole : List Told) → (length text == 0) ≡ true → told ++ told_by tasks (lines_of text) ≡ whole → told ≡ whole
told_whole tasks [] told whole none so_far = sym (append-nil told) ∙ ap (λ (rest : List Told). told ++ rest) (sym (told_empty tasks)) ∙ so_far
told_whole tasks (byte ∷ text) told whole none so_far = absurd (grind (arith, nat_tests))
