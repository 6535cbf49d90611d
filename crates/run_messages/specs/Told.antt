-- The lines of a report that tell of failures.
use Rattle.std.specs.Prelude.{ℕ, ◌+◌, ◌-◌, ◌^◌, min, List, [], ◌∷◌, ◌++◌, Bool, ◌||◌, Option, None, Some, take, if◌then◌else◌, codes}
use Rattle.std.specs.Str.{bytes_eq, is_utf8}
use Rattle.script_fields.specs.Fields.{is_silent}
use Rattle.run_messages.specs.Findings.{finding_of, is_task}
use Rattle.run_messages.specs.declared.finding.Finding.{Finding}
use Rattle.run_messages.specs.declared.finding.Finding.TheVariants.{Breach}
use Rattle.run_messages.specs.declared.told.Told.{Told}

-- the line is one of an answer's series
abbrev pub is_of_series : List ℕ → Bool
is_of_series line = bytes_eq (codes "series ") (take 7 line)

abbrev pub text_of : List ℕ → Option (List ℕ)
text_of line = if is_utf8 line then Some line else None

-- A line that may tell of a failure, or of a task. One that says nothing does not, and neither does one of a series.
unfoldable pub spoken : List ℕ → Option (List ℕ)
spoken line = if is_silent line || is_of_series line then None else text_of line

-- How many tasks a report has told of with a line. At the greatest number, 2^64 - 1, it stays.
abbrev pub tasks_with : ℕ → Option (List ℕ) → ℕ
tasks_with tasks None = tasks
tasks_with tasks (Some line) = if is_task line then min (tasks + 1) (2 ^ 64 - 1) else tasks

-- Which task it is whose failure is told. The breach stands behind the lines of all tasks, and is of none.
abbrev pub told_task : Finding → ℕ → ℕ
told_task (Breach breach) task = 0
told_task other task = task

abbrev pub told_as : ℕ → List ℕ → Option Finding → List Told
told_as task line None = []
told_as task line (Some finding) = record { task = told_task finding task; line = line; finding = finding } ∷ []

-- what a line tells, with which the report has told of so many tasks
abbrev pub told_with : ℕ → Option (List ℕ) → List Told
told_with task None = []
told_with task (Some line) = told_as task line (finding_of line)

-- what lines tell, behind so many tasks
unfoldable pub told_by : ℕ → List (List ℕ) → List Told
told_by tasks [] = []
told_by tasks (line ∷ lines) =
    let now = tasks_with tasks (spoken line) in
    told_with now (spoken line) ++ told_by now lines
