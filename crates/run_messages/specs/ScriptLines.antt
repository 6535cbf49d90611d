-- The lines of a script by their first words, and the numbers of those that have tasks.
use Rattle.std.specs.Prelude.{ℕ, ◌+◌, List, [], ◌∷◌, ◌++◌, Bool, true, false, Option, None, Some, if◌then◌else◌}
use Rattle.script_fields.specs.Fields.{line_kind, next_field}
use Rattle.script_fields.specs.declared.line_kind.LineKind.{LineKind}
use Rattle.script_fields.specs.declared.line_kind.LineKind.TheVariants as kinds
use Rattle.run_messages.specs.Told.{spoken}

abbrev pub spoken_kind : Option (List ℕ) → Option LineKind
spoken_kind None = None
spoken_kind (Some text) = line_kind (next_field (Some text)).0

-- the kind of a line; a series line, as there may be many, counts as none
unfoldable pub kind_of : List ℕ → Option LineKind
kind_of line = spoken_kind (spoken line)

abbrev pub is_task_kind : Option LineKind → Bool
is_task_kind (Some kinds.Upload) = true
is_task_kind (Some kinds.Sync) = true
is_task_kind (Some kinds.Compact) = true
is_task_kind (Some kinds.Clean) = true
is_task_kind (Some kinds.Query) = true
is_task_kind _ = false

abbrev pub number_if : Bool → ℕ → List ℕ
number_if test number = if test then number ∷ [] else []

-- the numbers of the lines that have tasks, where the first line has this number
unfoldable pub task_lines : ℕ → List (List ℕ) → List ℕ
task_lines number [] = []
task_lines number (line ∷ lines) = number_if (is_task_kind (kind_of line)) number ++ task_lines (number + 1) lines
