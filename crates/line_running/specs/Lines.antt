-- How the tasks of a phase are done in line, by what goes through its functions.
use Rattle.report_lines.specs.script_running.specs.Shelves.{setting_by}
use Rattle.line_running.specs.Progress.{Line, line_by}
use Rattle.line_running.specs.declared.tasks.PhaseWork.{PhaseWork}

-- by the script itself, of which the rest is lent
abbrev pub line_of : PhaseWork → Line
line_of phase = line_by (setting_by phase.script.now phase.means.now.shelf) phase.seats.workers
