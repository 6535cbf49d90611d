-- Reports of tasks one after another.
use Rattle.std.proofs.Common.{◌≡◌, ◌&&◌, List, [], ◌∷◌, ◌++◌, length, refl, sym, ◌∙◌, ap, append_assoc, arith}
use Rattle.std.proofs.Math.Bool.{and_assoc}
use Rattle.std.specs.List.{list_all}
use Rattle.script_core.specs.declared.script.Script.{Script}
use Rattle.script_workers.specs.declared.task.Task.{Task}
use Rattle.report_lines.specs.Reports.{activity_text}
use Rattle.script_running.specs.Outcomes.{Outcome, is_as_asked}
use Rattle.report_lines.specs.Telling.{report_of, tasks_of}
use Rattle.script_workers.specs.declared.phase.Phase.{Phase}

pub all_append : (one other : List Outcome) → list_all is_as_asked (one ++ other) ≡ list_all is_as_asked one && list_all is_as_asked other
all_append [] other = refl
all_append (o ∷ os) other = ap (λ b. is_as_asked o && b) (all_append os other) ∙ sym (and_assoc (is_as_asked o) (list_all is_as_asked os) (list_all is_as_asked other))

pub report_append : (script : Script) (done tasks : List Task) (one other : List Outcome) → length one ≡ length done
    → report_of script (done ++ tasks) (one ++ other) ≡ report_of script done one ++ report_of script tasks other
unfolding report_of
report_append script [] tasks [] other same = refl
report_append script [] tasks (o ∷ os) other same = absurd (omega (arith, same))
report_append script (t ∷ ts) tasks [] other same = absurd (omega (arith, same))
report_append script (t ∷ ts) tasks (o ∷ os) other same =
    ap (λ text. activity_text script t.work o ++ text) (report_append script ts tasks os other (omega (arith, same)))
    ∙ sym (append_assoc (activity_text script t.work o) (report_of script ts os) (report_of script tasks other))

pub tasks_append : (one other : List Phase) → tasks_of (one ++ other) ≡ tasks_of one ++ tasks_of other
tasks_append [] other = refl
tasks_append (phase ∷ phases) other =
    ap (λ (l : List Task). phase.tasks ++ l) (tasks_append phases other) ∙ sym (append_assoc phase.tasks (tasks_of phases) (tasks_of other))
