-- Lines to which one task is added after another.
use Rattle.std.proofs.Common.{◌≡◌, ◌&&◌, true, List, [], ◌∷◌, ◌++◌, refl, sym, ◌∙◌, ap, ap₂, arith, append-nil}
use Rattle.std.specs.Prelude.{Ok, Err, OnErr, OnOk, Result}
use Rattle.std.specs.List.{list_all}
use Rattle.std.proofs.lemmas.List.{length-append}
use Rattle.script_core.specs.declared.script.Script.{Script}
use Rattle.script_workers.specs.declared.task.Task.{Task}
use Rattle.script_running.specs.Outcomes.{Outcome, is_as_asked}
use Rattle.report_lines.specs.Reports.{activity_text}
use Rattle.report_lines.specs.Telling.{AreLinesOf}
use Rattle.report_lines.specs.Telling.{report_of}
use Rattle.report_lines.specs.declared.lines.Lines.{Lines}
use Rattle.report_lines.proofs.ReportLists.{all_append, report_append}
use Rattle.report_lines.proofs.Adding.{last_flag}

-- without an outcome no line is told
pub told_none : (script : Script) (tasks : List Task) → report_of script tasks [] ≡ []
unfolding report_of
told_none script [] = refl
told_none script (task ∷ tasks) = refl

-- before the first task
pub no_lines : (lines : Lines) (script : Script) → (lines.text.items ≡ []) × (lines.as_asked ≡ true) → AreLinesOf lines script [] []
no_lines lines script none = record { each = refl; text = none.0 ∙ sym (told_none script []); flag = none.1 }

one_line : (script : Script) (task : Task) (o : Outcome) → report_of script (task ∷ []) (o ∷ []) ≡ activity_text script task.work o
unfolding report_of
one_line script task o = append-nil (activity_text script task.work o)

-- one task more
more_lines : (old new : Lines) (script : Script) (task : Task) (o : Outcome) (tasks : List Task) (outcomes : List Outcome) → AreLinesOf old script tasks outcomes
    → new.text.items ≡ old.text.items ++ activity_text script task.work o → new.as_asked ≡ old.as_asked && is_as_asked o → AreLinesOf new script (tasks ++ task ∷ []) (outcomes ++ o ∷ [])
more_lines old new script task o tasks outcomes are text flag = record {
  each = omega (arith, length-append outcomes (o ∷ []), length-append tasks (task ∷ []), are.each);
  text = text ∙ ap₂ (λ (xs ys : _). xs ++ ys) are.text (sym (one_line script task o)) ∙ sym (report_append script tasks (task ∷ []) outcomes (o ∷ []) are.each);
  flag = flag ∙ ap (λ b. b && is_as_asked o) are.flag ∙ sym (all_append outcomes (o ∷ []) ∙ ap (λ b. list_all is_as_asked outcomes && b) (last_flag (is_as_asked o)));
}

pub more_told : {E : Type 0} (old new : Lines) (script : Script) (task : Task) (o : Outcome) (tasks : List Task) (outcomes : List Outcome) (r : Result (Unit {0}) E) → AreLinesOf old script tasks outcomes
    → OnOk r (new.text.items ≡ old.text.items ++ activity_text script task.work o) → OnOk r (new.as_asked ≡ old.as_asked && is_as_asked o) → OnOk r (AreLinesOf new script (tasks ++ task ∷ []) (outcomes ++ o ∷ []))
more_told old new script task o tasks outcomes (Ok done) are text flag = more_lines old new script task o tasks outcomes are text flag
more_told old new script task o tasks outcomes (Err e) are text flag = tt

joined : (old more new : Lines) (script : Script) (done tasks : List Task) (first later : List Outcome) → AreLinesOf old script done first → AreLinesOf more script tasks later
    → new.text.items ≡ old.text.items ++ more.text.items → new.as_asked ≡ old.as_asked && more.as_asked → AreLinesOf new script (done ++ tasks) (first ++ later)
joined old more new script done tasks first later one two text flag = record {
  each = omega (arith, length-append first later, length-append done tasks, one.each, two.each);
  text = text ∙ ap₂ (λ (xs ys : _). xs ++ ys) one.text two.text ∙ sym (report_append script done tasks first later one.each);
  flag = flag ∙ ap₂ (λ b c. b && c) one.flag two.flag ∙ sym (all_append first later);
}

-- the lines of a phase more
pub joined_lines : {E : Type 0} (old more new : Lines) (script : Script) (done tasks : List Task) (first later : List Outcome) (r : Result (Unit {0}) E) → AreLinesOf old script done first → AreLinesOf more script tasks later
    → OnOk r (new.text.items ≡ old.text.items ++ more.text.items) → OnOk r (new.as_asked ≡ old.as_asked && more.as_asked) → OnOk r (AreLinesOf new script (done ++ tasks) (first ++ later))
joined_lines old more new script done tasks first later (Ok fine) one two text flag = joined old more new script done tasks first later one two text flag
joined_lines old more new script done tasks first later (Err e) one two text flag = tt

-- for want of memory nothing was added
pub kept_lines : {E : Type 0} (old new : Lines) (script : Script) (done : List Task) (first : List Outcome) (r : Result (Unit {0}) E) → AreLinesOf old script done first
    → OnErr r ((new.text.items ≡ old.text.items) × (new.as_asked ≡ old.as_asked)) → OnErr r (AreLinesOf new script done first)
kept_lines old new script done first (Ok fine) are same = tt
kept_lines old new script done first (Err e) are same = record { each = are.each; text = same.0 ∙ are.text; flag = same.1 ∙ are.flag }
