-- What the answers are worth that a report tells.
use Rattle.std.specs.Prelude.{◌≡◌, ℕ, ℤ, List, Some, map, slice_get}
use Rattle.std.specs.List.{flat_map}
use Rattle.label_sets.specs.Triples.{triples_of}
use Rattle.block_meta.specs.Lawful.{ascending}
use Rattle.matchers.specs.declared.matcher.Matcher.{Matcher}
use Rattle.world_core.specs.declared.entry.Entry.{Entry}
use Rattle.querier.specs.declared.answer.Answer.{Answer}
use Rattle.querier.specs.declared.answer.Names.{Names}
use Rattle.script_workers.specs.declared.phase.Phase.{Phase}
use Rattle.script_core.specs.declared.script.Script.{Script}
use Rattle.script_workers.specs.declared.task.Task.{Task}
use Rattle.script_workers.specs.declared.work.Work.TheVariants as work
use Rattle.call_verdicts.specs.lifecycle_core.specs.Guarantees.{Answered, IsGiven, IsSound, Named, names_by}
use Rattle.call_verdicts.specs.lifecycle_core.specs.Setting.{Setting}
use Rattle.call_verdicts.specs.lifecycle_core.specs.Tasks.{End}
use Rattle.call_verdicts.specs.report_lines.specs.Telling.{tasks_of}
use Rattle.call_verdicts.specs.script_running.specs.Outcomes.{Outcome}
use Rattle.call_verdicts.specs.script_running.specs.declared.came.Came.TheVariants as outcome
use Rattle.call_verdicts.specs.script_running.specs.declared.outcome.QueryOutcome.TheVariants as query

-- a query, and the answer that its lines tell
pub record ToldAnswer : Type 0 where
  pub low : ℤ
  pub high : ℤ
  pub selector : List Matcher
  pub answer : Answer
  pub names : List Names

-- The task at this place among all of these phases is the query, and it came out with that answer.
pub record IsTold (script : Script) (phases : List Phase) (outcomes : List Outcome) (place : ℕ) (answer : ToldAnswer) : Type 0 where
  pub task : Task
  pub at : slice_get (tasks_of phases) place ≡ Some task
  pub selector_number : ℕ
  pub asks : task.work ≡ work.Query answer.low answer.high selector_number
  pub selects : slice_get script.selectors selector_number ≡ Some answer.selector
  pub came : slice_get outcomes place ≡ Some (outcome.Query (query.Answer answer.answer answer.names))

-- the query as these gateways answered it
abbrev pub answered_by : List Named → ToldAnswer → Answered
answered_by named answer = record { selector = answer.selector; named = named; samples = triples_of answer.answer.series }

-- The script's gateways gave the answer, each with one of its views, and it is sound. What its lines name is what they name, gateway by
-- gateway, and all of it together.
pub record IsWorth (setting : Setting) (journal : List Entry) (ends : List (List (List End))) (answer : ToldAnswer) : Type 0 where
  pub named : List Named
  pub names : answer.names ≡ map names_by named
  pub sources : answer.answer.sources ≡ ascending (flat_map (λ one. one.sources) named)
  pub given : IsGiven setting ends (answered_by named answer)
  pub sound : IsSound setting journal (answered_by named answer)
