-- What the activities of a run add up to.
use Rattle.std.specs.Prelude.{◌≡◌, ℕ, ◌+◌, ◌-◌, ◌^◌, min, List, [], ◌∷◌, ◌++◌, length, if◌then◌else◌}
use Rattle.std.specs.List.{flat_map, list_all, sum_by}
use Rattle.label_sets.specs.Counts.{sample_count}
use Rattle.querier.specs.declared.answer.Answer.{Answer}
use Rattle.script_core.specs.declared.script.Script.{Script}
use Rattle.script_workers.specs.declared.task.Task.{Task}
use Rattle.script_workers.specs.declared.work.Work.{Work}
use Rattle.script_running.specs.Outcomes.{Outcome, is_as_asked}
use Rattle.script_running.specs.declared.came.Came.TheVariants as outcome
use Rattle.script_running.specs.declared.came.Stop.TheVariants as stop
use Rattle.script_running.specs.shipper.specs.declared.upload.UploadEnd.TheVariants as upload
use Rattle.script_running.specs.compactor.specs.declared.compact_end.CompactEnd.TheVariants as compact
use Rattle.script_running.specs.cleaner.specs.declared.clean.CleanEnd.TheVariants as clean
use Rattle.script_running.specs.declared.outcome.QueryOutcome.TheVariants as query
use Rattle.report_lines.specs.Reports.{activity_text}
use Rattle.generated_day.specs.declared.summary.QueryCounts.{QueryCounts}
use Rattle.report_lines.specs.declared.sums.Sums.{Sums}
use Rattle.report_lines.specs.declared.tally.Tally.{Tally}

-- ---- what one activity adds

-- an upload that put its block
abbrev pub uploads_in : Outcome → ℕ
uploads_in (outcome.Upload (stop.Ended (upload.Done count))) = 1
uploads_in other = 0

-- a round of compaction, however it ended
abbrev pub rounds_in : Outcome → ℕ
rounds_in (outcome.Compact end) = 1
rounds_in other = 0

-- the blocks that it made
abbrev pub compacted_in : Outcome → ℕ
compacted_in (outcome.Compact (stop.Ended (compact.Done collected compacted expired))) = compacted
compacted_in other = 0

-- the covered blocks that it marked
abbrev pub collected_in : Outcome → ℕ
collected_in (outcome.Compact (stop.Ended (compact.Done collected compacted expired))) = collected
collected_in other = 0

-- the blocks that a cleaning deleted
abbrev pub cleaned_in : Outcome → ℕ
cleaned_in (outcome.Clean (stop.Ended (clean.Done blocks partials))) = blocks
cleaned_in other = 0

-- the blocks without a meta that it deleted
abbrev pub partials_in : Outcome → ℕ
partials_in (outcome.Clean (stop.Ended (clean.Done blocks partials))) = partials
partials_in other = 0

abbrev pub counts_of : Answer → QueryCounts
counts_of answer = record { series = length answer.series; samples = sample_count answer.series; sources = length answer.sources }

-- what an answered query counts
abbrev pub counts_in : Outcome → List QueryCounts
counts_in (outcome.Query (query.Answer answer names)) = counts_of answer ∷ []
counts_in other = []

-- what the answered queries count, in their order
abbrev pub answers_in : List Outcome → List QueryCounts
answers_in outcomes = flat_map counts_in outcomes

-- ---- sums

-- a sum over activities, which stands still at the end of 64 bits
abbrev pub total : (Outcome → ℕ) → List Outcome → ℕ
total count outcomes = min (sum_by count outcomes) (2 ^ 64 - 1)

pub record AreSums (sums : Sums) (outcomes : List Outcome) : Type 0 where
  pub uploaded : sums.uploaded ≡ total uploads_in outcomes
  pub rounds : sums.rounds ≡ total rounds_in outcomes
  pub compacted : sums.compacted ≡ total compacted_in outcomes
  pub collected : sums.collected ≡ total collected_in outcomes
  pub cleaned : sums.cleaned ≡ total cleaned_in outcomes
  pub partials : sums.partials ≡ total partials_in outcomes

-- the numbers of one activity
pub record IsOneMore (o : Outcome) (sums : Sums) : Type 0 where
  pub uploaded : sums.uploaded ≡ uploads_in o
  pub rounds : sums.rounds ≡ rounds_in o
  pub compacted : sums.compacted ≡ compacted_in o
  pub collected : sums.collected ≡ collected_in o
  pub cleaned : sums.cleaned ≡ cleaned_in o
  pub partials : sums.partials ≡ partials_in o

abbrev pub plus : ℕ → ℕ → ℕ
plus one more = min (one + more) (2 ^ 64 - 1)

-- each number is that of both together
pub record AddsUp (one more both : Sums) : Type 0 where
  pub uploaded : both.uploaded ≡ plus one.uploaded more.uploaded
  pub rounds : both.rounds ≡ plus one.rounds more.rounds
  pub compacted : both.compacted ≡ plus one.compacted more.compacted
  pub collected : both.collected ≡ plus one.collected more.collected
  pub cleaned : both.cleaned ≡ plus one.cleaned more.cleaned
  pub partials : both.partials ≡ plus one.partials more.partials

-- ---- tallies

-- the lines of an activity that did not end as asked
abbrev pub amiss_line : Script → Work → Outcome → List ℕ
amiss_line script work o = if is_as_asked o then [] else activity_text script work o

-- the lines of those activities that did not
unfoldable pub amiss_of : Script → List Task → List Outcome → List ℕ
amiss_of script [] outcomes = []
amiss_of script (task ∷ tasks) [] = []
amiss_of script (task ∷ tasks) (o ∷ outcomes) = amiss_line script task.work o ++ amiss_of script tasks outcomes

-- The tally is of these tasks of the script, which came out so, one outcome each.
pub record AreTallied (tally : Tally) (script : Script) (tasks : List Task) (outcomes : List Outcome) : Type 0 where
  pub each : length outcomes ≡ length tasks
  pub flag : tally.as_asked ≡ list_all is_as_asked outcomes
  pub amiss : tally.amiss.items ≡ amiss_of script tasks outcomes
  pub sums : AreSums tally.sums outcomes
  pub answers : tally.answers.items ≡ answers_in outcomes
