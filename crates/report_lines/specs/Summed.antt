-- What is written of a run of the generated day.
use Rattle.std.specs.Prelude.{◌≡◌, ℕ, ◌-◌, ◌^◌, min, Bool, true, false, List, [], ◌∷◌, length, map, slice_index_or, if◌then◌else◌}
use Rattle.std.specs.List.{flat_map, list_any, sum_by}
use Rattle.std.specs.Ordering.{is_eq}
use Rattle.label_sets.specs.Counts.{sample_count}
use Rattle.label_sets.specs.Finals.{final_of}
use Rattle.label_sets.specs.Labels.{compare_sets}
use Rattle.label_sets.specs.declared.label.Label.{Label}
use Rattle.label_sets.specs.declared.series.Series.{Series}
use Rattle.script_core.specs.declared.block.Block.{Block}
use Rattle.script_core.specs.declared.body.Body.{Body}
use Rattle.script_core.specs.declared.body.Body.TheVariants.{Inline, OnShelf}
use Rattle.script_core.specs.declared.script.Script.{Script}
use Rattle.script_workers.specs.declared.task.Task.{Task}
use Rattle.script_running.specs.Outcomes.{Outcome}
use Rattle.generated_day.specs.Summaries.{summary_text}
use Rattle.generated_day.specs.declared.summary.QueryCounts.{QueryCounts}
use Rattle.generated_day.specs.declared.summary.Summary.{Summary}
use Rattle.report_lines.specs.Tallies.{amiss_of, answers_in, cleaned_in, collected_in, compacted_in, partials_in, rounds_in, total, uploads_in}

-- ---- what the script holds

-- the series that the script itself has for a block
abbrev pub own_series : Body → List Series
own_series (Inline min_time max_time series) = series
own_series OnShelf = []

abbrev pub samples_in : Block → ℕ
samples_in block = sample_count (own_series block.body)

-- the label sets under which they are seen
abbrev pub seen_in : List (List ℕ) → Block → List (List Label)
seen_in replicas block = map (λ (one : Series). final_of one.labels block.labels replicas) (own_series block.body)

-- those of all blocks
abbrev pub all_seen : Script → List (List Label)
all_seen script = flat_map (seen_in script.rules.replicas) script.blocks

-- each of the label sets once
unfoldable pub each_once : List (List Label) → List (List Label)
each_once [] = []
each_once (set ∷ sets) = if list_any (λ other. is_eq (compare_sets set other)) sets then each_once sets else set ∷ each_once sets

-- a set that was made of these label sets
pub record HasEach (keys sets : List (List Label)) : Type 0 where
  pub count : length keys ≡ length (each_once sets)
  pub same : (set : List Label) → list_any (λ other. is_eq (compare_sets set other)) keys ≡ list_any (λ other. is_eq (compare_sets set other)) sets

-- ---- the summary

abbrev pub no_counts : QueryCounts
no_counts = record { series = 0; samples = 0; sources = 0 }

-- what the answered query at a place counts; nothing, where fewer were answered
abbrev pub counts_at : ℕ → List Outcome → QueryCounts
counts_at place outcomes = slice_index_or (answers_in outcomes) place no_counts

-- This is the summary of a run of the script whose activities came out so.
pub record IsSummary (script : Script) (outcomes : List Outcome) (summary : Summary) : Type 0 where
  pub blocks : summary.blocks ≡ length script.blocks
  pub series : summary.series ≡ length (each_once (all_seen script))
  pub samples : summary.samples ≡ min (sum_by samples_in script.blocks) (2 ^ 64 - 1)
  pub uploaded : summary.uploaded ≡ total uploads_in outcomes
  pub rounds : summary.rounds ≡ total rounds_in outcomes
  pub compacted : summary.compacted ≡ total compacted_in outcomes
  pub collected : summary.collected ≡ total collected_in outcomes
  pub cleaned : summary.cleaned ≡ total cleaned_in outcomes
  pub partials : summary.partials ≡ total partials_in outcomes
  pub first : summary.first ≡ counts_at 0 outcomes
  pub second : summary.second ≡ counts_at 1 outcomes
  pub third : summary.third ≡ counts_at 2 outcomes

-- Where all activities ended as asked, the text is the summary. Else it has the lines of those that did not.
abbrev pub IsDayText : Script → List Task → List Outcome → Bool → List ℕ → Type 0
IsDayText script tasks outcomes true text = (summary : Summary) × IsSummary script outcomes summary × (text ≡ summary_text summary)
IsDayText script tasks outcomes false text = text ≡ amiss_of script tasks outcomes
