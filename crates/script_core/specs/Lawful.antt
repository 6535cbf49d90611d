-- What holds of each script that is read, whatever its text.
use Rattle.std.specs.Prelude.{◌≡◌, ◌≢◌, ◌⊎◌, ℕ, ◌^◌, ◌<◌, ◌≤◌, ℤ, pos, neg_ℤ, ◌<ℤ◌, ◌≤ℤ◌, List, [], ◌∷◌, ◌++◌, length, map, IsTrue, IsFalse, nat_eq, Option, None, Some}
use Rattle.std.specs.List.{All, IsDistinct}
use Rattle.std.specs.List.Sorted.{IsStrictlySortedBy, IsNonDecreasingBy}
use Rattle.std.specs.Ordering.{int_cmp}
use Rattle.std.specs.Str.{IsUtf8}
use Rattle.label_sets.specs.Labels.{IsLabelSet, compare_sets}
use Rattle.label_sets.specs.Notation.{is_name}
use Rattle.label_sets.specs.SetText.{AreNamed}
use Rattle.label_sets.specs.declared.label.Label.{Label}
use Rattle.label_sets.specs.declared.series.Series.{Series}
use Rattle.label_sets.specs.Limits.{time_limit}
use Rattle.label_sets.specs.Times.{times_of}
use Rattle.matchers.specs.SelectorRefusals.{IsReadable}
use Rattle.matchers.specs.declared.matcher.Matcher.{Matcher}
use Rattle.moment_core.specs.declared.rules.Rules.{Rules}
use Rattle.moment_core.specs.declared.span.Span.{Span}
use Rattle.moment_core.specs.Limits.{longest_tick, moment_limit, longest_span}
use Rattle.moment_core.specs.Partitions.{all_times}
use Rattle.moment_core.specs.declared.partition.Partition.{Partition}
use Rattle.script_workers.specs.Limits.{most_workers}
use Rattle.script_fields.specs.Limits.{most_gateways, most_blocks, most_tasks, latest_stop, most_names}
use Rattle.script_core.specs.declared.block.Block.{Block}
use Rattle.script_core.specs.declared.body.Body.{Body}
use Rattle.script_core.specs.declared.body.Body.TheVariants.{Inline, OnShelf}
use Rattle.script_workers.specs.declared.phase.Phase.{Phase}
use Rattle.script_core.specs.declared.script.Script.{Script}
use Rattle.script_workers.specs.declared.work.Work.{Work}
use Rattle.script_workers.specs.declared.work.Work.TheVariants.{Upload, Sync, Compact, Clean, Query}
use Rattle.script_fields.specs.Values.{is_reserved, agree}
use Rattle.script_fields.specs.Samples.{are_within}
use Rattle.script_workers.specs.Hands.{gateway_count, hands_of}
use Rattle.script_workers.specs.Works.{works_of, asks_all, has_sync, CompactOnce}
use Rattle.script_core.specs.Blocks.{declares}

-- a retention, where there is one, of some time
abbrev pub IsLawfulRetention : Option Span → Type 0
IsLawfulRetention None = Unit {0}
IsLawfulRetention (Some span) = (1 ≤ span.ms) × (span.ms ≤ longest_span)

-- spans no longer than the longest one, a tick of at most a day, pages of 1 to 10,000 names, and replica labels that are names
pub record AreLawfulRules (rules : Rules) : Type 0 where
  pub consistency : rules.consistency.ms ≤ longest_span
  pub ignore : rules.ignore.ms ≤ longest_span
  pub delete : rules.delete.ms ≤ longest_span
  pub partial : rules.partial.ms ≤ longest_span
  pub upload : rules.upload.ms ≤ longest_span
  pub tick : rules.tick.ms ≤ longest_tick
  pub page_limit_low : 1 ≤ rules.page_limit
  pub page_limit_high : rules.page_limit ≤ most_names
  pub replicas : All (λ name. IsTrue (is_name name)) rules.replicas
  pub retention : IsLawfulRetention rules.retention

-- a label set, whose names have the form of a name and whose values are texts
pub record AreLawfulLabels (labels : List Label) : Type 0 where
  pub set : IsLabelSet labels
  pub named : AreNamed labels
  pub texts : All (λ l. IsUtf8 l.value) labels

-- a series with samples, whose times rise within a range, each with a pattern of 64 bits
pub record HasLawfulSamples (min_time max_time : ℤ) (series : Series) : Type 0 where
  pub some : series.samples ≢ []
  pub rising : IsStrictlySortedBy int_cmp (times_of series.samples)
  pub within : IsTrue (are_within min_time max_time series.samples)
  pub patterns : All (λ s. s.pattern < 2 ^ 64) series.samples

-- times that a block may have, and series ascending by their labels
pub record IsLawfulInline (min_time max_time : ℤ) (series : List Series) : Type 0 where
  pub early : neg_ℤ (pos time_limit) ≤ℤ min_time
  pub ascend : min_time <ℤ max_time
  pub late : max_time ≤ℤ pos time_limit
  pub labels : All (λ one. AreLawfulLabels one.labels) series
  pub ordered : IsStrictlySortedBy compare_sets (map (λ one. one.labels) series)
  pub samples : All (HasLawfulSamples min_time max_time) series

abbrev pub IsLawfulBody : Body → Type 0
IsLawfulBody (Inline min_time max_time series) = IsLawfulInline min_time max_time series
IsLawfulBody OnShelf = Unit {0}

-- an inline block has series, and what a block of the shelf has stands in its files
abbrev pub HasSeries : Body → Type 0
HasSeries (Inline min_time max_time series) = series ≢ []
HasSeries OnShelf = Unit {0}

-- a block of a ULID of 128 bits
pub record IsLawfulBlock (block : Block) : Type 0 where
  pub ulid : block.ulid < 2 ^ 128
  pub not_reserved : IsFalse (is_reserved block.ulid)
  pub labels : AreLawfulLabels block.labels
  pub body : IsLawfulBody block.body

pub record AreLawfulBlocks (blocks : List Block) : Type 0 where
  pub few : length blocks ≤ most_blocks
  pub each : All IsLawfulBlock blocks
  -- no ULID twice
  pub once : IsDistinct nat_eq (map (λ block. block.ulid) blocks)

-- a task stops at its first operation or later
abbrev pub IsLawfulStop : Option ℕ → Type 0
IsLawfulStop None = Unit {0}
IsLawfulStop (Some count) = (1 ≤ count) × (count ≤ latest_stop)

-- an upload is of a declared block, a sync of a declared gateway, and a query has its range and its selector
abbrev pub IsLawfulWork : List (List ℕ) → List Block → ℕ → Work → Type 0
IsLawfulWork gateways blocks selectors (Upload ulid stop) = IsTrue (declares blocks ulid) × IsLawfulStop stop
IsLawfulWork gateways blocks selectors (Sync gateway) = gateway < length gateways
IsLawfulWork gateways blocks selectors (Compact stop) = IsLawfulStop stop
IsLawfulWork gateways blocks selectors (Clean stop) = IsLawfulStop stop
IsLawfulWork gateways blocks selectors (Query low high selector) =
    (neg_ℤ (pos time_limit) ≤ℤ low) × (low ≤ℤ high) × (high ≤ℤ pos time_limit) × (selector < selectors)

pub record IsLawfulPhase (gateways : List (List ℕ)) (blocks : List Block) (selectors : ℕ) (phase : Phase) : Type 0 where
  pub moment : phase.moment.ms < moment_limit
  pub tasks : All (λ task. IsLawfulWork gateways blocks selectors task.work) phase.tasks
  pub few_workers : length (hands_of (gateway_count gateways) phase.tasks) ≤ most_workers
  pub compacts_once : CompactOnce phase.tasks

pub record AreLawfulPhases (gateways : List (List ℕ)) (blocks : List Block) (selectors : ℕ) (phases : List Phase) : Type 0 where
  pub each : All (IsLawfulPhase gateways blocks selectors) phases
  pub moments : IsNonDecreasingBy (λ phase. phase.moment.ms) phases
  pub few_tasks : length (works_of phases) ≤ most_tasks
  -- each gateway has a sync before each task that asks all gateways
  pub synced : (before after : List Work) (work : Work) (gateway : ℕ) → works_of phases ≡ before ++ work ∷ after → IsTrue (asks_all work) → gateway < length gateways → IsTrue (has_sync before gateway)

-- all times, or a range of times that a script may name
abbrev pub IsLawfulPartition : Partition → Type 0
IsLawfulPartition partition =
    (partition ≡ all_times)
    ⊎ ((neg_ℤ (pos time_limit) ≤ℤ partition.low) × (partition.low ≤ℤ partition.high) × (partition.high ≤ℤ pos time_limit))

-- Some text is read as the selector, where these are the replica labels.
abbrev pub IsLawfulSelector : List (List ℕ) → List Matcher → Type 0
IsLawfulSelector replicas selector = (text : List ℕ) × IsReadable text replicas selector

pub record IsLawfulScript (script : Script) : Type 0 where
  pub rules : AreLawfulRules script.rules
  -- once a phase begins, the rules agree
  pub agreed : script.phases ≢ [] → IsTrue (agree script.rules)
  pub few_gateways : length script.gateways ≤ most_gateways
  pub names : All (λ name. IsTrue (is_name name)) script.gateways
  -- each gateway has a partition
  pub partitioned : length script.partitions ≡ length script.gateways
  pub partitions : All IsLawfulPartition script.partitions
  pub blocks : AreLawfulBlocks script.blocks
  -- each inline block has a series
  pub full : All (λ block. HasSeries block.body) script.blocks
  pub selectors : All (IsLawfulSelector script.rules.replicas) script.selectors
  pub phases : AreLawfulPhases script.gateways script.blocks (length script.selectors) script.phases
