-- What a query's answer is worth: the statement about each answered query of a lawful journal.
use Rattle.std.specs.Prelude.{◌≡◌, ◌≢◌, ◌⊎◌, ℕ, ℤ, List, map, All, Contains, Option, Some, slice_get}
use Rattle.std.specs.List.{AllZip, flat_map}
use Rattle.label_sets.specs.Triples.{triples_of}
use Rattle.label_sets.specs.declared.series.Series.{Series}
use Rattle.world_core.specs.Standing.{IsHonest}
use Rattle.world_core.specs.Worlds.{failed_count}
use Rattle.store_ranges.specs.Reads.{Query as Question}
use Rattle.store_calls.specs.declared.series_call.SeriesEnd.{SeriesEnd}
use Rattle.store_calls.specs.declared.series_call.SeriesEnd.TheVariants as ended
use Rattle.script_core.specs.Workers.{workers_of}
use Rattle.script_workers.specs.declared.phase.Phase.{Phase}
use Rattle.script_workers.specs.declared.task.Task.{Task}
use Rattle.script_workers.specs.declared.work.Work.TheVariants as work
use Rattle.lifecycle_core.specs.Breaches.{IsUnbroken, Watch}
use Rattle.lifecycle_core.specs.Causes.{AreCompactionsExplained, AreFaultsShown, AreMissesExplained, AreUndamaged, AreWell, IsExplainedUnder}
use Rattle.lifecycle_core.specs.Conducts.{CameTo}
use Rattle.lifecycle_core.specs.Phases.{IsInTurn, IsRunOf}
use Rattle.lifecycle_core.specs.Quiet.{DeletesNothing}
use Rattle.lifecycle_core.specs.Tasks.{End, answered, asks_in, sync_rules}
use Rattle.lifecycle_core.specs.TimeRules.{IsUploadedInTime, IsSyncedInTime}
use Rattle.label_sets.specs.Triples.{Triple}
use Rattle.matchers.specs.Selected.{IsQueryAnswer, selected}
use Rattle.meta_fetcher.specs.declared.rules.SyncRules.{SyncRules}
use Rattle.querier.specs.declared.answer.Names.{Names}
use Rattle.querier.specs.declared.asking.Ask.{Ask}
use Rattle.vertical_merge.specs.Merged.{IsDeduplication, IsMerge}
use Rattle.script_workers.specs.declared.worker.Worker.{Worker}
use Rattle.lifecycle_core.specs.SyncsAndCalls.{IsViewOf}
use Rattle.matchers.specs.declared.matcher.Matcher.{Matcher}
use Rattle.world_core.specs.declared.entry.Entry.{Entry}
use Rattle.lifecycle_core.specs.Setting.{Setting}
use Rattle.block_meta.specs.MetaFields.{MetaFields}
use Rattle.lifecycle_core.specs.Completed.{IsCompletedAt, IsUploadedBefore, IsSettled}
use Rattle.lifecycle_core.specs.Held.{held}
use Rattle.lifecycle_core.specs.Holdings.{Use}
use Rattle.lifecycle_core.specs.PutBlocks.{HoldsItsSources}

-- what a gateway gave to a query
pub record Named : Type 0 where
  pub gateway : ℕ
  -- the view that it used
  pub used : Use
  -- the times of which it was asked
  pub low : ℤ
  pub high : ℤ
  -- the blocks that it names
  pub sources : List ℕ

-- an answered query: what it selected, what each gateway gave to it, and its samples
pub record Answered : Type 0 where
  pub selector : List Matcher
  pub named : List Named
  pub samples : List Triple

-- what a gateway was asked
abbrev pub ask_by : Named → Ask
ask_by named = record { gateway = named.gateway; low = named.low; high = named.high }

-- what a gateway names
abbrev pub names_by : Named → Names
names_by named = record { gateway = named.gateway; sources = named.sources }

-- of the blocks that a gateway names, the samples for which it was asked
abbrev pub asked_of : Setting → List Matcher → Named → List Triple
asked_of setting selector named = selected selector named.low named.high (held setting named.sources)

-- The answer has each matching sample once, for which a gateway was asked, of the blocks that it names, and nothing else.
abbrev pub IsExact : Setting → Answered → Type 0
IsExact setting query = IsDeduplication query.samples (flat_map (asked_of setting query.selector) query.named)

-- Each block that a gateway names is declared, and was complete before the sync of the view that it used had ended.
abbrev pub NamesUploads : Setting → List Entry → Answered → Type 0
NamesUploads setting journal query =
    All (λ named. All (λ ulid. IsUploadedBefore setting journal ulid named.used.last) named.sources) query.named

-- the gateway names each block that was complete, and old enough, before the sync of its view began
abbrev pub NamesAll : Setting → List Entry → Named → Type 0
NamesAll setting journal named =
    (ulid : ℕ) → IsSettled setting journal (sync_rules setting named.gateway) named.used ulid → Contains named.sources ulid

-- Each gateway names each such block.
abbrev pub LeavesNoneOut : Setting → List Entry → Answered → Type 0
LeavesNoneOut setting journal query = All (NamesAll setting journal) query.named

-- the series with which a gateway's worker answered in the task at a place of a phase
abbrev pub IsPartGiven : List Worker → List (List End) → ℕ → Named → List Series → Type 0
IsPartGiven workers ends place named series =
    CameTo workers ends (Some named.gateway) place (answered named.used (ended.Answer series named.sources))

-- Each asked gateway gave its part of the answer, to the query at some place of some phase, and the answer is the merge of all parts.
pub record IsGiven (setting : Setting) (ends : List (List (List End)))
    (query : Answered) : Type 0 where
  pub phase_number : ℕ
  pub phase : Phase
  pub place : ℕ
  pub task : Task
  pub low : ℤ
  pub high : ℤ
  pub selector_number : ℕ
  pub in_phases : slice_get setting.script.phases phase_number ≡ Some phase
  pub in_tasks : slice_get phase.tasks place ≡ Some task
  pub asks : task.work ≡ work.Query low high selector_number
  pub selects : slice_get setting.script.selectors selector_number ≡ Some query.selector
  pub phase_ends : List (List End)
  pub phase_came : slice_get ends phase_number ≡ Some phase_ends
  pub parts : List (List Series)
  pub given : AllZip (IsPartGiven (workers_of setting.script phase_number) phase_ends place) query.named parts
  -- those that are asked gave a part, each for its times, and no others
  pub every : map ask_by query.named ≡ asks_in setting low high
  pub series : List Series
  pub merged : IsMerge (flat_map triples_of parts) series
  pub samples : query.samples ≡ triples_of series

-- What an answered query is worth: it is exact, it names complete uploads, and where blocks were uploaded in time, each gateway whose
-- view's sync did not last too long names each block that this sync has to see.
pub record IsSound (setting : Setting) (journal : List Entry) (query : Answered) : Type 0 where
  pub exact : IsExact setting query
  pub named : NamesUploads setting journal query
  pub covered : ((ulid : ℕ) → IsUploadedInTime setting.script.rules ulid journal)
      → All (λ named. ((entries : List Entry) → IsViewOf (sync_rules setting named.gateway) journal named.used entries
      → IsSyncedInTime setting.script.rules entries) → NamesAll setting journal named) query.named

-- What a call over a view is worth where the bucket is honest, by the question and the end to which it came. If it misses an object,
-- the journal shows why, where these syncs and calls are watched. It finds nothing damaged. Its answer is exact for the blocks that it
-- names, each of which was complete before the sync of the view had ended. And where blocks were uploaded in time, and this sync did
-- not last too long, it names each block that the sync has to see.
pub record IsSoundCall (setting : Setting) (watch : Watch) (journal : List Entry) (rules : SyncRules) (used : Use)
    (question : Question) (end : Option SeriesEnd) : Type 0 where
  pub found : (number : ℕ) → end ≡ Some (ended.Missing number) → IsExplainedUnder setting watch journal number
  pub undamaged : (number : ℕ) → end ≢ Some (ended.Damaged number)
  pub exact : (series : List Series) (sources : List ℕ) → end ≡ Some (ended.Answer series sources)
      → IsQueryAnswer question.selector question.low question.high (triples_of series) (held setting sources)
  pub named : (series : List Series) (sources : List ℕ) → end ≡ Some (ended.Answer series sources)
      → All (λ ulid. IsUploadedBefore setting journal ulid used.last) sources
  pub covered : ((ulid : ℕ) → IsUploadedInTime setting.script.rules ulid journal)
      → ((entries : List Entry) → IsViewOf rules journal used entries → IsSyncedInTime setting.script.rules entries)
      → (series : List Series) (sources : List ℕ) → end ≡ Some (ended.Answer series sources)
      → (ulid : ℕ) → IsSettled setting journal rules used ulid → Contains sources ulid

-- What is guaranteed of a run that came to these ends. Whatever the bucket does, a failed call is shown by the journal, and an object
-- that a compaction misses is explained by it; so is one that a query misses, where each phase was done before the next one began, so
-- that gateways used their last views. Where the bucket is honest, nothing is found damaged, each answered query is sound, and each
-- complete block holds what its sources hold. And where no call failed and each phase was done before the next one began, every task
-- ends well if no entry breaks a rule, or if the bucket is honest and nothing is deleted.
pub record IsGuaranteed (setting : Setting) (journal : List Entry)
    (ends : List (List (List End))) : Type 0 where
  pub explained : IsInTurn setting ends → AreMissesExplained setting journal ends
  pub compactions : AreCompactionsExplained setting journal ends
  pub faults : AreFaultsShown journal ends
  pub undamaged : IsHonest journal → AreUndamaged ends
  pub sound : IsHonest journal → (query : Answered) → IsGiven setting ends query
      → IsSound setting journal query
  pub held : IsHonest journal → (ulid seq : ℕ) (meta : MetaFields) → IsCompletedAt journal ulid seq meta
      → HoldsItsSources setting journal ulid seq
  pub complete : IsInTurn setting ends → IsUnbroken setting journal ⊎ (IsHonest journal × DeletesNothing setting.script)
      → failed_count journal ≡ 0 → AreWell ends

-- a journal of the script's runs, each phase done before the next one began, of which all this is guaranteed
abbrev pub IsGuaranteedJournal : Setting → List Entry → Type 0
IsGuaranteedJournal setting journal =
    (ends : List (List (List End))) × IsRunOf setting journal ends
    × IsInTurn setting ends × IsGuaranteed setting journal ends
