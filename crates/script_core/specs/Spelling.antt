-- What the lines of a script spell. Each line that says something adds to the script of the lines before it, and there is one
-- record for each kind of line: how the line is written, what has to hold of the script so far, and what the line adds. Here
-- is nothing of causes and of their order: a text that is read is one that spells its script, and each text that spells a
-- script is read.
use Rattle.std.specs.Prelude.{◌≡◌, ◌≢◌, ℕ, ◌+◌, ◌%◌, ◌^◌, ◌<◌, ◌≤◌, ℤ, pos, neg_ℤ, ◌<ℤ◌, ◌≤ℤ◌, List, [], ◌∷◌, ◌++◌, length, map, Bool, true, false, not, IsTrue, IsFalse, Option, None, Some, All, position, codes}
use Rattle.std.specs.Bool.{MatchBool}
use Rattle.std.specs.List.{list_all, join_with_byte}
use Rattle.std.specs.List.Sorted.{IsStrictlySortedBy}
use Rattle.std.specs.Ordering.{int_cmp}
use Rattle.std.specs.Str.{is_utf8, bytes_eq}
use Rattle.label_sets.specs.Characters.{space}
use Rattle.base.specs.Decimal.{decimal_text, signed_text}
use Rattle.label_sets.specs.Labels.{compare_sets}
use Rattle.label_sets.specs.Notation.{is_name}
use Rattle.label_sets.specs.SetText.{IsSetText}
use Rattle.label_sets.specs.SampleText.{sample_text}
use Rattle.label_sets.specs.declared.label.Label.{Label}
use Rattle.label_sets.specs.declared.sample.Sample.{Sample}
use Rattle.label_sets.specs.declared.series.Series.{Series}
use Rattle.label_sets.specs.Limits.{time_limit}
use Rattle.label_sets.specs.Times.{times_of, IsWithin}
use Rattle.matchers.specs.SelectorRefusals.{IsReadable}
use Rattle.matchers.specs.declared.matcher.Matcher.{Matcher}
use Rattle.moment_core.specs.MomentText.{IsMomentText}
use Rattle.moment_core.specs.Partitions.{all_times}
use Rattle.moment_core.specs.SpanText.{IsSpanText}
use Rattle.moment_core.specs.StandardRules.{standard_rules}
use Rattle.moment_core.specs.declared.partition.Partition.{Partition}
use Rattle.moment_core.specs.declared.rules.Rules.{Rules}
use Rattle.moment_core.specs.declared.span.Span.{Span}
use Rattle.ulid_core.specs.UlidText.{IsUlidText}
use Rattle.ulid_core.specs.Reserved.{least_reserved}
use Rattle.ulid_core.specs.Limits.{entropy_count}
use Rattle.moment_core.specs.Limits.{longest_tick, one_second}
use Rattle.script_fields.specs.Limits.{longest_text, most_gateways, most_blocks, most_tasks, latest_stop, most_names}
use Rattle.script_core.specs.declared.block.Block.{Block}
use Rattle.script_core.specs.declared.body.Body.TheVariants.{Inline, OnShelf}
use Rattle.script_workers.specs.declared.phase.Phase.{Phase}
use Rattle.script_fields.specs.declared.rule_name.RuleName.{RuleName}
use Rattle.script_fields.specs.declared.rule_name.RuleName.TheVariants as names
use Rattle.script_core.specs.declared.script.Script.{Script}
use Rattle.script_workers.specs.declared.work.Work.{Work}
use Rattle.script_workers.specs.declared.work.Work.TheVariants.{Upload, Sync, Compact, Clean, Query}
use Rattle.script_fields.specs.Fields.{lines_of, is_silent, is_space}
use Rattle.script_workers.specs.Hands.{gateway_count}
use Rattle.script_workers.specs.Whose.{FewWorkers}
use Rattle.script_workers.specs.Works.{works_of, has_sync, has_compaction}
use Rattle.script_core.specs.Blocks.{declares}
use Rattle.script_core.specs.Lawful.{HasSeries}

-- ---- fields and values

-- texts with one space between each and the next
abbrev pub spaced : List (List ℕ) → List ℕ
spaced = join_with_byte space

-- a field: something, and no space
pub record IsField (field : List ℕ) : Type 0 where
  pub some : field ≢ []
  pub no_space : IsTrue (list_all (λ byte. not (is_space byte)) field)

-- a time of the script is at most 2^62 from zero
pub record IsNear (time : ℤ) : Type 0 where
  pub early : neg_ℤ (pos time_limit) ≤ℤ time
  pub late : time ≤ℤ pos time_limit

-- a time as a decimal number
pub record IsTimeText (text : List ℕ) (time : ℤ) : Type 0 where
  pub field : IsField text
  pub written : text ≡ signed_text time
  pub near : IsNear time

-- a ULID, but for the last ones of its millisecond, which compacted blocks take
pub record IsUlidField (text : List ℕ) (ulid : ℕ) : Type 0 where
  pub field : IsField text
  pub written : IsUlidText text ulid
  pub not_reserved : ulid % entropy_count < least_reserved

-- TIME:PATTERN
pub record IsSampleField (text : List ℕ) (sample : Sample) : Type 0 where
  pub field : IsField text
  pub written : text ≡ sample_text sample
  pub near : IsNear sample.time
  pub pattern : sample.pattern < 2 ^ 64

-- each text is that of the sample at its place
abbrev pub AreSampleFields : List (List ℕ) → List Sample → Type 0
AreSampleFields [] [] = Unit {0}
AreSampleFields [] (sample ∷ samples) = ⊥
AreSampleFields (text ∷ texts) [] = ⊥
AreSampleFields (text ∷ texts) (sample ∷ samples) = IsSampleField text sample × AreSampleFields texts samples

-- ---- rules

-- the word by which a line names a rule
abbrev pub rule_word : RuleName → List ℕ
rule_word names.Consistency = codes "consistency-delay"
rule_word names.Ignore = codes "ignore-delay"
rule_word names.Delete = codes "delete-delay"
rule_word names.Partial = codes "partial-delay"
rule_word names.Upload = codes "upload-limit"
rule_word names.Tick = codes "tick"
rule_word names.PageLimit = codes "page-limit"

-- The text of a rule's value. Spans are in milliseconds.
abbrev pub IsValueText : RuleName → List ℕ → ℕ → Type 0
IsValueText names.Tick text value = IsSpanText text value × (value ≤ longest_tick)
IsValueText names.PageLimit text value = (text ≡ decimal_text value) × (1 ≤ value) × (value ≤ most_names)
IsValueText name text value = IsSpanText text value

-- the value of the rule with this name
abbrev pub rule_value : RuleName → Rules → ℕ
rule_value names.Consistency rules = rules.consistency.ms
rule_value names.Ignore rules = rules.ignore.ms
rule_value names.Delete rules = rules.delete.ms
rule_value names.Partial rules = rules.partial.ms
rule_value names.Upload rules = rules.upload.ms
rule_value names.Tick rules = rules.tick.ms
rule_value names.PageLimit rules = rules.page_limit

-- One rule has this value, whatever it had before, and all others are as they were. So the last rule line of a name wins.
pub record Sets (name : RuleName) (value : ℕ) (before after : Rules) : Type 0 where
  pub sets : rule_value name after ≡ value
  pub others : (other : RuleName) → other ≢ name → rule_value other after ≡ rule_value other before
  pub replicas : after.replicas ≡ before.replicas
  pub retention : after.retention ≡ before.retention

-- An upload ends before a partial block is deleted, and a second before a marked one is. A mark is heeded no later than
-- it deletes.
pub record DoAgree (rules : Rules) : Type 0 where
  pub partial : rules.upload.ms ≤ rules.partial.ms
  pub delete : rules.upload.ms + one_second ≤ rules.delete.ms
  pub ignore : rules.ignore.ms ≤ rules.delete.ms

-- ---- the script so far

pub record SoFar : Type 0 where
  pub script : Script
  -- whether the line before, but for silent ones, is a block line or a series line
  pub in_block : Bool

-- what there is before the first line
abbrev pub nothing : SoFar
nothing =
    record { script = record { rules = standard_rules; gateways = []; partitions = []; blocks = []; selectors = []; phases = [] }; in_block = false }

-- after a line that no series line may follow
abbrev pub outside : Script → SoFar
outside script = record { script = script; in_block = false }

abbrev pub inside : Script → SoFar
inside script = record { script = script; in_block = true }

-- the first phase has not begun
abbrev pub IsEarly : SoFar → Type 0
IsEarly before = before.script.phases ≡ []

-- the last block is complete
abbrev pub HasEnded : List Block → Type 0
HasEnded blocks = (others : List Block) (block : Block) → blocks ≡ others ++ block ∷ [] → HasSeries block.body

-- ---- lines before the first phase

-- rule NAME VALUE
pub record RuleLine (before : SoFar) (line : List ℕ) (after : SoFar) : Type 0 where
  pub name : RuleName
  pub text : List ℕ
  pub value : ℕ
  pub spelled : line ≡ spaced (codes "rule" ∷ rule_word name ∷ text ∷ [])
  pub field : IsField text
  pub is_value : IsValueText name text value
  pub early : IsEarly before
  pub set : Rules
  pub sets : Sets name value before.script.rules set
  pub adds : after ≡ outside (record before.script { rules = set })

-- rule replica-label NAME
pub record ReplicaLine (before : SoFar) (line : List ℕ) (after : SoFar) : Type 0 where
  pub name : List ℕ
  pub spelled : line ≡ spaced (codes "rule" ∷ codes "replica-label" ∷ name ∷ [])
  pub field : IsField name
  pub is_name : IsTrue (is_name name)
  pub early : IsEarly before
  -- It joins the replica labels of the lines before it.
  pub adds : after ≡ outside (record before.script { rules = record before.script.rules { replicas = before.script.rules.replicas ++ name ∷ [] } })

-- How long blocks are kept by a span of so many milliseconds: for ever, where that is no time.
pub data KeepsFor (ms : ℕ) (retention : Option Span) : Type 0 where
  for_ever : ms ≡ 0 → retention ≡ None → KeepsFor ms retention
  so_long : 1 ≤ ms → retention ≡ Some (record { ms = ms }) → KeepsFor ms retention

-- rule retention SPAN
pub record RetentionLine (before : SoFar) (line : List ℕ) (after : SoFar) : Type 0 where
  pub text : List ℕ
  pub ms : ℕ
  pub spelled : line ≡ spaced (codes "rule" ∷ codes "retention" ∷ text ∷ [])
  pub field : IsField text
  pub is_span : IsSpanText text ms
  pub early : IsEarly before
  pub retention : Option Span
  pub keeps : KeepsFor ms retention
  -- It takes the place of what was set before.
  pub adds : after ≡ outside (record before.script { rules = record before.script.rules { retention = retention } })

-- What follows a gateway's name: nothing, for all times, or the first time of its partition and the last.
pub data ArePartitionTexts (texts : List (List ℕ)) (partition : Partition) : Type 0 where
  at_all_times : texts ≡ [] → partition ≡ all_times → ArePartitionTexts texts partition
  from_to : (low_text high_text : List ℕ) → texts ≡ low_text ∷ high_text ∷ [] → IsTimeText low_text partition.low → IsTimeText high_text partition.high → partition.low ≤ℤ partition.high → ArePartitionTexts texts partition

-- gateway NAME, or gateway NAME LOW HIGH
pub record GatewayLine (before : SoFar) (line : List ℕ) (after : SoFar) : Type 0 where
  pub name : List ℕ
  pub texts : List (List ℕ)
  pub partition : Partition
  pub spelled : line ≡ spaced (codes "gateway" ∷ name ∷ texts)
  pub field : IsField name
  pub is_name : IsTrue (is_name name)
  pub are_texts : ArePartitionTexts texts partition
  pub early : IsEarly before
  pub new : position (λ gateway. bytes_eq gateway name) before.script.gateways ≡ None
  pub few : length before.script.gateways < most_gateways
  pub adds : after ≡ outside (record before.script { gateways = before.script.gateways ++ name ∷ []; partitions = before.script.partitions ++ partition ∷ [] })

-- block ULID MIN MAX LABELS
pub record BlockLine (before : SoFar) (line : List ℕ) (after : SoFar) : Type 0 where
  pub ulid_text : List ℕ
  pub min_text : List ℕ
  pub max_text : List ℕ
  pub labels_text : List ℕ
  pub ulid : ℕ
  pub min_time : ℤ
  pub max_time : ℤ
  pub labels : List Label
  pub spelled : line ≡ spaced (codes "block" ∷ ulid_text ∷ min_text ∷ max_text ∷ labels_text ∷ [])
  pub is_ulid : IsUlidField ulid_text ulid
  pub is_min : IsTimeText min_text min_time
  pub is_max : IsTimeText max_text max_time
  pub are_labels : IsSetText labels_text labels
  pub early : IsEarly before
  pub times : min_time <ℤ max_time
  pub new : IsFalse (declares before.script.blocks ulid)
  pub few : length before.script.blocks < most_blocks
  pub adds : after ≡ inside (record before.script { blocks = before.script.blocks ++ record { ulid = ulid; labels = labels; body = Inline min_time max_time [] } ∷ [] })

-- shelf ULID LABELS
pub record ShelfLine (before : SoFar) (line : List ℕ) (after : SoFar) : Type 0 where
  pub ulid_text : List ℕ
  pub labels_text : List ℕ
  pub ulid : ℕ
  pub labels : List Label
  pub spelled : line ≡ spaced (codes "shelf" ∷ ulid_text ∷ labels_text ∷ [])
  pub is_ulid : IsUlidField ulid_text ulid
  pub are_labels : IsSetText labels_text labels
  pub early : IsEarly before
  pub new : IsFalse (declares before.script.blocks ulid)
  pub few : length before.script.blocks < most_blocks
  pub adds : after ≡ outside (record before.script { blocks = before.script.blocks ++ record { ulid = ulid; labels = labels; body = OnShelf } ∷ [] })

-- series LABELS TIME:PATTERN TIME:PATTERN ..
pub record SeriesLine (before : SoFar) (line : List ℕ) (after : SoFar) : Type 0 where
  pub labels_text : List ℕ
  pub texts : List (List ℕ)
  pub labels : List Label
  pub samples : List Sample
  pub spelled : line ≡ spaced (codes "series" ∷ labels_text ∷ spaced texts ∷ [])
  pub are_labels : IsSetText labels_text labels
  pub some : texts ≢ []
  pub are_samples : AreSampleFields texts samples
  pub rising : IsStrictlySortedBy int_cmp (times_of samples)
  pub in_block : IsTrue before.in_block
  -- the last block, and its series with lesser and with greater labels, none of which has these labels
  pub others : List Block
  pub ulid : ℕ
  pub block_labels : List Label
  pub min_time : ℤ
  pub max_time : ℤ
  pub lesser : List Series
  pub greater : List Series
  pub last : before.script.blocks ≡ others ++ record { ulid = ulid; labels = block_labels; body = Inline min_time max_time (lesser ++ greater) } ∷ []
  pub within : All (IsWithin min_time max_time) samples
  pub ascend : IsStrictlySortedBy compare_sets (map (λ one. one.labels) (lesser ++ record { labels = labels; samples = samples } ∷ greater))
  pub adds : after ≡ inside (record before.script { blocks = others ++ record { ulid = ulid; labels = block_labels; body = Inline min_time max_time (lesser ++ record { labels = labels; samples = samples } ∷ greater) } ∷ [] })

-- ---- phases and their tasks

-- at MOMENT
pub record AtLine (before : SoFar) (number : ℕ) (line : List ℕ) (after : SoFar) : Type 0 where
  pub text : List ℕ
  pub moment : ℕ
  pub spelled : line ≡ spaced (codes "at" ∷ text ∷ [])
  pub field : IsField text
  pub is_moment : IsMomentText text moment
  -- The first phase begins with rules that agree, a later one no sooner than the one before it.
  pub first : IsEarly before → DoAgree before.script.rules
  pub later : (others : List Phase) (last : Phase) → before.script.phases ≡ others ++ last ∷ [] → last.moment.ms ≤ moment
  pub adds : after ≡ outside (record before.script { phases = before.script.phases ++ record { line = number; moment = record { ms = moment }; tasks = [] } ∷ [] })

-- the last phase with one more task
pub record AddsTask (before : Script) (number : ℕ) (work : Work) (after : Script) : Type 0 where
  pub others : List Phase
  pub phase : Phase
  pub last : before.phases ≡ others ++ phase ∷ []
  pub few : length (works_of before.phases) < most_tasks
  pub few_workers : FewWorkers (gateway_count before.gateways) (phase.tasks ++ record { line = number; work = work } ∷ [])
  pub adds : after ≡ record before { phases = others ++ record phase { tasks = phase.tasks ++ record { line = number; work = work } ∷ [] } ∷ [] }

-- What may follow the words of a task: nothing, or `stop` and how many operations it makes before it stops.
pub data AreStopTexts (texts : List (List ℕ)) (stop : Option ℕ) : Type 0 where
  no_stop : texts ≡ [] → stop ≡ None → AreStopTexts texts stop
  stops_at : (text : List ℕ) (count : ℕ) → texts ≡ codes "stop" ∷ text ∷ [] → IsField text → text ≡ decimal_text count → 1 ≤ count → count ≤ latest_stop → stop ≡ Some count → AreStopTexts texts stop

-- upload ULID, or upload ULID stop N
pub record UploadLine (before : SoFar) (number : ℕ) (line : List ℕ) (after : SoFar) : Type 0 where
  pub text : List ℕ
  pub ulid : ℕ
  pub texts : List (List ℕ)
  pub stop : Option ℕ
  pub spelled : line ≡ spaced (codes "upload" ∷ text ∷ texts)
  pub is_ulid : IsUlidField text ulid
  pub are_texts : AreStopTexts texts stop
  pub declared : IsTrue (declares before.script.blocks ulid)
  pub script : Script
  pub task : AddsTask before.script number (Upload ulid stop) script
  pub adds : after ≡ outside script

-- sync NAME
pub record SyncLine (before : SoFar) (number : ℕ) (line : List ℕ) (after : SoFar) : Type 0 where
  pub name : List ℕ
  pub gateway : ℕ
  pub spelled : line ≡ spaced (codes "sync" ∷ name ∷ [])
  pub field : IsField name
  pub is_name : IsTrue (is_name name)
  pub declared : position (λ one. bytes_eq one name) before.script.gateways ≡ Some gateway
  pub script : Script
  pub task : AddsTask before.script number (Sync gateway) script
  pub adds : after ≡ outside script

-- compact, or compact stop N
pub record CompactLine (before : SoFar) (number : ℕ) (line : List ℕ) (after : SoFar) : Type 0 where
  pub texts : List (List ℕ)
  pub stop : Option ℕ
  pub spelled : line ≡ spaced (codes "compact" ∷ texts)
  pub are_texts : AreStopTexts texts stop
  pub script : Script
  pub task : AddsTask before.script number (Compact stop) script
  -- It is the first in its phase.
  pub first : IsFalse (has_compaction task.phase.tasks)
  pub adds : after ≡ outside script

-- clean, or clean stop N
pub record CleanLine (before : SoFar) (number : ℕ) (line : List ℕ) (after : SoFar) : Type 0 where
  pub texts : List (List ℕ)
  pub stop : Option ℕ
  pub spelled : line ≡ spaced (codes "clean" ∷ texts)
  pub are_texts : AreStopTexts texts stop
  pub script : Script
  pub task : AddsTask before.script number (Clean stop) script
  pub adds : after ≡ outside script

-- query LOW HIGH SELECTOR
pub record QueryLine (before : SoFar) (number : ℕ) (line : List ℕ) (after : SoFar) : Type 0 where
  pub low_text : List ℕ
  pub high_text : List ℕ
  pub selector_text : List ℕ
  pub low : ℤ
  pub high : ℤ
  pub selector : List Matcher
  pub spelled : line ≡ spaced (codes "query" ∷ low_text ∷ high_text ∷ selector_text ∷ [])
  pub is_low : IsTimeText low_text low
  pub is_high : IsTimeText high_text high
  pub is_selector : IsReadable selector_text before.script.rules.replicas selector
  pub times : low ≤ℤ high
  pub synced : (gateway : ℕ) → gateway < length before.script.gateways → IsTrue (has_sync (works_of before.script.phases) gateway)
  pub script : Script
  pub task : AddsTask before.script number (Query low high (length before.script.selectors)) script
  pub adds : after ≡ outside (record script { selectors = script.selectors ++ selector ∷ [] })

-- ---- whole texts

-- What a line says. Every line but a series line ends the block before it.
pub data Says (before : SoFar) (number : ℕ) (line : List ℕ) (after : SoFar) : Type 0 where
  series : SeriesLine before line after → Says before number line after
  rule : HasEnded before.script.blocks → RuleLine before line after → Says before number line after
  replica : HasEnded before.script.blocks → ReplicaLine before line after → Says before number line after
  retention : HasEnded before.script.blocks → RetentionLine before line after → Says before number line after
  gateway : HasEnded before.script.blocks → GatewayLine before line after → Says before number line after
  block : HasEnded before.script.blocks → BlockLine before line after → Says before number line after
  shelf : HasEnded before.script.blocks → ShelfLine before line after → Says before number line after
  at : HasEnded before.script.blocks → AtLine before number line after → Says before number line after
  upload : HasEnded before.script.blocks → UploadLine before number line after → Says before number line after
  sync : HasEnded before.script.blocks → SyncLine before number line after → Says before number line after
  compact : HasEnded before.script.blocks → CompactLine before number line after → Says before number line after
  clean : HasEnded before.script.blocks → CleanLine before number line after → Says before number line after
  query : HasEnded before.script.blocks → QueryLine before number line after → Says before number line after

-- Lines in order, the first of which has this number. A silent line is passed over, and counted.
abbrev pub Say : SoFar → ℕ → List (List ℕ) → SoFar → Type 0
Say before number [] after = before ≡ after
Say before number (line ∷ lines) after =
    MatchBool (is_silent line)
    (Say before (number + 1) lines after)
    ((next : SoFar) × IsTrue (is_utf8 line) × Says before number line next × Say next (number + 1) lines after)

-- The text spells the script.
pub record Spells (text : List ℕ) (script : Script) : Type 0 where
  pub short : length text ≤ longest_text
  pub in_block : Bool
  pub lines : Say nothing 1 (lines_of text) (record { script = script; in_block = in_block })
  pub ended : HasEnded script.blocks
