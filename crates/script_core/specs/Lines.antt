-- One definition for each kind of line: the causes for which it is refused, in the order in which they are tested, and
-- what it leaves to the next line.
use Rattle.std.specs.Prelude.{ℕ, List, [], length, drop, Bool, not, ◌&&◌, ◌==◌, nat_le, int_lt, ok_or, unwrap_or, Option, None, Some, is_none, is_some, Result, Ok, Err, ℤ, codes}
use Rattle.std.specs.Str.{bytes_eq}
use Rattle.std.specs.Ordering.{int_cmp}
use Rattle.base.specs.Order.{are_in_order_after, comes_after}
use Rattle.base.specs.Reading.{◌>>=◌, ◌>>◌, unless, refused_as}
use Rattle.label_sets.specs.declared.label.Label.{Label}
use Rattle.label_sets.specs.declared.label_refusal.LabelRefusal.{LabelRefusal}
use Rattle.label_sets.specs.declared.sample.Sample.{Sample}
use Rattle.matchers.specs.declared.matcher.Matcher.{Matcher}
use Rattle.moment_core.specs.Partitions.{all_times}
use Rattle.moment_core.specs.declared.moment.Moment.{Moment}
use Rattle.moment_core.specs.declared.partition.Partition.{Partition}
use Rattle.moment_core.specs.declared.rules.Rules.{Rules}
use Rattle.script_core.specs.declared.body.Body.TheVariants.{OnShelf}
use Rattle.script_fields.specs.declared.cause.LineCause.{LineCause}
use Rattle.script_fields.specs.declared.cause.LineCause.TheVariants as causes
use Rattle.script_fields.specs.declared.line_kind.LineKind.{LineKind}
use Rattle.script_fields.specs.declared.line_kind.LineKind.TheVariants as kinds
use Rattle.script_fields.specs.declared.line_refusal.LineRefusal.{LineRefusal}
use Rattle.script_fields.specs.declared.line_refusal.LineRefusal.TheVariants.{Bad, FallingMoment, UnknownBlock, BadRules, NeverSynced, TwoCompactors}
use Rattle.script_core.specs.declared.inline_block.BlockHead.{BlockHead}
use Rattle.script_workers.specs.declared.phase.Phase.{Phase}
use Rattle.script_workers.specs.declared.work.Work.TheVariants as works
use Rattle.script_fields.specs.Fields.{is_empty, next_field, only_field, after_space, rule_kind}
use Rattle.script_fields.specs.Values.{time_field, moment_field, ulid_field, stop_count, is_reserved, apply_rule, agree}
use Rattle.script_fields.specs.Samples.{are_whole, have_small_numbers, samples_of}
use Rattle.script_fields.specs.LineRefusals.{bad}
use Rattle.script_core.specs.State.{State, gateway_named, add_gateway, is_declared, begin_block, add_shelf, add_series, begin_phase, add_task, add_query, note_sync, are_all_synced, phase_compacts}
use Rattle.matchers.specs.SelectorText.{are_lawful, named_replicas}
use Rattle.matchers.specs.Stages.{read_whole, selector_of}
use Rattle.label_sets.specs.Notation.{is_name, read_set}
use Rattle.label_sets.specs.Times.{times_of}

-- before the first phase, and after its beginning
abbrev pub is_early : State → Bool
is_early st = is_none st.phase

abbrev pub has_begun : State → Bool
has_begun st = is_some st.phase

-- rule NAME VALUE
unfoldable pub rule_line : State → Option (List ℕ) → Result State LineRefusal
rule_line st left = do
  text ← ok_or left (Bad causes.BadShape)
  kind ← ok_or (rule_kind (next_field (Some text)).0) (Bad causes.UnknownWord)
  value ← bad (only_field (next_field (Some text)).1)
  set ← bad (apply_rule kind value st.rules)
  unless (is_early st) (Bad causes.LateLine)
  Ok (record st { rules = set })

-- what is left behind a gateway's name: nothing, for all times, or LOW HIGH
unfoldable pub partition_field : Option (List ℕ) → Result Partition LineCause
partition_field None = Ok all_times
partition_field (Some text) = do
  let low_text = next_field (Some text)
  high_text ← only_field low_text.1
  unless (not (is_empty low_text.0)) causes.BadShape
  low ← time_field low_text.0
  high ← time_field high_text
  Ok (record { low = low; high = high })

-- gateway NAME, or gateway NAME LOW HIGH
unfoldable pub gateway_line : State → Option (List ℕ) → Result State LineRefusal
gateway_line st left = do
  let name = next_field left
  unless (not (is_empty name.0)) (Bad causes.BadShape)
  partition ← bad (partition_field name.1)
  unless (is_name name.0) (Bad causes.BadName)
  unless (is_early st) (Bad causes.LateLine)
  unless (not (int_lt partition.high partition.low)) (Bad causes.BadTimes)
  unless (is_none (gateway_named st.gateways name.0)) (Bad causes.RepeatedGateway)
  add_gateway st name.0 partition

-- a label set has to take all of its text
abbrev pub whole_labels : ℕ → Result (List Label × ℕ) LabelRefusal → Result (Option (List Label)) LineRefusal
whole_labels count (Err refusal) = Ok None
whole_labels count (Ok found) = do
  unless (found.1 == count) (Bad causes.BadShape)
  Ok (Some found.0)

-- The label set that is left of a line. Where its text is none there is no set, which is refused after the fields before
-- it.
unfoldable pub last_labels : Option (List ℕ) → Result (Option (List Label)) LineRefusal
last_labels left = do
  unless (not (is_empty (unwrap_or left []))) (Bad causes.BadShape)
  whole_labels (length (unwrap_or left [])) (read_set (unwrap_or left []))

-- the ULID and the times of a block line, which are read in another order than they stand
abbrev pub block_head : List ℕ → List ℕ → List ℕ → Result BlockHead LineCause
block_head ulid_text min_text max_text = do
  min_time ← time_field min_text
  max_time ← time_field max_text
  ulid ← ulid_field ulid_text
  Ok (record { ulid = ulid; min_time = min_time; max_time = max_time })

abbrev pub test_head : Bool → BlockHead → Result (Unit {0}) LineRefusal
test_head early head = do
  unless early (Bad causes.LateLine)
  unless (int_lt head.min_time head.max_time) (Bad causes.BadTimes)
  unless (not (is_reserved head.ulid)) (Bad causes.ReservedUlid)

-- block ULID MIN MAX LABELS
unfoldable pub block_line : State → ℕ → Option (List ℕ) → Result State LineRefusal
block_line st number left = do
  let ulid_text = next_field left
  let min_text = next_field ulid_text.1
  let max_text = next_field min_text.1
  unless (not (is_empty ulid_text.0) && not (is_empty min_text.0) && not (is_empty max_text.0)) (Bad causes.BadShape)
  set ← last_labels max_text.1
  head ← bad (block_head ulid_text.0 min_text.0 max_text.0)
  labels ← ok_or set (Bad causes.BadLabelText)
  test_head (is_early st) head
  begin_block st (record { line = number; ulid = head.ulid; labels = labels; min_time = head.min_time; max_time = head.max_time; series = [] })

abbrev pub test_shelf : Bool → ℕ → Result (Unit {0}) LineRefusal
test_shelf early ulid = do
  unless early (Bad causes.LateLine)
  unless (not (is_reserved ulid)) (Bad causes.ReservedUlid)

-- shelf ULID LABELS
unfoldable pub shelf_line : State → Option (List ℕ) → Result State LineRefusal
shelf_line st left = do
  let ulid_text = next_field left
  unless (not (is_empty ulid_text.0)) (Bad causes.BadShape)
  set ← last_labels ulid_text.1
  ulid ← bad (ulid_field ulid_text.0)
  labels ← ok_or set (Bad causes.BadLabelText)
  test_shelf (is_early st) ulid
  add_shelf st (record { ulid = ulid; labels = labels; body = OnShelf })

-- the label set at the front of what is left of a line, and what follows the space after it
unfoldable pub first_labels : Option (List ℕ) → Result (List Label × List ℕ) LineRefusal
first_labels left = do
  unless (not (is_empty (unwrap_or left []))) (Bad causes.BadShape)
  found ← refused_as (λ _. Bad causes.BadLabelText) (read_set (unwrap_or left []))
  texts ← bad (after_space (drop found.1 (unwrap_or left [])))
  Ok (found.0, texts)

-- whether each time is after the one before
abbrev pub times_ascend : List Sample → Bool
times_ascend samples = are_in_order_after (comes_after int_cmp) None (times_of samples)

-- TIME:PATTERN TIME:PATTERN ..
abbrev pub line_samples : List ℕ → Result (List Sample) LineRefusal
line_samples texts = do
  unless (are_whole texts) (Bad causes.BadShape)
  unless (have_small_numbers texts) (Bad causes.BadNumber)
  samples ← bad (samples_of texts)
  unless (times_ascend samples) (Bad causes.FallingTimes)
  Ok samples

-- series LABELS TIME:PATTERN TIME:PATTERN ..
unfoldable pub series_line : State → Option (List ℕ) → Result State LineRefusal
series_line st left = do
  found ← first_labels left
  samples ← line_samples found.1
  add_series st (record { labels = found.0; samples = samples })

-- the first phase asks that the rules agree, a later one that it is not before the last
abbrev pub may_begin : Rules → Option Phase → Moment → Result (Unit {0}) LineRefusal
may_begin rules None moment = unless (agree rules) BadRules
may_begin rules (Some last) moment = unless (nat_le last.moment.ms moment.ms) FallingMoment

-- at MOMENT
unfoldable pub at_line : State → ℕ → Option (List ℕ) → Result State LineRefusal
at_line st number left = do
  text ← bad (only_field left)
  moment ← bad (moment_field text)
  may_begin st.rules st.phase moment
  Ok (begin_phase st (record { line = number; moment = moment; tasks = [] }))

-- what is left behind the words of a task: nothing, or stop N
unfoldable pub stop_field : Option (List ℕ) → Result (Option ℕ) LineCause
stop_field None = Ok None
stop_field (Some text) = do
  let word = next_field (Some text)
  count_text ← only_field word.1
  unless (bytes_eq word.0 (codes "stop")) causes.BadShape
  count ← stop_count count_text
  Ok (Some count)

-- upload ULID, or upload ULID stop N
unfoldable pub upload_line : State → ℕ → Option (List ℕ) → Result State LineRefusal
upload_line st number left = do
  let ulid_text = next_field left
  unless (not (is_empty ulid_text.0)) (Bad causes.BadShape)
  stop ← bad (stop_field ulid_text.1)
  ulid ← bad (ulid_field ulid_text.0)
  unless (has_begun st) (Bad causes.NoPhase)
  unless (not (is_reserved ulid)) (Bad causes.ReservedUlid)
  unless (is_declared st ulid) UnknownBlock
  add_task st number (works.Upload ulid stop)

-- sync NAME
unfoldable pub sync_line : State → ℕ → Option (List ℕ) → Result State LineRefusal
sync_line st number left = do
  name ← bad (only_field left)
  unless (is_name name) (Bad causes.BadName)
  unless (has_begun st) (Bad causes.NoPhase)
  gateway ← ok_or (gateway_named st.gateways name) (Bad causes.UnknownGateway)
  after ← add_task st number (works.Sync gateway)
  Ok (note_sync after gateway)

-- compact, or compact stop N
unfoldable pub compact_line : State → ℕ → Option (List ℕ) → Result State LineRefusal
compact_line st number left = do
  stop ← bad (stop_field left)
  unless (has_begun st) (Bad causes.NoPhase)
  unless (not (phase_compacts st.phase)) TwoCompactors
  add_task st number (works.Compact stop)

-- clean, or clean stop N
unfoldable pub clean_line : State → ℕ → Option (List ℕ) → Result State LineRefusal
clean_line st number left = do
  stop ← bad (stop_field left)
  unless (has_begun st) (Bad causes.NoPhase)
  add_task st number (works.Clean stop)

-- what a query line asks, before its selector is read
pub record Asked : Type 0 where
  pub low : ℤ
  pub high : ℤ
  -- the text of the selector
  pub text : List ℕ

-- LOW HIGH SELECTOR, where all that is left behind the times is the selector, and a phase has to have begun
unfoldable pub question_at : Bool → Option (List ℕ) → Result Asked LineRefusal
question_at begun left = do
  let low_text = next_field left
  let high_text = next_field low_text.1
  let text = unwrap_or high_text.1 []
  unless (not (is_empty low_text.0) && not (is_empty high_text.0) && not (is_empty text)) (Bad causes.BadShape)
  low ← bad (time_field low_text.0)
  high ← bad (time_field high_text.0)
  unless begun (Bad causes.NoPhase)
  unless (not (int_lt high low)) (Bad causes.BadTimes)
  Ok (record { low = low; high = high; text = text })

-- The selector of a text, whatever the size of its patterns: first the text is read, then its patterns are, and then the
-- names of its matchers are compared with those of the replica labels.
unfoldable pub selector_field : List (List ℕ) → List ℕ → Result (List Matcher) LineCause
selector_field replicas text = do
  draft ← refused_as (λ _. causes.BadSelectorText) (read_whole text)
  unless (are_lawful (selector_of draft)) causes.BadPatternText
  unless (length (named_replicas replicas (selector_of draft)) == 0) causes.ReplicaNamed
  Ok (selector_of draft)

-- query LOW HIGH SELECTOR
unfoldable pub query_line : State → ℕ → Option (List ℕ) → Result State LineRefusal
query_line st number left = do
  asked ← question_at (has_begun st) left
  selector ← bad (selector_field st.rules.replicas asked.text)
  unless (are_all_synced st) NeverSynced
  add_query st number asked.low asked.high selector

-- a line by its kind
unfoldable pub fields_line : State → ℕ → LineKind → Option (List ℕ) → Result State LineRefusal
fields_line st number kinds.Rule left = rule_line st left
fields_line st number kinds.Gateway left = gateway_line st left
fields_line st number kinds.Block left = block_line st number left
fields_line st number kinds.Series left = series_line st left
fields_line st number kinds.Shelf left = shelf_line st left
fields_line st number kinds.At left = at_line st number left
fields_line st number kinds.Upload left = upload_line st number left
fields_line st number kinds.Sync left = sync_line st number left
fields_line st number kinds.Compact left = compact_line st number left
fields_line st number kinds.Clean left = clean_line st number left
fields_line st number kinds.Query left = query_line st number left
