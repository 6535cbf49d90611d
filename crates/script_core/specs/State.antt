-- What the lines of a script so far leave to the next one.
use Rattle.std.specs.Prelude.{ℕ, ◌+◌, List, [], ◌∷◌, ◌++◌, length, map, Bool, true, false, not, ◌||◌, ◌==◌, nat_lt, nat_le, option_map, ok_or, Option, None, Some, Result, Ok, Err, ℤ, position, if◌then◌else◌}
use Rattle.std.specs.List.{list_any, list_all, range_with_len}
use Rattle.std.specs.Ordering.{is_eq, match_ordering, nat_cmp}
use Rattle.std.specs.BTreeMap.{is_at}
use Rattle.std.specs.BTreeSet.{insert_key}
use Rattle.std.specs.Str.{bytes_eq}
use Rattle.base.specs.Lists.{is_one_of}
use Rattle.base.specs.Reading.{◌>>=◌, ◌>>◌, unless}
use Rattle.label_sets.specs.Labels.{compare_sets}
use Rattle.label_sets.specs.declared.label.Label.{Label}
use Rattle.label_sets.specs.declared.sample.Sample.{Sample}
use Rattle.label_sets.specs.declared.series.Series.{Series}
use Rattle.matchers.specs.declared.matcher.Matcher.{Matcher}
use Rattle.moment_core.specs.declared.partition.Partition.{Partition}
use Rattle.moment_core.specs.declared.rules.Rules.{Rules}
use Rattle.script_workers.specs.Limits.{most_workers}
use Rattle.script_fields.specs.Limits.{most_gateways, most_blocks, most_tasks}
use Rattle.script_fields.specs.declared.cause.LineCause.TheVariants.{EmptyInline, NoBlock, NoPhase, OutsideBlock, RepeatedSeries}
use Rattle.script_fields.specs.declared.line_refusal.LineRefusal.{LineRefusal}
use Rattle.script_fields.specs.declared.line_refusal.LineRefusal.TheVariants.{Bad, BlockChanged, TooMany}
use Rattle.script_core.specs.declared.block.Block.{Block}
use Rattle.script_core.specs.declared.body.Body.TheVariants.{Inline}
use Rattle.script_workers.specs.declared.phase.Phase.{Phase}
use Rattle.script_workers.specs.declared.work.Work.{Work}
use Rattle.script_workers.specs.declared.work.Work.TheVariants.{Query}
use Rattle.script_core.specs.declared.script.Script.{Script}
use Rattle.script_fields.specs.declared.script_refusal.ScriptRefusal.{ScriptRefusal}
use Rattle.script_fields.specs.declared.script_refusal.ScriptRefusal.TheVariants.{BadLine}
use Rattle.script_core.specs.declared.inline_block.InlineBlock.{InlineBlock}
use Rattle.script_fields.specs.Samples.{are_within}
use Rattle.script_workers.specs.Hands.{gateway_count, with_hands}
use Rattle.script_workers.specs.Works.{has_compaction}
use Rattle.script_workers.specs.declared.hand.Hand.{Hand}

-- the last inline block, with the number of its line
pub record Last : Type 0 where
  pub line : ℕ
  pub ulid : ℕ
  pub labels : List Label
  pub min_time : ℤ
  pub max_time : ℤ
  -- ascending by labels
  pub series : List Series

pub record State : Type 0 where
  pub rules : Rules
  -- the names of the gateways
  pub gateways : List (List ℕ)
  -- their partitions
  pub partitions : List Partition
  -- the places of those that have a sync line, each once
  pub synced : List ℕ
  -- the blocks before the last inline one, that one, and the shelf's blocks behind it
  pub blocks : List Block
  pub last : Option Last
  pub shelved : List Block
  -- whether a series line may follow
  pub continues : Bool
  -- the ULIDs of all blocks, ascending
  pub ulids : List ℕ
  pub selectors : List (List Matcher)
  -- the phases before the last, and the last
  pub phases : List Phase
  pub phase : Option Phase
  -- who does the tasks of the last phase
  pub hands : List Hand
  -- how many tasks there are
  pub activities : ℕ

-- an entry of the map of a block's series
abbrev pub series_of : List Label × List Sample → Series
series_of entry = record { labels = entry.0; samples = entry.1 }

abbrev pub last_of : InlineBlock → Last
last_of block =
    record { line = block.line; ulid = block.ulid; labels = block.labels; min_time = block.min_time; max_time = block.max_time; series = map series_of block.series.entries }

-- what there is before the first line
unfoldable pub start : Rules → State
start rules =
    record { rules = rules; gateways = []; partitions = []; synced = []; blocks = []; last = None; shelved = []; continues = false; ulids = []; selectors = []; phases = []; phase = None; hands = []; activities = 0 }

-- a declared block as the script has it
abbrev pub block_of : Last → Block
block_of last =
    record { ulid = last.ulid; labels = last.labels; body = Inline last.min_time last.max_time last.series }

-- the blocks with the last inline one
abbrev pub with_last : List Block → Option Last → List Block
with_last blocks None = blocks
with_last blocks (Some last) = blocks ++ block_of last ∷ []

-- and with the shelf's blocks behind it
abbrev pub all_blocks : List Block → Option Last → List Block → List Block
all_blocks blocks last shelved = with_last blocks last ++ shelved

-- the phases with the last one
abbrev pub all_phases : List Phase → Option Phase → List Phase
all_phases phases None = phases
all_phases phases (Some phase) = phases ++ phase ∷ []

-- the last inline block joins those before it
abbrev pub store_inline : State → State
store_inline st = record st { blocks = with_last st.blocks st.last; last = None }

-- and so do the shelf's blocks behind it
abbrev pub store_blocks : State → State
store_blocks st = record st { blocks = all_blocks st.blocks st.last st.shelved; last = None; shelved = [] }

-- the last phase joins those before it
abbrev pub store_phase : State → State
store_phase st = record st { phases = all_phases st.phases st.phase; phase = None; hands = [] }

abbrev pub is_declared : State → ℕ → Bool
is_declared st ulid = list_any (is_at (nat_cmp ulid)) st.ulids

-- the place of the gateway of this name
abbrev pub gateway_named : List (List ℕ) → List ℕ → Option ℕ
gateway_named gateways name = position (λ gateway. bytes_eq gateway name) gateways

-- a block that is complete has a series
abbrev pub has_ended : Option Last → Result (Unit {0}) ScriptRefusal
has_ended None = Ok tt
has_ended (Some last) = unless (not (length last.series == 0)) (BadLine last.line EmptyInline)

-- no series line follows the last block's lines
unfoldable pub end_block : State → Result State ScriptRefusal
end_block st = do
  has_ended st.last
  Ok (record st { continues = false })

unfoldable pub add_gateway : State → List ℕ → Partition → Result State LineRefusal
add_gateway st name partition = do
  unless (nat_lt (length st.gateways) most_gateways) TooMany
  Ok (record st { gateways = st.gateways ++ name ∷ []; partitions = st.partitions ++ partition ∷ [] })

-- the ULID of one block more
abbrev pub declare : State → ℕ → Result State LineRefusal
declare st ulid = do
  unless (not (is_declared st ulid)) BlockChanged
  unless (nat_lt (length st.ulids) most_blocks) TooMany
  Ok (record st { ulids = insert_key nat_cmp st.ulids ulid })

unfoldable pub begin_block : State → Last → Result State LineRefusal
begin_block st block = do
  declared ← declare (store_blocks st) block.ulid
  Ok (record declared { last = Some block; continues = true })

-- a block of the shelf
unfoldable pub add_shelf : State → Block → Result State LineRefusal
add_shelf st block = do
  declared ← declare st block.ulid
  Ok (record declared { shelved = declared.shelved ++ block ∷ [] })

-- whether the block has a series with these labels
abbrev pub has_series : List Series → List Label → Bool
has_series [] labels = false
has_series (series ∷ others) labels = is_eq (compare_sets labels series.labels) || has_series others labels

-- a series at its place among those of the block, ascending by labels
abbrev pub insert_series : List Series → Series → List Series
insert_series [] new = new ∷ []
insert_series (series ∷ others) new =
    match_ordering (compare_sets new.labels series.labels) (new ∷ series ∷ others) (record series { samples = new.samples } ∷ others) (series ∷ insert_series others new)

-- whether a series fits the last block, and may follow
abbrev pub test_block : Bool → Option Last → List Label → List Sample → Result (Unit {0}) LineRefusal
test_block continues None labels samples = Err (Bad NoBlock)
test_block continues (Some last) labels samples = do
  unless (are_within last.min_time last.max_time samples) (Bad OutsideBlock)
  unless (not (has_series last.series labels)) (Bad RepeatedSeries)
  unless continues (Bad NoBlock)

abbrev pub test_series : State → List Label → List Sample → Result (Unit {0}) LineRefusal
test_series st labels samples = test_block st.continues st.last labels samples

-- the last block with one more series
abbrev pub with_series : Series → Last → Last
with_series series last = record last { series = insert_series last.series series }

unfoldable pub add_series : State → Series → Result State LineRefusal
add_series st series = do
  test_series st series.labels series.samples
  Ok (record st { last = option_map (with_series series) st.last })

unfoldable pub begin_phase : State → Phase → State
begin_phase st phase = record st { phases = all_phases st.phases st.phase; phase = Some phase; hands = [] }

-- who does the tasks of the last phase with one more
abbrev pub more_hands : State → Phase → Work → List Hand
more_hands st phase work = with_hands (gateway_count st.gateways) st.hands (length phase.tasks) work

-- a task at the end of the last phase
unfoldable pub add_task : State → ℕ → Work → Result State LineRefusal
add_task st line work = do
  unless (nat_lt st.activities most_tasks) TooMany
  phase ← ok_or st.phase (Bad NoPhase)
  unless (nat_le (length (more_hands st phase work)) most_workers) TooMany
  Ok (record st { phase = Some (record phase { tasks = phase.tasks ++ record { line = line; work = work } ∷ [] }); hands = more_hands st phase work; activities = st.activities + 1 })

unfoldable pub add_query : State → ℕ → ℤ → ℤ → List Matcher → Result State LineRefusal
add_query st line low high selector = do
  after ← add_task st line (Query low high (length st.selectors))
  Ok (record after { selectors = after.selectors ++ selector ∷ [] })

-- a sync line of the gateway at a place
unfoldable pub note_sync : State → ℕ → State
note_sync st gateway =
    record st { synced = (if is_one_of st.synced gateway then st.synced else st.synced ++ gateway ∷ []) }

-- the last phase has a compaction
abbrev pub phase_compacts : Option Phase → Bool
phase_compacts None = false
phase_compacts (Some phase) = has_compaction phase.tasks

-- each gateway has a sync line
abbrev pub are_all_synced : State → Bool
are_all_synced st = list_all (is_one_of st.synced) (range_with_len 0 (length st.gateways))

-- the script of a state that no line follows
abbrev pub script_of_state : State → Script
script_of_state st =
    record { rules = st.rules; gateways = st.gateways; partitions = st.partitions; blocks = all_blocks st.blocks st.last st.shelved; selectors = st.selectors; phases = all_phases st.phases st.phase }

-- the same where the last block, those behind it and the last phase are stored
abbrev pub stored_script : State → Script
stored_script st =
    record { rules = st.rules; gateways = st.gateways; partitions = st.partitions; blocks = st.blocks; selectors = st.selectors; phases = st.phases }

-- what is left after the last line, as a script
unfoldable pub finish : State → Result Script ScriptRefusal
finish st = do
  ended ← end_block st
  Ok (script_of_state ended)
