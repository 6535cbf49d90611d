-- The text of the generated day. Two replicas, 0 and 1, have twelve blocks of two hours each, from the first millisecond of
-- 2024-10-04 on. Both ship a block as soon as it ends. Then there are fifteen rounds of compaction and a cleaning, and three
-- queries ask for the whole day: before the rounds, after them, and after the cleaning.
use Rattle.std.specs.Prelude.{ℕ, ◌+◌, ◌*◌, ◌/◌, ◌%◌, ◌^◌, pos, List, [], ◌∷◌, ◌++◌, Bool, not, ◌==◌, if◌then◌else◌, codes}
use Rattle.std.specs.List.{flat_map, range_with_len}
use Rattle.base.specs.Decimal.{decimal_text, digit_zero}
use Rattle.base.specs.Lines.{newline}
use Rattle.ulid_core.specs.UlidText.{text_of}
use Rattle.ulid_core.specs.Limits.{entropy_count}
use Rattle.label_sets.specs.SampleText.{spaced_sample_text}
use Rattle.label_sets.specs.declared.sample.Sample.{Sample}
use Rattle.moment_core.specs.Limits.{one_minute, one_hour}

abbrev pub day_start : ℕ
day_start = 1_728_000_000_000

abbrev pub minutes : ℕ → ℕ
minutes count = count * one_minute

abbrev pub hours : ℕ → ℕ
hours count = count * one_hour

-- how many blocks a replica has
abbrev pub block_count : ℕ
block_count = 12

-- how many milliseconds a block has
abbrev pub block_span : ℕ
block_span = 7_200_000

-- the first millisecond of the block at a place, and the one behind the block before it
abbrev pub block_start : ℕ → ℕ
block_start place = day_start + block_span * place

-- ---- samples

-- how many series a block has
abbrev pub series_count : ℕ
series_count = 100

-- how many places for samples each series of a block has
abbrev pub place_count : ℕ
place_count = 480

-- how many milliseconds lie between two places
abbrev pub sample_step : ℕ
sample_step = 15_000

-- the pattern of a series' sample at a time, mixed of the day's number
abbrev pub pattern : ℕ → ℕ → ℕ → ℕ
pattern number series time =
    ((number + (1_000_003 * series + time)) * 6_364_136_223_846_793_005 + 1_442_695_040_888_963_407) % 2 ^ 64

-- the sample at a place of a block: there is one each fifteen seconds
abbrev pub sample : ℕ → ℕ → ℕ → ℕ → Sample
sample number block series place =
    let time = block_start block + sample_step * place in
    record { time = pos time; pattern = pattern number series time }

-- of each seven samples a replica misses one
abbrev pub has_sample : ℕ → ℕ → Bool
has_sample replica place = not (place % 7 == (if replica == 0 then 3 else 5))

unfoldable pub sample_part : ℕ → ℕ → ℕ → ℕ → ℕ → List Sample
sample_part number block replica series place =
    if has_sample replica place then sample number block series place ∷ [] else []

-- the samples of a replica's series in a block
unfoldable pub day_samples : ℕ → ℕ → ℕ → ℕ → List Sample
day_samples number block replica series = flat_map (sample_part number block replica series) (range_with_len 0 place_count)

unfoldable pub samples_text : ℕ → ℕ → ℕ → ℕ → List ℕ
samples_text number block replica series = flat_map spaced_sample_text (day_samples number block replica series)

-- ---- blocks

-- a ULID of the block's end
abbrev pub ulid_of : ℕ → ℕ → ℕ
ulid_of block replica = block_start (block + 1) * entropy_count + (2 * block + replica + 1)

unfoldable pub two_digits : ℕ → List ℕ
two_digits number = (digit_zero + number / 10) ∷ (digit_zero + number % 10) ∷ []

unfoldable pub labels_text : ℕ → List ℕ
labels_text series = codes "{__name__=\"m\",inst=\"i" ++ two_digits series ++ codes "\"}"

unfoldable pub series_line : ℕ → ℕ → ℕ → ℕ → List ℕ
series_line number block replica series =
    codes "series " ++ labels_text series ++ samples_text number block replica series ++ newline

unfoldable pub all_series_text : ℕ → ℕ → ℕ → List ℕ
all_series_text number block replica = flat_map (series_line number block replica) (range_with_len 0 series_count)

-- the times of a block: its first millisecond, and the one behind its last
unfoldable pub times_text : ℕ → List ℕ
times_text block = decimal_text (block_start block) ++ codes " " ++ decimal_text (block_start (block + 1))

unfoldable pub external_text : ℕ → List ℕ
external_text replica = codes "{cluster=\"c\",replica=\"" ++ decimal_text replica ++ codes "\"}"

unfoldable pub block_line : ℕ → ℕ → List ℕ
block_line block replica =
    codes "block " ++ text_of (ulid_of block replica) ++ codes " " ++ times_text block ++ codes " " ++ external_text replica
    ++ newline

-- a replica's block with its hundred series
unfoldable pub block_text : ℕ → ℕ → ℕ → List ℕ
block_text number block replica =
    block_line block replica ++ all_series_text number block replica

unfoldable pub blocks_at : ℕ → ℕ → List ℕ
blocks_at number block = block_text number block 0 ++ block_text number block 1

-- ---- phases

unfoldable pub at_line : ℕ → List ℕ
at_line moment = codes "at " ++ decimal_text moment ++ newline

unfoldable pub upload_line : ℕ → ℕ → List ℕ
upload_line block replica = codes "upload " ++ text_of (ulid_of block replica) ++ newline

unfoldable pub uploads_at : ℕ → List ℕ
uploads_at block = at_line (block_start (block + 1)) ++ upload_line block 0 ++ upload_line block 1

-- both gateways sync, and are asked for the day: an hour after the last blocks end, an hour after that, and behind the cleaning
unfoldable pub look_text : ℕ → List ℕ
look_text moment = at_line moment ++ codes "sync g1\nsync g2\nquery 1728000000000 1728086400000 {}\n"

-- when they do so first
abbrev pub first_look : ℕ
first_look = day_start + hours 25

-- when they do so behind the rounds of compaction
abbrev pub second_look : ℕ
second_look = day_start + hours 26

-- when the cleaning begins: two days after that, as long as a mark stands before what it marks is deleted
abbrev pub cleaning_begin : ℕ
cleaning_begin = day_start + hours 74

-- how many rounds of compaction there are
abbrev pub round_count : ℕ
round_count = 15

unfoldable pub round_text : ℕ → List ℕ
round_text round = at_line (first_look + minutes round) ++ codes "compact\n"

unfoldable pub cleaning_text : List ℕ
cleaning_text = at_line cleaning_begin ++ codes "clean\n"

-- ---- the whole

unfoldable pub all_blocks_text : ℕ → List ℕ
all_blocks_text number = flat_map (blocks_at number) (range_with_len 0 block_count)

unfoldable pub all_uploads_text : List ℕ
all_uploads_text = flat_map uploads_at (range_with_len 0 block_count)

unfoldable pub all_rounds_text : List ℕ
all_rounds_text = flat_map round_text (range_with_len 1 round_count)

unfoldable pub setup_text : List ℕ
setup_text = codes "rule replica-label replica\ngateway g1\ngateway g2\n"

-- all phases
unfoldable pub phases_text : List ℕ
phases_text =
    all_uploads_text ++ look_text first_look ++ all_rounds_text ++ look_text second_look ++ cleaning_text
    ++ look_text (cleaning_begin + minutes 1)

unfoldable pub day_text : ℕ → List ℕ
day_text number = setup_text ++ all_blocks_text number ++ phases_text
