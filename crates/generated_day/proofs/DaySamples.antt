-- The samples of a series of the generated day.
use Rattle.std.proofs.Common.{◌≡◌, ◌≢◌, ℕ, zero, suc, ◌+◌, ◌*◌, ◌%◌, ◌<◌, ◌≤◌, ◌^◌, pos, Bool, true, false, not, nat_le, ◌==◌, int_lt, List, [], ◌∷◌, ◌++◌, length, All, refl, arith}
use Rattle.std.specs.Prelude.{if◌then◌else◌}
use Rattle.std.specs.List.{AllByRecursion, flat_map, range_with_len}
use Rattle.std.specs.List.Sorted.{IsStrictlySortedBy}
use Rattle.std.specs.Ordering.{int_cmp}
use Rattle.std.specs.declared.cmp.Ordering.TheVariants.{Less}
use Rattle.std.proofs.lemmas.Bool.Decides.{nat_tests}
use Rattle.std.proofs.lemmas.Int.{ints}
use Rattle.std.proofs.lemmas.List.{length-append, length-map}
use Rattle.std.proofs.lemmas.List.Elements.{All-cons, All-head, All-nil, All-tail}
use Rattle.base.specs.Decimal.{decimal_text, signed_text}
use Rattle.base.specs.FixedDigits.{fixed_digits}
use Rattle.base.proofs.Positional.{length-fixed_digits}
use Rattle.label_sets.specs.SampleText.{hex_sign, hex_text, pattern_text, sample_text, spaced_sample_text, timed_text}
use Rattle.label_sets.specs.Times.{times_of, IsWithin}
use Rattle.label_sets.specs.declared.sample.Sample.{Sample}
use Rattle.script_core.specs.Parts.{HasField}
use Rattle.script_fields.specs.Values.{is_time}
use Rattle.script_core.proofs.SpelledValues.{below_compared, near_spelled}
use Rattle.generated_day.specs.Day.{block_start, day_samples, has_sample, sample, sample_part, samples_text}
use Rattle.generated_day.proofs.DayNumbers.{decimal_short}

-- a list with one more before it, or without
abbrev with_one : Bool → Sample → List Sample → List Sample
with_one has one others = (if has then one ∷ [] else []) ++ others

all_with : (P : Sample → Type 0) (has : Bool) (one : Sample) (others : List Sample) → P one → All P others → All P (with_one has one others)
all_with P true one others first all = All-cons P one others first all
all_with P false one others first all = all

-- each time is after that of the sample
abbrev AreAfter : Sample → List Sample → Type 0
AreAfter last samples = AllByRecursion (λ time. int_cmp last.time time ≡ Less) (times_of samples)

after_with : (has : Bool) (last one : Sample) (others : List Sample) → int_cmp last.time one.time ≡ Less → AreAfter last others → AreAfter last (with_one has one others)
after_with true last one others below after = (below, after)
after_with false last one others below after = after

ascend_with : (has : Bool) (one : Sample) (others : List Sample) → AreAfter one others → IsStrictlySortedBy int_cmp (times_of others) → IsStrictlySortedBy int_cmp (times_of (with_one has one others))
unfolding IsStrictlySortedBy
ascend_with true one others after ascend = (after, ascend)
ascend_with false one others after ascend = ascend

-- how many places there are at which a replica has a sample: the first replica, or the other
kept : Bool → ℕ → ℕ → ℕ
kept first from zero = 0
kept first from (suc count) =
    (if not (from % 7 == (if first then 3 else 5)) then 1 else 0) + kept first (from + 1) count

all_kept : (first : Bool) → nat_le (kept first 0 480) 412 ≡ true
unfolding kept
all_kept true = refl
all_kept false = refl

kept_with : (has : Bool) (one : Sample) (others : List Sample) (count : ℕ) → length others ≡ count → length (with_one has one others) ≡ (if has then 1 else 0) + count
kept_with true one others count same = omega (arith, same)
kept_with false one others count same = omega (arith, same)

some_with : (has : Bool) (one : Sample) (others : List Sample) → has ≡ true → with_one has one others ≢ []
some_with true one others is none = absurd cc
some_with false one others is none = absurd cc

later : (start one other : ℕ) → one < other → int_cmp (pos (start + 15_000 * one)) (pos (start + 15_000 * other)) ≡ Less
later start one other below =
    let test : int_lt (pos (start + 15_000 * one)) (pos (start + 15_000 * other)) ≡ true = grind (arith, ints, nat_tests) in
    below_compared (pos (start + 15_000 * one)) (pos (start + 15_000 * other)) test

-- ---- how long a text is

-- the sample's text is short, with the space before it
abbrev IsShort : Sample → Type 0
IsShort sample = length (spaced_sample_text sample) ≤ 32

sample_short : (time pattern : ℕ) → time < 2 ^ 42 → IsShort (record { time = pos time; pattern = pattern })
unfolding spaced_sample_text sample_text timed_text pattern_text hex_text signed_text
sample_short time pattern small =
    omega (
      arith,
      decimal_short time small,
      length-map (fixed_digits 16 16 pattern) hex_sign,
      length-fixed_digits 16 16 pattern,
      length-append (decimal_text time) (58 ∷ pattern_text pattern),
    )

all_short : (samples : List Sample) → All IsShort samples → length (flat_map spaced_sample_text samples) ≤ 32 * length samples
all_short [] all = omega arith
all_short (sample ∷ samples) all =
    omega (
      arith,
      length-append (spaced_sample_text sample) (flat_map spaced_sample_text samples),
      All-head IsShort sample samples all,
      all_short samples (All-tail IsShort sample samples all),
    )

-- ---- the samples of a series

has_first : (one : Bool) → not (0 % 7 == (if one then 3 else 5)) ≡ true
has_first true = refl
has_first false = refl

module _ (number block replica series : ℕ) where
  abbrev pub one_at : ℕ → Sample
  one_at place = sample number block series place

  -- the samples at so many places from one on
  samples_from : ℕ → ℕ → List Sample
  samples_from from count = flat_map (sample_part number block replica series) (range_with_len from count)

  all_from : (P : Sample → Type 0) → ((place : ℕ) → place < 480 → P (one_at place)) → (from count : ℕ) → from + count ≤ 480 → All P (samples_from from count)
  unfolding samples_from sample_part
  all_from P each from zero few = All-nil P
  all_from P each from (suc count) few =
      all_with P (has_sample replica from) (one_at from) (samples_from (from + 1) count) (each from (omega (arith, few))) (all_from P each (from + 1) count (omega (arith, few)))

  after_from : (last from count : ℕ) → last < from → AreAfter (one_at last) (samples_from from count)
  unfolding samples_from sample_part
  after_from last from zero below = tt
  after_from last from (suc count) below =
      after_with (has_sample replica from) (one_at last) (one_at from) (samples_from (from + 1) count) (later (block_start block) last from below) (after_from last (from + 1) count (omega (arith, below)))

  ascend_from : (from count : ℕ) → IsStrictlySortedBy int_cmp (times_of (samples_from from count))
  unfolding samples_from sample_part IsStrictlySortedBy
  ascend_from from zero = tt
  ascend_from from (suc count) =
      ascend_with (has_sample replica from) (one_at from) (samples_from (from + 1) count) (after_from from (from + 1) count (omega arith)) (ascend_from (from + 1) count)

  kept_from : (from count : ℕ) → length (samples_from from count) ≡ kept (replica == 0) from count
  unfolding samples_from sample_part kept
  kept_from from zero = refl
  kept_from from (suc count) =
      kept_with (has_sample replica from) (one_at from) (samples_from (from + 1) count) (kept (replica == 0) (from + 1) count) (kept_from (from + 1) count)

  abbrev pub all_samples : List Sample
  all_samples = day_samples number block replica series

  pub they_ascend : IsStrictlySortedBy int_cmp (times_of all_samples)
  unfolding day_samples samples_from
  they_ascend = ascend_from 0 480

  count_is : length all_samples ≡ kept (replica == 0) 0 480
  unfolding day_samples samples_from
  count_is = kept_from 0 480

  they_are_few : length all_samples ≤ 412
  they_are_few =
      let few = all_kept (replica == 0) in let same = count_is in grind (arith, nat_tests)

  pub they_are_some : all_samples ≢ []
  unfolding day_samples samples_from sample_part
  they_are_some = some_with (has_sample replica 0) (one_at 0) (samples_from 1 479) (has_first (replica == 0))

  module _ (early : block < 12) where
    field_at : (place : ℕ) → place < 480 → HasField (one_at place)
    field_at place below =
        let time : ℕ = block_start block + 15_000 * place in
        let near : is_time (pos time) ≡ true = grind (arith, nat_tests) in
        record { near = near_spelled (pos time) near; pattern = omega arith }

    pub have_fields : All HasField all_samples
    unfolding day_samples samples_from
    have_fields = all_from HasField field_at 0 480 (omega arith)

    within_at : (place : ℕ) → place < 480 → IsWithin (pos (block_start block)) (pos (block_start (block + 1))) (one_at place)
    within_at place below = (grind (arith, ints), grind (arith, ints))

    pub lie_within : All (IsWithin (pos (block_start block)) (pos (block_start (block + 1)))) all_samples
    unfolding day_samples samples_from
    lie_within =
        all_from (IsWithin (pos (block_start block)) (pos (block_start (block + 1)))) within_at 0 480 (omega arith)

    -- ---- how long their text is

    short_at : (place : ℕ) → place < 480 → IsShort (one_at place)
    short_at place below =
        sample_short (block_start block + 15_000 * place) (one_at place).pattern (omega (arith, early, below))

    they_are_short : All IsShort all_samples
    unfolding day_samples samples_from
    they_are_short = all_from IsShort short_at 0 480 (omega arith)

    pub their_text_is_short : length (samples_text number block replica series) ≤ 32 * 412
    unfolding samples_text
    their_text_is_short = omega (arith, they_are_few, all_short all_samples they_are_short)
