-- The series lines of a block of the generated day.
use Rattle.std.proofs.Common.{◌≡◌, ◌≢◌, ℕ, zero, suc, ◌+◌, ◌*◌, ◌<◌, ◌≤◌, pos, Bool, true, false, ◌&&◌, List, [], ◌∷◌, ◌++◌, length, map, All, refl, sym, ap, subst, arith, codes, append-nil}
use Rattle.std.specs.List.{list_all, flat_map, range_with_len}
use Rattle.std.specs.List.Sorted.{IsStrictlySortedBy}
use Rattle.std.specs.Ordering.{is_lt}
use Rattle.std.specs.Str.{bytes_eq}
use Rattle.std.specs.declared.cmp.Ordering.TheVariants.{Less}
use Rattle.std.proofs.lemmas.List.{length-append}
use Rattle.std.proofs.lemmas.List.Elements.{All-cons, All-nil}
use Rattle.std.proofs.lemmas.List.FromFn.{map-range_with_len_more}
use Rattle.std.proofs.lemmas.List.Sorted.{IsPermutation-refl}
use Rattle.base.specs.Lines.{line_feed}
use Rattle.base.proofs.Bools.{same_texts, Less-from_is_lt, and_first, and_second}
use Rattle.label_sets.specs.Labels.{compare_sets}
use Rattle.label_sets.specs.Notation.{is_name, quoted, quoted_byte, pair_text, comma_pair_text, pairs_text, set_text}
use Rattle.label_sets.specs.SampleText.{sample_text, spaced_sample_text}
use Rattle.label_sets.specs.SetText.{IsSetText}
use Rattle.label_sets.specs.declared.label.Label.{Label}
use Rattle.label_sets.specs.declared.sample.Sample.{Sample}
use Rattle.label_sets.specs.declared.series.Series.{Series}
use Rattle.script_fields.specs.Fields.{is_silent}
use Rattle.script_core.specs.Parts.{AreSeriesParts, HasField, series_front}
use Rattle.script_core.specs.Spelling.{SoFar, inside, SeriesLine}
use Rattle.script_core.specs.Spelling as spelling
use Rattle.script_core.specs.declared.block.Block.{Block}
use Rattle.script_core.specs.declared.body.Body.TheVariants.{Inline}
use Rattle.script_core.specs.declared.script.Script.{Script}
use Rattle.script_core.proofs.LawfulParts.{above_all}
use Rattle.script_core.proofs.SampleSigns.{all_joined, is_sign, sample_fields, samples_all, sign_is_ascii, sign_not_newline}
use Rattle.script_core.proofs.SeriesParts.{front_joined}
use Rattle.generated_day.specs.Day.{block_start, labels_text, two_digits, series_line, all_series_text, samples_text}
use Rattle.generated_day.proofs.DaySamples.{all_samples, have_fields, lie_within, their_text_is_short, they_are_some, they_ascend}
use Rattle.generated_day.proofs.Tells.{Tells, in_range, is_print, print_line, print_utf8, speaks, tells_both, tells_line, tells_nothing}

-- ---- the labels

abbrev pub labels_at : ℕ → List Label
labels_at series =
    record { name = codes "__name__"; value = codes "m" } ∷ record { name = codes "inst"; value = 105 ∷ two_digits series } ∷ []

-- the text of the labels of each of the series, and that they ascend
is_written : ℕ → Bool
is_written series = bytes_eq (labels_text series) (set_text (labels_at series)) && list_all is_print (labels_text series)

all_written : list_all is_written (range_with_len 0 100) ≡ true
unfolding is_written labels_text two_digits set_text pairs_text pair_text comma_pair_text quoted quoted_byte
all_written = refl

abbrev pub ascends : ℕ → Bool
ascends series = is_lt (compare_sets (labels_at series) (labels_at (series + 1)))

all_ascend : list_all ascends (range_with_len 0 99) ≡ true
unfolding two_digits
all_ascend = refl

one_written : (series : ℕ) → series < 100 → is_written series ≡ true
one_written series few = in_range is_written 0 100 series all_written (omega arith) (omega (arith, few))

abbrev IsNamed : Label → Type 0
IsNamed label = is_name label.name ≡ true

pub two_named : (first second : Label) → is_name first.name ≡ true → is_name second.name ≡ true → All IsNamed (first ∷ second ∷ [])
two_named first second one two =
    All-cons IsNamed first (second ∷ []) one (All-cons IsNamed second [] two (All-nil IsNamed))

pub set_text_at : (series : ℕ) → series < 100 → IsSetText (labels_text series) (labels_at series)
unfolding is_written is_name
set_text_at series few = record {
  listed = labels_at series;
  written = same_texts (labels_text series) (set_text (labels_at series)) (and_first (bytes_eq (labels_text series) (set_text (labels_at series))) (list_all is_print (labels_text series)) (one_written series few));
  named = two_named (record { name = codes "__name__"; value = codes "m" }) (record { name = codes "inst"; value = 105 ∷ two_digits series }) refl refl;
  arranged = IsPermutation-refl (labels_at series);
  lawful = (λ e. cc, λ e. cc, (refl, tt), (λ e. cc, λ e. cc, tt, tt));
}

labels_print : (series : ℕ) → series < 100 → list_all is_print (labels_text series) ≡ true
unfolding is_written
labels_print series few =
    and_second (bytes_eq (labels_text series) (set_text (labels_at series))) (list_all is_print (labels_text series)) (one_written series few)

-- ---- series in order

sorted_from : (from count : ℕ) → from + count ≤ 100 → IsStrictlySortedBy compare_sets (map labels_at (range_with_len from count))
unfolding IsStrictlySortedBy
sorted_from from zero few = tt
sorted_from from (suc zero) few = (tt, tt)
sorted_from from (suc (suc count)) few =
    let rest = sorted_from (from + 1) (suc count) (omega (arith, few)) in
    let below : compare_sets (labels_at from) (labels_at (from + 1)) ≡ Less = Less-from_is_lt (compare_sets (labels_at from) (labels_at (from + 1))) (in_range ascends 0 99 from all_ascend (omega arith) (omega (arith, few))) in
    ((below, above_all (map labels_at (range_with_len (from + 1 + 1) count)) (labels_at from) (labels_at (from + 1)) below rest.0), rest)

-- ---- a line

-- the texts of samples with a space between each and the next
some_texts : (samples : List Sample) → samples ≢ [] → map sample_text samples ≢ []
some_texts [] some none = some refl
some_texts (sample ∷ samples) some none = absurd cc

sign_prints : (byte : ℕ) → is_sign byte ≡ true → is_print byte ≡ true
sign_prints byte is =
    let line = sign_not_newline byte is in let small = sign_is_ascii byte is in rw (line, small) refl

front_prints : (text : List ℕ) (samples : List Sample) → All HasField samples → list_all is_print text ≡ true → list_all is_print (series_front text samples) ≡ true
unfolding series_front
front_prints text samples all print =
    all_joined is_print (codes "series " ++ text) (flat_map spaced_sample_text samples) (all_joined is_print (codes "series ") text refl print) (samples_all is_print refl sign_prints samples all)

module _ (number block replica : ℕ) (early : block < 12) where
  abbrev pub series_at : ℕ → Series
  series_at series = record { labels = labels_at series; samples = all_samples number block replica series }

  abbrev pub first_series : ℕ → List Series
  first_series count = map series_at (range_with_len 0 count)

  -- the parts of a series line
  pub series_parts : (series : ℕ) → series < 100 → AreSeriesParts (labels_text series) (labels_at series) (all_samples number block replica series)
  series_parts series few = record {
    is_set = set_text_at series few;
    utf8 = print_utf8 (labels_text series) (labels_print series few);
    one_line = print_line (labels_text series) (labels_print series few);
    some = they_are_some number block replica series;
    fields = have_fields number block replica series early;
    ascend = they_ascend number block replica series;
  }

  their_labels : (from count : ℕ) → map (λ (one : Series). one.labels) (map series_at (range_with_len from count)) ≡ map labels_at (range_with_len from count)
  their_labels from zero = refl
  their_labels from (suc count) = ap (λ l. labels_at from ∷ l) (their_labels (from + 1) count)

  module _ (script : Script) (others : List Block) (ulid : ℕ) (labels : List Label) where
    abbrev pub block_with : List Series → Block
    block_with series =
        record { ulid = ulid; labels = labels; body = Inline (pos (block_start block)) (pos (block_start (block + 1))) series }

    -- the block has its first series
    abbrev pub with_first : ℕ → SoFar
    with_first count = inside (record script { blocks = others ++ block_with (first_series count) ∷ [] })

    one_line : (series : ℕ) → series < 100 → SeriesLine (with_first series) (series_front (labels_text series) (all_samples number block replica series)) (with_first (series + 1))
    one_line series few =
        let samples = all_samples number block replica series in
        let more : first_series (series + 1) ≡ first_series series ++ series_at series ∷ [] = map-range_with_len_more series_at 0 series series (omega arith) in
        record {
          labels_text = labels_text series;
          texts = map sample_text samples;
          labels = labels_at series;
          samples = samples;
          spelled = front_joined (labels_text series) samples (they_are_some number block replica series);
          are_labels = set_text_at series few;
          some = some_texts samples (they_are_some number block replica series);
          are_samples = sample_fields samples (have_fields number block replica series early);
          rising = they_ascend number block replica series;
          in_block = refl;
          others = others;
          ulid = ulid;
          block_labels = labels;
          min_time = pos (block_start block);
          max_time = pos (block_start (block + 1));
          lesser = first_series series;
          greater = [];
          last = ap (λ l. others ++ block_with l ∷ []) (sym (append-nil (first_series series)));
          within = lie_within number block replica series early;
          ascend = subst (λ l. IsStrictlySortedBy compare_sets (map (λ (one : Series). one.labels) l)) more (subst (IsStrictlySortedBy compare_sets) (sym (their_labels 0 (series + 1))) (sorted_from 0 (series + 1) (omega (arith, few))));
          adds = ap (λ l. inside (record script { blocks = others ++ block_with l ∷ [] })) more;
        }

    one_tells : (line series : ℕ) → series < 100 → Tells (with_first series) line (series_line number block replica series) (with_first (series + 1)) (line + 1)
    unfolding series_line samples_text series_front
    one_tells line series few =
        let samples = all_samples number block replica series in
        let front = series_front (labels_text series) samples in
        let silent : is_silent front ≡ false = speaks 115 (codes "eries " ++ labels_text series ++ flat_map spaced_sample_text samples) refl in
        tells_line (with_first series) (with_first (series + 1)) line front silent (front_prints (labels_text series) samples (have_fields number block replica series early) (labels_print series few)) (spelling.series (one_line series few))

    more_tell : (line from count : ℕ) → from + count ≡ 100 → Tells (with_first from) line (flat_map (series_line number block replica) (range_with_len from count)) (with_first 100) (line + count)
    more_tell line from zero all =
        let last : from ≡ 100 = omega (arith, all) in
        let same : line ≡ line + 0 = omega arith in
        subst (λ n. Tells (with_first from) line [] (with_first n) (line + 0)) last (subst (Tells (with_first from) line [] (with_first from)) same (tells_nothing (with_first from) line))
    more_tell line from (suc count) all =
        let sum : line + 1 + count ≡ line + suc count = omega arith in
        subst (Tells (with_first from) line (flat_map (series_line number block replica) (range_with_len from (suc count))) (with_first 100)) sum (tells_both (with_first from) (with_first (from + 1)) (with_first 100) line (line + 1) (line + 1 + count) (series_line number block replica from) (flat_map (series_line number block replica) (range_with_len (from + 1) count)) (one_tells line from (omega (arith, all))) (more_tell (line + 1) (from + 1) count (omega (arith, all))))

    -- all series lines of the block
    pub all_tell : (line : ℕ) → Tells (with_first 0) line (all_series_text number block replica) (with_first 100) (line + 100)
    unfolding all_series_text
    all_tell line = more_tell line 0 100 refl

  -- ---- how long they are

  one_short : (series : ℕ) → series < 100 → length (series_line number block replica series) ≤ 13_300
  unfolding series_line labels_text two_digits
  one_short series few =
      omega (
        arith,
        their_text_is_short number block replica series early,
        length-append (codes "series " ++ labels_text series ++ samples_text number block replica series) (line_feed ∷ []),
        length-append (codes "series " ++ labels_text series) (samples_text number block replica series),
      )

  more_short : (from count : ℕ) → from + count ≤ 100 → length (flat_map (series_line number block replica) (range_with_len from count)) ≤ 13_300 * count
  more_short from zero few = omega arith
  more_short from (suc count) few =
      omega (
        arith,
        length-append (series_line number block replica from) (flat_map (series_line number block replica) (range_with_len (from + 1) count)),
        one_short from (omega (arith, few)),
        more_short (from + 1) count (omega (arith, few)),
      )

  pub all_short : length (all_series_text number block replica) ≤ 1_330_000
  unfolding all_series_text
  all_short = more_short 0 100 (omega arith)
