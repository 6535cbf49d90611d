-- What a series line spells is read of it.
use Rattle.std.proofs.Common.{◌≡◌, ◌≢◌, ℕ, ℤ, pos, Bool, true, false, not, cond, nat_lt, List, [], ◌∷◌, ◌++◌, length, drop, Option, Some, None, option_map, Ok, refl, sym, ap, ◌∙◌, arith}
use Rattle.std.specs.List.{list_all, slice_split, join_with_byte, position_or_len, before_first, after_first}
use Rattle.std.proofs.lemmas.Bool.Decides.{nat_tests}
use Rattle.std.proofs.lemmas.List.{length-append, drop_at, same_from_push}
use Rattle.std.proofs.lemmas.List.Splits.{slice_split_at, slice_split_none}
use Rattle.base.specs.Decimal.{signed_of}
use Rattle.label_sets.proofs.SampleTexts.{sample_of-only}
use Rattle.label_sets.proofs.SetLaws.{set_text_again}
use Rattle.label_sets.specs.Notation.{read_set}
use Rattle.label_sets.specs.SampleText.{sample_of, pattern_of}
use Rattle.label_sets.specs.declared.label.Label.{Label}
use Rattle.label_sets.specs.declared.sample.Sample.{Sample}
use Rattle.label_sets.specs.declared.series.Series.{Series}
use Rattle.script_core.specs.declared.block.Block.{Block}
use Rattle.script_core.specs.declared.body.Body.{Body}
use Rattle.script_core.specs.declared.body.Body.TheVariants.{Inline, OnShelf}
use Rattle.script_fields.specs.declared.line_kind.LineKind.TheVariants as kinds
use Rattle.script_fields.specs.Fields.{is_empty, is_space, after_space}
use Rattle.script_fields.specs.Values.{is_time}
use Rattle.script_fields.specs.Samples.{is_colon, texts_of, are_whole, is_small_number, has_small_number, have_small_numbers, samples_from, are_within}
use Rattle.script_core.specs.Lines.{fields_line, first_labels, series_line, times_ascend}
use Rattle.script_core.specs.State.{State, Last, block_of, with_last, add_series, test_block, with_series, has_series, insert_series, script_of_state}
use Rattle.script_core.specs.Spelling.{SoFar, inside, spaced, IsSampleField, AreSampleFields, SeriesLine}
use Rattle.std.proofs.lemmas.Bool.{and_parts}
use Rattle.script_fields.proofs.FieldLaws.{no_space, spaceless}
use Rattle.script_core.proofs.ValueLaws.{time_fits}
use Rattle.script_core.proofs.Kept.{Kept, so_far_of}
use Rattle.script_core.proofs.LineTools.{is_some_field}
use Rattle.script_core.proofs.FoundSeries.{sample_time, added, last_there}
use Rattle.script_core.proofs.AgainSetup.{IsRead, starts_again}
use Rattle.script_core.proofs.SpelledValues.{near_tested, ascend_tested, within_tested}
use Rattle.script_core.proofs.SpelledSeries.{place_fresh, place_inserted}
use Rattle.base.proofs.Lists.{pushed_not_nil}

-- ---- texts that are joined and cut again

pub cut_joined : (texts : List (List ℕ)) → texts ≢ [] → list_all no_space texts ≡ true → slice_split is_space (join_with_byte 32 texts) ≡ texts
cut_joined [] some free = absurd (some refl)
cut_joined (text ∷ []) some free =
    let parts = and_parts (no_space text) true free in slice_split_none is_space text (λ k d below. spaceless text parts.0 k d below)
cut_joined (text ∷ next ∷ texts) some free =
    let parts = and_parts (no_space text) (list_all no_space (next ∷ texts)) free in
    slice_split_at is_space text 32 (join_with_byte 32 (next ∷ texts)) (λ k d below. spaceless text parts.0 k d below) refl
    ∙ ap (λ rest. text ∷ rest) (cut_joined (next ∷ texts) (λ none. cc) parts.1)

-- ---- the samples

pub each_free : (texts : List (List ℕ)) (samples : List Sample) → AreSampleFields texts samples → list_all no_space texts ≡ true
each_free [] [] are = refl
each_free [] (sample ∷ samples) are = absurd are
each_free (text ∷ texts) [] are = absurd are
each_free (text ∷ texts) (sample ∷ samples) are = rw are.0.field.no_space (each_free texts samples are.1)

pub each_whole : (texts : List (List ℕ)) (samples : List Sample) → AreSampleFields texts samples → list_all (λ text. not (is_empty text)) texts ≡ true
each_whole [] [] are = refl
each_whole [] (sample ∷ samples) are = absurd are
each_whole (text ∷ texts) [] are = absurd are
each_whole (text ∷ texts) (sample ∷ samples) are =
    let some = is_some_field text are.0.field in rw some (each_whole texts samples are.1)

sample_again : (text : List ℕ) (sample : Sample) → IsSampleField text sample → sample_of text ≡ Ok sample
sample_again text sample is = sample_of-only text sample (time_fits sample.time (near_tested sample.time is.near)) is.pattern is.written

small_by : (text : List ℕ) (sample : Sample) (b : Bool) → is_time sample.time ≡ true → sample_of text ≡ Ok sample → cond b (is_small_number (signed_of (before_first is_colon text))) true ≡ true
unfolding sample_of
small_by text sample true near read =
    ap is_small_number (sample_time (pattern_of (after_first is_colon text)) (signed_of (before_first is_colon text)) sample read) ∙ near
small_by text sample false near read = refl

small_again : (text : List ℕ) (sample : Sample) → IsSampleField text sample → has_small_number text ≡ true
unfolding has_small_number
small_again text sample is =
    small_by text sample (nat_lt (position_or_len is_colon text) (length text)) (near_tested sample.time is.near) (sample_again text sample is)

pub each_small : (texts : List (List ℕ)) (samples : List Sample) → AreSampleFields texts samples → list_all has_small_number texts ≡ true
each_small [] [] are = refl
each_small [] (sample ∷ samples) are = absurd are
each_small (text ∷ texts) [] are = absurd are
each_small (text ∷ texts) (sample ∷ samples) are =
    let small = small_again text sample are.0 in rw small (each_small texts samples are.1)

pub samples_again : (texts : List (List ℕ)) (samples : List Sample) → AreSampleFields texts samples → samples_from texts ≡ Ok samples
unfolding samples_from
samples_again [] [] are = refl
samples_again [] (sample ∷ samples) are = absurd are
samples_again (text ∷ texts) [] are = absurd are
samples_again (text ∷ texts) (sample ∷ samples) are =
    let one = sample_again text sample are.0 in let others = samples_again texts samples are.1 in rw (one, others) refl

-- ---- the label set

space_again : (front texts : List ℕ) → after_space (drop (length front) (front ++ 32 ∷ texts)) ≡ Ok texts
unfolding after_space
space_again front texts = ap after_space (drop_at front (32 ∷ texts) (length front) refl)

pub first_labels_again : (front texts : List ℕ) (labels : List Label) → read_set (front ++ 32 ∷ texts) ≡ Ok (labels, length front) → first_labels (Some (front ++ 32 ∷ texts)) ≡ Ok (labels, texts)
unfolding first_labels
first_labels_again front texts labels read =
    let size = length-append front (32 ∷ texts) in
    let some : is_empty (front ++ 32 ∷ texts) ≡ false = grind (arith, nat_tests) in
    let space = space_again front texts in
    rw (some, read, space) refl

-- ---- the last block

pub record LastIs (st : State) (others : List Block) (ulid : ℕ) (labels : List Label) (min_time max_time : ℤ) (series : List Series) : Type 0 where
  pub block : Last
  pub is : st.last ≡ Some block
  pub others_is : st.blocks ≡ others
  pub ulid_is : block.ulid ≡ ulid
  pub labels_is : block.labels ≡ labels
  pub min_is : block.min_time ≡ min_time
  pub max_is : block.max_time ≡ max_time
  pub series_is : block.series ≡ series

min_of : Body → ℤ
min_of (Inline min_time max_time series) = min_time
min_of OnShelf = pos 0

max_of : Body → ℤ
max_of (Inline min_time max_time series) = max_time
max_of OnShelf = pos 0

series_of_body : Body → List Series
series_of_body (Inline min_time max_time series) = series
series_of_body OnShelf = []

last_by : (st : State) (last : Option Last) (others : List Block) (ulid : ℕ) (labels : List Label) (min_time max_time : ℤ) (series : List Series) → Kept st → st.last ≡ last → with_last st.blocks last ≡ others ++ record { ulid = ulid; labels = labels; body = Inline min_time max_time series } ∷ [] → LastIs st others ulid labels min_time max_time series
unfolding min_of max_of series_of_body
last_by st None others ulid labels min_time max_time series kept is all =
    absurd (pushed_not_nil others (record { ulid = ulid; labels = labels; body = Inline min_time max_time series }) (sym (sym (kept.blocks.no_last is) ∙ all)))
last_by st (Some block) others ulid labels min_time max_time series kept is all =
    let p = same_from_push st.blocks others (block_of block) (record { ulid = ulid; labels = labels; body = Inline min_time max_time series }) all in
    record {
      block = block;
      is = is;
      others_is = p.0;
      ulid_is = ap (λ (b : Block). b.ulid) p.1;
      labels_is = ap (λ (b : Block). b.labels) p.1;
      min_is = ap (λ (b : Block). min_of b.body) p.1;
      max_is = ap (λ (b : Block). max_of b.body) p.1;
      series_is = ap (λ (b : Block). series_of_body b.body) p.1;
    }

test_again : (block : Last) (continues : Bool) (labels : List Label) (samples : List Sample) → are_within block.min_time block.max_time samples ≡ true → has_series block.series labels ≡ false → continues ≡ true → test_block continues (Some block) labels samples ≡ Ok tt
test_again block continues labels samples within new follows = rw (within, new, follows) refl

add_again : (st : State) (series : Series) (block : Last) → st.last ≡ Some block → test_block st.continues (Some block) series.labels series.samples ≡ Ok tt → add_series st series ≡ Ok (record st { last = option_map (with_series series) st.last })
unfolding add_series
add_again st series block is test =
    let tested : test_block st.continues st.last series.labels series.samples ≡ Ok tt = ap (λ l. test_block st.continues l series.labels series.samples) is ∙ test in
    rw tested refl

pub read_series : (st : State) (left : List ℕ) (labels : List Label) (texts : List ℕ) (samples : List Sample) (after : State) → first_labels (Some left) ≡ Ok (labels, texts) → are_whole texts ≡ true → have_small_numbers texts ≡ true → samples_from (texts_of texts) ≡ Ok samples → times_ascend samples ≡ true → add_series st (record { labels = labels; samples = samples }) ≡ Ok after → series_line st (Some left) ≡ Ok after
unfolding series_line
read_series st left labels texts samples after front whole small read rising adds = rw (front, whole, small, read, rising) adds

pub series_line_again : (st : State) (number : ℕ) (line : List ℕ) (next : SoFar) → Kept st → SeriesLine (so_far_of st) line next → IsRead st number line kinds.Series next
unfolding fields_line
series_line_again st number line next kept says =
    let series : Series = record { labels = says.labels; samples = says.samples } in
    let texts = spaced says.texts in
    let none = kept.follows says.in_block in
    let last = last_by st st.last says.others says.ulid says.block_labels says.min_time says.max_time (says.lesser ++ says.greater) kept refl (sym (last_there st st.last none) ∙ says.last) in
    let cut : texts_of texts ≡ says.texts = cut_joined says.texts says.some (each_free says.texts says.samples says.are_samples) in
    let whole : are_whole texts ≡ true = ap (list_all (λ text. not (is_empty text))) cut ∙ each_whole says.texts says.samples says.are_samples in
    let small : have_small_numbers texts ≡ true = ap (list_all has_small_number) cut ∙ each_small says.texts says.samples says.are_samples in
    let read : samples_from (texts_of texts) ≡ Ok says.samples = ap samples_from cut ∙ samples_again says.texts says.samples says.are_samples in
    let within : are_within last.block.min_time last.block.max_time says.samples ≡ true = (λ i. are_within (last.min_is i) (last.max_is i) says.samples) ∙ within_tested says.min_time says.max_time says.samples says.within in
    let new : has_series last.block.series says.labels ≡ false = ap (λ s. has_series s says.labels) last.series_is ∙ place_fresh says.lesser says.greater series says.ascend in
    let after : State = record st { last = option_map (with_series series) st.last } in
    let test = test_again last.block st.continues says.labels says.samples within new says.in_block in
    record {
      left = Some (says.labels_text ++ 32 ∷ texts);
      after = after;
      cut = starts_again line kinds.Series (says.labels_text ++ 32 ∷ texts) says.spelled;
      read = read_series st (says.labels_text ++ 32 ∷ texts) says.labels texts says.samples after (first_labels_again says.labels_text texts says.labels (set_text_again says.labels_text (32 ∷ texts) says.labels says.are_labels)) whole small read (ascend_tested says.samples says.rising) (add_again st series last.block last.is test);
      next_is = added st series last.block none last.is says.in_block ∙ (λ i. inside (record (script_of_state st) { blocks = last.others_is i ++ record { ulid = last.ulid_is i; labels = last.labels_is i; body = Inline (last.min_is i) (last.max_is i) (insert_series (last.series_is i) series) } ∷ [] }))
          ∙ ap (λ s. inside (record (script_of_state st) { blocks = says.others ++ record { ulid = says.ulid; labels = says.block_labels; body = Inline says.min_time says.max_time s } ∷ [] })) (place_inserted says.lesser says.greater series says.ascend)
          ∙ sym says.adds;
    }
