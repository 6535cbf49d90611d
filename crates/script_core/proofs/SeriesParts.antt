-- A series line that comes as its labels and its samples is read as its text is.
use Rattle.std.proofs.Common.{◌≡◌, ◌≢◌, ℕ, ◌+◌, ◌-◌, ◌*◌, ◌≤◌, ◌^◌, Bool, true, false, not, cond, nat_lt, nat_le, get_or, ◌==◌, List, [], ◌∷◌, ◌++◌, length, map, All, Option, Some, None, Result, Ok, Err, IfErr, OnOk, ◌⊎◌, inl, inr, ok_or, refl, sym, ap, ◌∙◌, subst, arith, codes, append-nil, append_assoc}
use Rattle.std.specs.List.{list_all, flat_map, join_with_byte}
use Rattle.std.specs.Str.{is_utf8, IsUtf8}
use Rattle.std.proofs.lemmas.Bool.{and_parts}
use Rattle.std.proofs.lemmas.Bool.Decides.{nat_tests}
use Rattle.std.proofs.lemmas.List.{length-append}
use Rattle.std.proofs.lemmas.List.Elements.{All-head, All-tail}
use Rattle.std.proofs.lemmas.List.Sums.{AllPass-from_list_all}
use Rattle.std.proofs.lemmas.Option.{same_Some}
use Rattle.std.proofs.lemmas.Str.Ascii.{IsAscii-from_all}
use Rattle.std.proofs.lemmas.Str.{IsUtf8-append, IsUtf8-from_ascii, IsUtf8-from_is_utf8, is_utf8-from_IsUtf8}
use Rattle.label_sets.specs.SampleText.{sample_text, spaced_sample_text}
use Rattle.label_sets.specs.SetText.{IsSetText}
use Rattle.label_sets.specs.declared.label.Label.{Label}
use Rattle.label_sets.specs.declared.sample.Sample.{Sample}
use Rattle.label_sets.proofs.SetLaws.{set_text_again}
use Rattle.script_fields.specs.declared.line_kind.LineKind.TheVariants as kinds
use Rattle.script_fields.specs.Fields.{is_empty, is_newline, is_silent, next_field}
use Rattle.base.specs.Reading.{Gives}
use Rattle.base.proofs.Binds.{ok_not_err, one_answer, unless_is, unless_ok}
use Rattle.script_fields.specs.declared.cause.LineCause.{LineCause}
use Rattle.script_fields.specs.declared.cause.LineCause.TheVariants as causes
use Rattle.script_fields.specs.declared.line_refusal.LineRefusal.{LineRefusal}
use Rattle.script_fields.specs.declared.line_refusal.LineRefusal.TheVariants as lines
use Rattle.script_core.specs.Lines.{fields_line, first_labels, last_labels, series_line, times_ascend}
use Rattle.script_core.specs.Parts.{HasField, IsOneLine, has_field, test_samples, series_front}
use Rattle.script_fields.specs.LineRefusals.{of_line}
use Rattle.script_core.specs.Reading.{kind_line, line_at, spoken_line, text_line}
use Rattle.script_fields.specs.Samples.{texts_of, are_whole, has_small_number, have_small_numbers, samples_from}
use Rattle.script_core.specs.Spelling.{AreSampleFields}
use Rattle.script_core.specs.State.{State, add_series}
use Rattle.script_fields.specs.Values.{is_time}
use Rattle.script_core.proofs.FoundSetup.{labels_found}
use Rattle.script_core.proofs.Kept.{so_far_of}
use Rattle.script_core.proofs.SpelledValues.{near_spelled, near_tested}
use Rattle.script_core.proofs.AgainSetup.{IsRead, labels_again, starts_again}
use Rattle.script_core.proofs.AgainSeries.{cut_joined, each_free, each_whole, each_small, samples_again, first_labels_again, read_series}
use Rattle.script_core.proofs.AgainLines.{text_read, spoken_again}
use Rattle.script_core.proofs.SampleSigns.{all_joined, sign_not_newline, sign_is_ascii, sample_fields, samples_all, samples_least, samples_size}

-- the texts of samples with a space between each and the next
abbrev pub joined : List Sample → List ℕ
joined samples = join_with_byte 32 (map sample_text samples)

pub samples_joined : (sample : Sample) (samples : List Sample) → flat_map spaced_sample_text (sample ∷ samples) ≡ 32 ∷ joined (sample ∷ samples)
unfolding spaced_sample_text
samples_joined sample [] = ap (λ text. 32 ∷ text) (append-nil (sample_text sample))
samples_joined sample (next ∷ samples) =
    ap (λ text. 32 ∷ (sample_text sample ++ text)) (samples_joined next samples)

no_texts : (samples : List Sample) → map sample_text samples ≡ [] → samples ≡ []
no_texts [] none = refl
no_texts (sample ∷ samples) none = absurd cc

pub front_joined : (text : List ℕ) (samples : List Sample) → samples ≢ [] → series_front text samples ≡ codes "series" ++ 32 ∷ (text ++ 32 ∷ joined samples)
unfolding series_front
front_joined text [] some = absurd (some refl)
front_joined text (sample ∷ samples) some =
    append_assoc (codes "series ") text (flat_map spaced_sample_text (sample ∷ samples))
    ∙ ap (λ t. codes "series " ++ (text ++ t)) (samples_joined sample samples)

speaks : (rest : List ℕ) → is_silent (115 ∷ rest) ≡ false
speaks rest =
    let some : (length (115 ∷ rest) == 0) ≡ false = grind (arith, nat_tests) in rw some refl

ascii_utf8 : (text : List ℕ) → list_all (λ byte. nat_lt byte 128) text ≡ true → IsUtf8 text
ascii_utf8 text all =
    IsUtf8-from_ascii text (IsAscii-from_all text (λ k d below.
    let test = AllPass-from_list_all (λ byte. nat_lt byte 128) text all k d below in
    grind (arith, nat_tests)))

-- a series line that is refused
spoken_refused : (st : State) (number : ℕ) (line left : List ℕ) (refusal : LineRefusal) → is_silent line ≡ false → is_utf8 line ≡ true → next_field (Some line) ≡ (codes "series", Some left) → series_line st (Some left) ≡ Err refusal → line_at st number line ≡ Err (of_line number refusal)
unfolding line_at spoken_line text_line kind_line fields_line
spoken_refused st number line left refusal silent utf8 cut refuses =
    rw (silent, utf8, cut, refuses) refl

module _ (text : List ℕ) (labels : List Label) (samples : List Sample) (are_labels : IsSetText text labels) (utf8 : is_utf8 text ≡ true) (some : samples ≢ []) (all : All HasField samples) where
  fields : AreSampleFields (map sample_text samples) samples
  fields = sample_fields samples all

  some_fields : map sample_text samples ≢ []
  some_fields = λ none. some (no_texts samples none)

  cut : texts_of (joined samples) ≡ map sample_text samples
  cut = cut_joined (map sample_text samples) some_fields (each_free (map sample_text samples) samples fields)

  front_utf8 : is_utf8 (series_front text samples) ≡ true
  unfolding series_front
  front_utf8 =
      let named = IsUtf8-append (codes "series ") text (ascii_utf8 (codes "series ") refl) (IsUtf8-from_is_utf8 text utf8) in
      let told = ascii_utf8 (flat_map spaced_sample_text samples) (samples_all (λ byte. nat_lt byte 128) refl sign_is_ascii samples all) in
      is_utf8-from_IsUtf8 _ (IsUtf8-append (codes "series " ++ text) (flat_map spaced_sample_text samples) named told)

  whole : are_whole (joined samples) ≡ true
  whole =
      ap (list_all (λ t. not (is_empty t))) cut ∙ each_whole (map sample_text samples) samples fields

  small : have_small_numbers (joined samples) ≡ true
  small =
      ap (list_all has_small_number) cut ∙ each_small (map sample_text samples) samples fields

  read : samples_from (texts_of (joined samples)) ≡ Ok samples
  read = ap samples_from cut ∙ samples_again (map sample_text samples) samples fields

  front : first_labels (Some (text ++ 32 ∷ joined samples)) ≡ Ok (labels, joined samples)
  front =
      first_labels_again text (joined samples) labels (set_text_again text (32 ∷ joined samples) labels are_labels)

  spelled : series_front text samples ≡ codes "series" ++ 32 ∷ (text ++ 32 ∷ joined samples)
  spelled = front_joined text samples some

  silent : is_silent (series_front text samples) ≡ false
  silent = ap is_silent spelled ∙ speaks (codes "eries" ++ 32 ∷ (text ++ 32 ∷ joined samples))

  pub series_read : (st after : State) (number : ℕ) → times_ascend samples ≡ true → add_series st (record { labels = labels; samples = samples }) ≡ Ok after → line_at st number (series_front text samples) ≡ Ok after
  unfolding fields_line
  series_read st after number rising adds =
      let line = series_front text samples in
      let left : List ℕ = text ++ 32 ∷ joined samples in
      let is : IsRead st number line kinds.Series (so_far_of after) = record {
        left = Some left;
        after = after;
        cut = starts_again line kinds.Series left spelled;
        read = read_series st left labels (joined samples) samples after front whole small read rising adds;
        next_is = refl;
      } in
      spoken_again st after number line silent front_utf8 (text_read st st number line kinds.Series (so_far_of after) refl is)

  refused_line : (st : State) (refusal : LineRefusal) → times_ascend samples ≡ true → add_series st (record { labels = labels; samples = samples }) ≡ Err refusal → series_line st (Some (text ++ 32 ∷ joined samples)) ≡ Err refusal
  unfolding series_line
  refused_line st refusal rising refuses = rw (front, whole, small, read, rising) refuses

  -- a line that does not fit those before it
  pub series_refused : (st : State) (number : ℕ) (refusal : LineRefusal) → times_ascend samples ≡ true → add_series st (record { labels = labels; samples = samples }) ≡ Err refusal → line_at st number (series_front text samples) ≡ Err (of_line number refusal)
  series_refused st number refusal rising refuses =
      spoken_refused st number (series_front text samples) (text ++ 32 ∷ joined samples) refusal silent front_utf8 (starts_again (series_front text samples) kinds.Series (text ++ 32 ∷ joined samples) spelled) (refused_line st refusal rising refuses)

pub series_one_line : (text : List ℕ) (samples : List Sample) → All HasField samples → IsOneLine text → IsOneLine (series_front text samples)
unfolding series_front
series_one_line text samples all one =
    let free : ℕ → Bool = λ byte. not (is_newline byte) in
    all_joined free (codes "series " ++ text) (flat_map spaced_sample_text samples) (all_joined free (codes "series ") text refl one) (samples_all free refl sign_not_newline samples all)

pub series_size : (text : List ℕ) (samples : List Sample) → All HasField samples → length (series_front text samples) ≤ 7 + length text + 38 * length samples
unfolding series_front
series_size text samples all =
    omega (
      arith,
      samples_size samples all,
      length-append (codes "series ") text,
      length-append (codes "series " ++ text) (flat_map spaced_sample_text samples),
    )

-- such a line has no fewer than half of the bytes that are counted
pub series_least : (text : List ℕ) (samples : List Sample) → 8 + length text + 38 * length samples ≤ 2 * (length (series_front text samples) + 1)
unfolding series_front
series_least text samples =
    omega (
      arith,
      samples_least samples,
      length-append (codes "series ") text,
      length-append (codes "series " ++ text) (flat_map spaced_sample_text samples),
    )

-- ---- what adding a series has read

pub on_ok : {P : Type 0} (result : Result (Unit {0}) LineRefusal) → P → OnOk result P
on_ok (Ok done) holds = holds
on_ok (Err refusal) holds = tt

module _ (text : List ℕ) (labels : List Label) (samples : List Sample) (are_labels : IsSetText text labels) (utf8 : is_utf8 text ≡ true) (some : samples ≢ []) (all : All HasField samples) where
  pub put_reads : (st after : State) (result : Result (Unit {0}) LineRefusal) → times_ascend samples ≡ true → Gives lines.NoMemory (λ _. after) result (add_series st (record { labels = labels; samples = samples })) → OnOk result ((number : ℕ) → line_at st number (series_front text samples) ≡ Ok after)
  put_reads st after (Ok done) rising adds = λ number. series_read text labels samples are_labels utf8 some all st after number rising adds
  put_reads st after (Err refusal) rising refused = tt

-- ---- the tests

pub all_fields : (samples : List Sample) → list_all has_field samples ≡ true → All HasField samples
all_fields samples have = λ k d below.
    let sample = get_or samples k d in
    let parts = and_parts (is_time sample.time) (nat_le sample.pattern (2 ^ 64 - 1)) (AllPass-from_list_all has_field samples have k d below) in
    let small = parts.1 in
    record { near = near_spelled sample.time parts.0; pattern = grind (arith, nat_tests) }

some_not_none : (samples : List Sample) → not (length samples == 0) ≡ true → samples ≡ [] → ⊥
some_not_none [] some none = absurd cc
some_not_none (sample ∷ samples) some none = absurd cc

-- samples that pass the tests
pub samples_tested : (samples : List Sample) → test_samples samples ≡ Ok tt → (samples ≢ []) × All HasField samples × (times_ascend samples ≡ true)
samples_tested samples tested =
    let some = unless_ok (not (length samples == 0)) (lines.Bad causes.BadShape) _ _ tested in
    let fields = unless_ok (list_all has_field samples) (lines.Bad causes.BadNumber) _ _ some.1 in
    (λ none. some_not_none samples some.0 none, all_fields samples fields.0, unless_is (times_ascend samples) _ fields.1)

text_known : (text inner : List ℕ) (b : Bool) → cond b (Some text) None ≡ Some inner → text ≡ inner
text_known text inner true is = same_Some _ _ is
text_known text inner false is = absurd cc

pub labels_are : (text inner : List ℕ) (labels : List Label) → cond (is_utf8 text) (Some text) None ≡ Some inner → last_labels (Some inner) ≡ Ok (Some labels) → IsSetText text labels
labels_are text inner labels known read =
    let found = labels_found (Some inner) labels read in
    subst (λ t. IsSetText t labels) (sym (text_known text inner (is_utf8 text) known ∙ same_Some _ _ found.1)) found.2

-- what is read of a text of a set
module _ (text inner : List ℕ) (set : List Label) (known : cond (is_utf8 text) (Some text) None ≡ Some inner) (is_set : IsSetText text set) where
  inner_again : last_labels (Some inner) ≡ Ok (Some set)
  inner_again =
      ap (λ t. last_labels (Some t)) (sym (text_known text inner (is_utf8 text) known)) ∙ labels_again text set is_set

  pub no_refusal : (refusal : LineRefusal) → (refusal ≡ lines.NoMemory) ⊎ (last_labels (Some inner) ≡ Err refusal) → refusal ≡ lines.NoMemory
  no_refusal refusal (inl memory) = memory
  no_refusal refusal (inr refused) =
      absurd (ok_not_err (Some set) refusal (last_labels (Some inner)) inner_again refused)

  pub set_is : (found : Option (List Label)) → last_labels (Some inner) ≡ Ok found → found ≡ Some set
  set_is found read = one_answer found (Some set) (last_labels (Some inner)) read inner_again

pub set_there : (found : Option (List Label)) (set : List Label) (refusal lacking : LineCause) → found ≡ Some set → ok_or found lacking ≡ Err refusal → ⊥
set_there found set refusal lacking is refused =
    absurd (ok_not_err set refusal (ok_or found lacking) (ap (λ o. ok_or o lacking) is) refused)

-- ---- what adding a series has refused

-- the samples of a series line pass each test
have_all : (samples : List Sample) → All HasField samples → list_all has_field samples ≡ true
have_all [] all = refl
have_all (sample ∷ samples) all =
    let has = All-head HasField sample samples all in
    let fits = has.pattern in
    let small : nat_le sample.pattern (2 ^ 64 - 1) ≡ true = grind (arith, nat_tests) in
    rw (near_tested sample.time has.near, small) (have_all samples (All-tail HasField sample samples all))

some_by : (samples : List Sample) → samples ≢ [] → not (length samples == 0) ≡ true
some_by [] some = absurd (some refl)
some_by (sample ∷ samples) some = grind (arith, nat_tests)

samples_pass : (samples : List Sample) → samples ≢ [] → All HasField samples → times_ascend samples ≡ true → test_samples samples ≡ Ok tt
samples_pass samples some all rising = rw (some_by samples some, have_all samples all, rising) refl

pub none_refused : (samples : List Sample) (refusal : LineRefusal) → samples ≢ [] → All HasField samples → times_ascend samples ≡ true → test_samples samples ≡ Err refusal → ⊥
none_refused samples refusal some all rising refused =
    ok_not_err tt refusal (test_samples samples) (samples_pass samples some all rising) refused

pub adding_refused : (st after : State) (own set : List Label) (samples : List Sample) (result : Result (Unit {0}) LineRefusal) → own ≡ set → Gives lines.NoMemory (λ _. after) result (add_series st (record { labels = own; samples = samples })) → IfErr result (λ e. (e ≡ lines.NoMemory) ⊎ (add_series st (record { labels = set; samples = samples }) ≡ Err e))
adding_refused st after own set samples (Ok done) same gives = tt
adding_refused st after own set samples (Err refusal) same (inl memory) = inl memory
adding_refused st after own set samples (Err refusal) same (inr refused) =
    inr (ap (λ labels. add_series st (record { labels = labels; samples = samples })) (sym same) ∙ refused)
