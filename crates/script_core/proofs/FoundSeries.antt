-- What is read of a series line is what the line spells.
use Rattle.std.proofs.Common.{◌≡◌, ◌≢◌, ℕ, ◌≤◌, ℤ, Bool, true, false, not, cond, nat_lt, List, [], ◌∷◌, ◌++◌, length, take, drop, Option, Some, None, option_map, Result, Ok, Err, refl, sym, ap, ◌∙◌, subst, arith, codes, append-nil}
use Rattle.std.specs.List.{list_all, slice_split, onto_first, position_or_len, before_first, after_first}
use Rattle.std.proofs.lemmas.Bool.Decides.{nat_tests}
use Rattle.std.proofs.lemmas.List.{take-append-drop}
use Rattle.std.proofs.lemmas.List.Sums.{prefix_len-le-length}
use Rattle.std.proofs.lemmas.List.Splits.{length-slice_split, join_with_byte-slice_split}
use Rattle.base.specs.Decimal.{signed_of}
use Rattle.base.specs.declared.number.NumberRefusal.{NumberRefusal}
use Rattle.base.specs.declared.number.NumberRefusal.TheVariants.{NotANumber, TooLarge}
use Rattle.base.proofs.Binds.{bind_ok, unless_ok, ok_is, refused_as_ok, unless_is, then_ok}
use Rattle.std.proofs.lemmas.Bool.{and_parts, not-true}
use Rattle.label_sets.proofs.SampleTexts.{sample_of-found, sample_of-fits, uncut}
use Rattle.label_sets.proofs.SetLaws.{set_text_found}
use Rattle.label_sets.specs.Notation.{read_set}
use Rattle.label_sets.specs.SetText.{IsSetText}
use Rattle.label_sets.specs.SampleText.{sample_of, sample_with, pattern_of}
use Rattle.label_sets.specs.declared.label.Label.{Label}
use Rattle.label_sets.specs.declared.sample.Sample.{Sample}
use Rattle.label_sets.specs.declared.series.Series.{Series}
use Rattle.script_core.specs.declared.block.Block.{Block}
use Rattle.script_core.specs.declared.body.Body.TheVariants.{Inline}
use Rattle.script_fields.specs.declared.cause.LineCause.{LineCause}
use Rattle.script_fields.specs.declared.cause.LineCause.TheVariants as causes
use Rattle.script_fields.specs.declared.line_refusal.LineRefusal.TheVariants.{Bad}
use Rattle.script_fields.specs.Fields.{is_empty, is_space, after_space}
use Rattle.script_fields.specs.Values.{is_time}
use Rattle.script_fields.specs.Samples.{is_colon, texts_of, are_whole, is_small_number, has_small_number, have_small_numbers, samples_from, samples_of, are_within}
use Rattle.script_core.specs.Lines.{first_labels, line_samples, series_line, times_ascend}
use Rattle.script_core.specs.State.{State, Last, block_of, with_last, all_blocks, add_series, test_block, with_series, has_series, script_of_state}
use Rattle.script_core.specs.Spelling.{spaced, inside, IsSampleField, AreSampleFields, SeriesLine}
use Rattle.script_fields.proofs.FieldLaws.{no_space, space_is}
use Rattle.script_core.proofs.Kept.{Kept, KeepsBlocks, at, so_far_of, series_kept}
use Rattle.script_core.proofs.LineTools.{is_field, unit_is}
use Rattle.script_core.proofs.FoundSetup.{Starts}
use Rattle.std.specs.List.Sorted.{IsStrictlySortedBy}
use Rattle.label_sets.specs.Labels.{compare_sets}
use Rattle.script_core.proofs.LawfulParts.{labels_of, sorted_insert}
use Rattle.script_core.proofs.SpelledValues.{near_spelled, ascend_spelled, within_spelled}
use Rattle.script_core.proofs.SpelledSeries.{place_spelled}

-- ---- the label set at the front

space_by : (byte : ℕ) (text rest : List ℕ) (b : Bool) → is_space byte ≡ b → cond {A = Result (List ℕ) LineCause} b (Ok text) (Err causes.BadShape) ≡ Ok rest → byte ∷ text ≡ 32 ∷ rest
space_by byte text rest true space h =
    let first : byte ≡ 32 = space_is byte space in
    let others : text ≡ rest = ok_is text rest h in
    λ i. first i ∷ others i
space_by byte text rest false space h = absurd cc

space_found : (text rest : List ℕ) → after_space text ≡ Ok rest → text ≡ 32 ∷ rest
unfolding after_space
space_found [] rest h = absurd cc
space_found (byte ∷ text) rest h = space_by byte text rest (is_space byte) refl h

-- what stands at the front of a line's rest
pub record FrontSet (text : List ℕ) (labels : List Label) (texts : List ℕ) : Type 0 where
  pub front : List ℕ
  pub whole : text ≡ front ++ 32 ∷ texts
  pub are_labels : IsSetText front labels

front_found : (text : List ℕ) (labels : List Label) (count : ℕ) (texts : List ℕ) → read_set text ≡ Ok (labels, count) → drop count text ≡ 32 ∷ texts → FrontSet text labels texts
front_found text labels count texts read rest =
    record {
      front = take count text;
      whole = sym (take-append-drop count text) ∙ ap (λ t. take count text ++ t) rest;
      are_labels = set_text_found text labels count read;
    }

first_labels_found : (left : Option (List ℕ)) (found : List Label × List ℕ) → first_labels left ≡ Ok found → (text : List ℕ) × (left ≡ Some text) × FrontSet text found.0 found.1
unfolding first_labels
first_labels_found None found h = absurd cc
first_labels_found (Some text) found h =
    let a = unless_ok (not (is_empty text)) (Bad causes.BadShape) _ _ h in
    let b = bind_ok _ _ _ a.1 in
    let c = bind_ok _ _ _ b.2 in
    let same : (b.0.0, c.0) ≡ found = ok_is _ _ c.2 in
    let front = front_found text b.0.0 b.0.1 c.0 (refused_as_ok _ _ _ b.1) (space_found (drop b.0.1 text) c.0 (refused_as_ok _ _ _ c.1)) in
    (text, refl, subst (λ (f : List Label × List ℕ). FrontSet text f.0 f.1) same front)

-- ---- the samples

onto_free : (byte : ℕ) (pieces : List (List ℕ)) → is_space byte ≡ false → list_all no_space pieces ≡ true → list_all no_space (onto_first byte pieces) ≡ true
onto_free byte [] space free = rw space refl
onto_free byte (piece ∷ pieces) space free = rw space free

pieces_by : (byte : ℕ) (pieces : List (List ℕ)) (b : Bool) → is_space byte ≡ b → list_all no_space pieces ≡ true → list_all no_space (cond b ([] ∷ pieces) (onto_first byte pieces)) ≡ true
pieces_by byte pieces true space free = free
pieces_by byte pieces false space free = onto_free byte pieces space free

-- no piece has a space
pieces_free : (texts : List ℕ) → list_all no_space (slice_split is_space texts) ≡ true
pieces_free [] = refl
pieces_free (byte ∷ texts) = pieces_by byte (slice_split is_space texts) (is_space byte) refl (pieces_free texts)

-- a number in front of a sample's colon is that of its time
pub sample_time : (pattern : Option ℕ) (time : Result ℤ NumberRefusal) (sample : Sample) → sample_with pattern time ≡ Ok sample → time ≡ Ok sample.time
unfolding sample_with
sample_time None time sample h = absurd cc
sample_time (Some pattern) (Ok time) sample h = ap (λ (s : Sample). Ok s.time) (ok_is _ _ h)
sample_time (Some pattern) (Err NotANumber) sample h = absurd cc
sample_time (Some pattern) (Err TooLarge) sample h = absurd cc

whole_length : (text : List ℕ) → length text ≤ position_or_len is_colon text → position_or_len is_colon text ≡ length text
whole_length text long = omega (arith, long, prefix_len-le-length (λ byte. not (is_colon byte)) text)

near_by : (text : List ℕ) (sample : Sample) (b : Bool) → nat_lt (position_or_len is_colon text) (length text) ≡ b → cond b (is_small_number (signed_of (before_first is_colon text))) true ≡ true → sample_of text ≡ Ok sample → is_time sample.time ≡ true
unfolding sample_of
near_by text sample true cut small read =
    ap is_small_number (sym (sample_time (pattern_of (after_first is_colon text)) (signed_of (before_first is_colon text)) sample read)) ∙ small
near_by text sample false cut small read =
    let end : position_or_len is_colon text ≡ length text = whole_length text (grind (arith, nat_tests)) in
    let none = uncut text end in
    absurd cc

near_found : (text : List ℕ) (sample : Sample) → has_small_number text ≡ true → sample_of text ≡ Ok sample → is_time sample.time ≡ true
unfolding has_small_number
near_found text sample small read =
    near_by text sample (nat_lt (position_or_len is_colon text) (length text)) refl small read

samples_found : (texts : List (List ℕ)) (samples : List Sample) → list_all no_space texts ≡ true → list_all (λ text. not (is_empty text)) texts ≡ true → list_all has_small_number texts ≡ true → samples_from texts ≡ Ok samples → AreSampleFields texts samples
unfolding samples_from
samples_found [] samples free whole small h =
    subst (AreSampleFields []) (ok_is _ _ h) tt
samples_found (text ∷ texts) samples free whole small h =
    let a = bind_ok _ _ _ h in
    let b = bind_ok _ _ _ a.2 in
    let read : sample_of text ≡ Ok a.0 = refused_as_ok _ _ _ a.1 in
    let f = and_parts (no_space text) (list_all no_space texts) free in
    let w = and_parts (not (is_empty text)) (list_all (λ t. not (is_empty t)) texts) whole in
    let s = and_parts (has_small_number text) (list_all has_small_number texts) small in
    let first : IsSampleField text a.0 = record { field = is_field text w.0 f.0; written = sample_of-found text a.0 read; near = near_spelled a.0.time (near_found text a.0 s.0 read); pattern = (sample_of-fits text a.0 read).1 } in
    let all : AreSampleFields (text ∷ texts) (a.0 ∷ b.0) = (first, samples_found texts b.0 f.1 w.1 s.1 b.1) in
    subst (AreSampleFields (text ∷ texts)) (ok_is _ _ b.2) all

line_samples_found : (texts : List ℕ) (samples : List Sample) → line_samples texts ≡ Ok samples
    → (are_whole texts ≡ true) × (have_small_numbers texts ≡ true) × (samples_of texts ≡ Ok samples) × (times_ascend samples ≡ true)
line_samples_found texts samples h =
    let whole = unless_ok (are_whole texts) (Bad causes.BadShape) _ _ h in
    let small = unless_ok (have_small_numbers texts) (Bad causes.BadNumber) _ _ whole.1 in
    let read = bind_ok _ _ _ small.1 in
    let rising = unless_ok (times_ascend read.0) (Bad causes.FallingTimes) _ _ read.2 in
    let same : read.0 ≡ samples = ok_is _ _ rising.1 in
    (whole.0, small.0, refused_as_ok _ _ _ read.1 ∙ ap Ok same, subst (λ s. times_ascend s ≡ true) same rising.0)

-- ---- the last block

pub record InLast (blocks : List Block) (continues : Bool) (last : Option Last) (series : Series) : Type 0 where
  pub block : Last
  pub is : last ≡ Some block
  pub within : are_within block.min_time block.max_time series.samples ≡ true
  pub new : has_series block.series series.labels ≡ false
  pub follows : continues ≡ true

some_pieces : (texts : List ℕ) → texts_of texts ≢ []
some_pieces texts none = omega (arith, ap length none, length-slice_split is_space texts)

-- where no block of the shelf stands behind the last inline one, that is the last block
pub last_there : (st : State) (last : Option Last) → st.shelved ≡ [] → all_blocks st.blocks last st.shelved ≡ with_last st.blocks last
last_there st last none = ap (λ bs. with_last st.blocks last ++ bs) none ∙ append-nil (with_last st.blocks last)

pub added : (st : State) (series : Series) (block : Last) → st.shelved ≡ [] → st.last ≡ Some block → st.continues ≡ true → so_far_of (record st { last = option_map (with_series series) st.last }) ≡ inside (record (script_of_state st) { blocks = st.blocks ++ block_of (with_series series block) ∷ [] })
added st series block none is follows =
    ap (λ (bs : List Block). at (record (script_of_state st) { blocks = bs }) st.continues) (last_there st (option_map (with_series series) st.last) none)
    ∙ (λ i. at (record (script_of_state st) { blocks = with_last st.blocks (option_map (with_series series) (is i)) }) (follows i))

in_last : (blocks : List Block) (continues : Bool) (last : Option Last) (series : Series) → test_block continues last series.labels series.samples ≡ Ok tt → InLast blocks continues last series
in_last blocks continues None series h = absurd cc
in_last blocks continues (Some block) series h =
    let a = unless_ok (are_within block.min_time block.max_time series.samples) (Bad causes.OutsideBlock) _ _ h in
    let b = unless_ok (not (has_series block.series series.labels)) (Bad causes.RepeatedSeries) _ _ a.1 in
    record { block = block; is = refl; within = a.0; new = not-true _ b.0; follows = unless_is continues _ b.1 }

still_kept : (blocks : List Block) (last : Option Last) (shelved : List Block) (ulids : List ℕ) (series : Series) → shelved ≡ [] → KeepsBlocks blocks last shelved ulids → KeepsBlocks blocks (option_map (with_series series) last) shelved ulids
still_kept blocks last shelved ulids series none kept =
    subst (λ (bs : List Block). KeepsBlocks blocks (option_map (with_series series) last) bs ulids) (sym none)
    (series_kept blocks last ulids series (subst (λ (bs : List Block). KeepsBlocks blocks last bs ulids) none kept))

-- the last block with these series
abbrev block_with : Last → List Series → Block
block_with block series =
    record { ulid = block.ulid; labels = block.labels; body = Inline block.min_time block.max_time series }

pub series_line_found : (st after : State) (line : List ℕ) (left : Option (List ℕ)) → Kept st → Starts line (codes "series") left → series_line st left ≡ Ok after → SeriesLine (so_far_of st) line (so_far_of after) × Kept after
unfolding series_line add_series
series_line_found st after line left kept starts h =
    let a = bind_ok _ _ _ h in
    let d = bind_ok _ _ _ a.2 in
    let read = line_samples_found a.0.1 d.0 d.1 in
    let f = then_ok _ _ _ d.2 in
    let same = ok_is _ _ f.2 in
    let series : Series = record { labels = a.0.0; samples = d.0 } in
    let last = in_last st.blocks st.continues st.last series (f.1 ∙ unit_is f.0) in
    let none = kept.follows last.follows in
    let place = place_spelled last.block.series series last.new in
    let found = first_labels_found left a.0 a.1 in
    let set = found.2 in
    let texts = texts_of a.0.1 in
    let joined : spaced texts ≡ a.0.1 = join_with_byte-slice_split 32 a.0.1 in
    let rest : set.front ++ 32 ∷ a.0.1 ≡ set.front ++ 32 ∷ spaced texts = ap (λ t. set.front ++ 32 ∷ t) (sym joined) in (
      record {
        labels_text = set.front;
        texts = texts;
        labels = a.0.0;
        samples = d.0;
        spelled = starts found.0 found.1 ∙ ap (λ t. codes "series" ++ 32 ∷ t) (set.whole ∙ rest);
        are_labels = set.are_labels;
        some = some_pieces a.0.1;
        are_samples = samples_found texts d.0 (pieces_free a.0.1) read.0 read.1 read.2;
        rising = ascend_spelled d.0 read.3;
        in_block = last.follows;
        others = st.blocks;
        ulid = last.block.ulid;
        block_labels = last.block.labels;
        min_time = last.block.min_time;
        max_time = last.block.max_time;
        lesser = place.lesser;
        greater = place.greater;
        last = last_there st st.last none ∙ ap (with_last st.blocks) last.is ∙ ap (λ s. st.blocks ++ block_with last.block s ∷ []) place.parted;
        within = within_spelled last.block.min_time last.block.max_time d.0 last.within;
        ascend = subst (λ s. IsStrictlySortedBy compare_sets (labels_of s)) place.put (sorted_insert last.block.series series (kept.blocks.ascend last.block last.is));
        adds = ap so_far_of (sym same) ∙ added st series last.block none last.is last.follows ∙ ap (λ s. inside (record (script_of_state st) { blocks = st.blocks ++ block_with last.block s ∷ [] })) place.put;
      },
      subst Kept same (record { blocks = still_kept st.blocks st.last st.shelved st.ulids series none kept.blocks; follows = kept.follows; tasks = kept.tasks }),
    )
