-- Why a script that comes part by part is refused.
use Rattle.std.proofs.Common.{◌≡◌, ◌⊎◌, ℕ, ◌+◌, ◌*◌, ◌<◌, ◌≤◌, List, [], ◌∷◌, ◌++◌, length, Err, inl, inr, refl, sym, ap, ◌∙◌, subst, arith, append_assoc}
use Rattle.std.specs.List.{before_first, after_first, position_or_len}
use Rattle.std.proofs.lemmas.Bool.{and_parts}
use Rattle.std.proofs.lemmas.List.{length-append, length-take, take_all}
use Rattle.base.specs.Lines.{line_feed}
use Rattle.label_sets.specs.declared.label.Label.{Label}
use Rattle.label_sets.specs.declared.sample.Sample.{Sample}
use Rattle.moment_core.specs.StandardRules.{standard_rules}
use Rattle.script_core.specs.declared.draft.Draft.{Draft}
use Rattle.script_fields.specs.declared.line_refusal.LineRefusal.{LineRefusal}
use Rattle.script_fields.specs.declared.line_refusal.LineRefusal.TheVariants as lines
use Rattle.script_core.specs.declared.part_reader.PartReader.{PartReader}
use Rattle.script_fields.specs.declared.script_refusal.ScriptRefusal.{ScriptRefusal}
use Rattle.script_fields.specs.declared.script_refusal.ScriptRefusal.TheVariants.{NoMemory, TooLong}
use Rattle.script_fields.specs.Fields.{is_newline, lines_of}
use Rattle.script_core.specs.GivenUp.{IsLineGivenUp}
use Rattle.script_fields.specs.Limits.{longest_text}
use Rattle.script_core.specs.Parts.{AreNextGivenUp, AreRefused, AreSeriesParts, IsEnded, IsOneLine, IsPartRefused, Reads, is_long, no_script, series_front, series_text}
use Rattle.script_fields.specs.LineRefusals.{of_line}
use Rattle.script_core.specs.Reading.{line_at, lines_at}
use Rattle.script_core.specs.State.{add_series, start}
use Rattle.script_core.specs.View.{state_of}
use Rattle.script_core.proofs.PartLaws.{ReadFront, before_one, cut_line_is, cut_one}
use Rattle.script_core.proofs.SeriesParts.{series_least, series_one_line, series_refused}
use Rattle.script_core.proofs.SpelledValues.{ascend_tested}

too_long : (before : PartReader) (text : List ℕ) (refusal : ScriptRefusal) (bytes : ℕ) → refusal ≡ TooLong → longest_text < before.bytes + bytes → bytes ≤ 2 * length text → IsPartRefused before text refusal
too_long before text refusal bytes is long least =
    is_long is (λ read has. omega (arith, has.near, long, least, length-append read text))

-- ---- lines that are refused, whatever follows

line_refused : (before : PartReader) (line : List ℕ) (refusal : ScriptRefusal) → IsOneLine line → line_at (state_of before.draft) (before.lines + 1) line ≡ Err refusal → AreRefused before (line ++ line_feed ∷ []) refusal
unfolding lines_at
line_refused before line refusal one refused read more has =
    let st = state_of before.draft in
    let first : lines_at st (before.lines + 1) (line ∷ lines_of more) ≡ Err refusal = rw refused refl in
    ap (λ t. lines_at (start standard_rules) 1 (lines_of (read ++ t))) (append_assoc line (line_feed ∷ []) more) ∙ has.leaves (line ++ line_feed ∷ more)
    ∙ ap (lines_at st (before.lines + 1)) (cut_one line one more)
    ∙ first

-- more behind it
refused_before : (before : PartReader) (text rest : List ℕ) (refusal : ScriptRefusal) → AreRefused before text refusal → AreRefused before (text ++ rest) refusal
refused_before before text rest refusal refused read more has =
    ap (λ t. lines_at (start standard_rules) 1 (lines_of (read ++ t))) (append_assoc text rest more) ∙ refused read (rest ++ more) has

-- and before it
refused_behind : (old now : PartReader) (front text : List ℕ) (refusal : ScriptRefusal) → Reads old now front → AreRefused now text refusal → AreRefused old (front ++ text) refusal
refused_behind old now front text refusal reads refused read more has =
    ap (λ t. lines_at (start standard_rules) 1 (lines_of t)) (ap (λ t. read ++ t) (append_assoc front text more) ∙ sym (append_assoc read front (text ++ more)))
    ∙ refused (read ++ front) more (reads read has)

-- ---- a line of those that are read one after another

module _ (old now : PartReader) (text left line rest : List ℕ) (so_far : ReadFront old now text left) (line_is : line ≡ before_first is_newline left) (rest_is : rest ≡ after_first is_newline left) (some : 0 < length left) where
  pub count_refused : (refusal : ScriptRefusal) → refusal ≡ TooLong → longest_text < now.bytes + (length line + 1) → IsPartRefused old text refusal
  count_refused refusal is long = is_long is (λ read has.
      omega (
        arith,
        (so_far.reads read has).near,
        long,
        some,
        length-append read so_far.front,
        length-append read text,
        ap length so_far.whole,
        length-append so_far.front left,
        ap length line_is,
        length-take (position_or_len is_newline left) left,
      ))

  module _ (shorter : length line < length left) where
    left_is : left ≡ line ++ line_feed ∷ rest
    left_is = cut_line_is left line rest line_is rest_is shorter ∙ append_assoc line (line_feed ∷ []) rest

    whole_is : text ≡ so_far.front ++ ((line ++ line_feed ∷ []) ++ rest)
    whole_is =
        so_far.whole ∙ ap (λ t. so_far.front ++ t) (cut_line_is left line rest line_is rest_is shorter)

    place_is : now.lines + 1 ≡ old.lines + 1 + length so_far.lines
    place_is = omega (arith, so_far.count)

    line_given_up : (refusal : ScriptRefusal) → IsLineGivenUp (state_of now.draft) (now.lines + 1) line refusal → AreNextGivenUp old text refusal
    line_given_up refusal (inl memory) = inl memory
    line_given_up refusal (inr large) = inr (
      now.lines + 1,
      large.0,
      record {
        earlier = so_far.lines;
        line = line;
        later = lines_of rest;
        stands = ap lines_of so_far.whole ∙ so_far.cut left ∙ ap (λ ls. so_far.lines ++ ls) (ap lines_of left_is ∙ cut_one line (before_one left line line_is) rest);
        at_is = place_is;
        before = state_of now.draft;
        read = so_far.lead;
        spoken = large.1;
        utf8 = large.2;
        asks = large.3;
      },
    )

    not_read : (refusal : ScriptRefusal) → IsLineGivenUp (state_of now.draft) (now.lines + 1) line refusal ⊎ (line_at (state_of now.draft) (now.lines + 1) line ≡ Err refusal) → AreNextGivenUp old text refusal ⊎ IsPartRefused old text refusal
    not_read refusal (inl given_up) = inl (line_given_up refusal given_up)
    not_read refusal (inr refused) =
        let one = line_refused now line refusal (before_one left line line_is) refused in
        inr (no_script (subst (λ t. AreRefused old t refusal) (sym whole_is) (refused_behind old now so_far.front ((line ++ line_feed ∷ []) ++ rest) refusal so_far.reads (refused_before now (line ++ line_feed ∷ []) rest refusal one))))

    pub text_refused : (draft : Draft) (number : ℕ) (refusal : ScriptRefusal) → draft ≡ now.draft → number ≡ now.lines + 1 → IsLineGivenUp (state_of draft) number line refusal ⊎ (line_at (state_of draft) number line ≡ Err refusal) → AreNextGivenUp old text refusal ⊎ IsPartRefused old text refusal
    text_refused draft number refusal same is why =
        not_read refusal (subst (λ (n : ℕ). IsLineGivenUp (state_of now.draft) n line refusal ⊎ (line_at (state_of now.draft) n line ≡ Err refusal)) is (subst (λ (d : Draft). IsLineGivenUp (state_of d) number line refusal ⊎ (line_at (state_of d) number line ≡ Err refusal)) same why))

-- ---- a text whose last line has no newline

unended : (front left : List ℕ) → IsOneLine left → 0 < length left → IsEnded (front ++ left) → ⊥
unended front [] one some ended = omega (arith, some)
unended front (byte ∷ []) one some ended =
    let bad : IsOneLine (line_feed ∷ []) = subst (λ b. IsOneLine (b ∷ [])) (ended front byte refl) one in absurd cc
unended front (byte ∷ next ∷ rest) one some ended =
    unended (front ++ byte ∷ []) (next ∷ rest) (and_parts _ _ one).1 (omega arith) (subst IsEnded (sym (append_assoc front (byte ∷ []) (next ∷ rest))) ended)

pub last_ended : (old now : PartReader) (text left line : List ℕ) → ReadFront old now text left → line ≡ before_first is_newline left → 0 < length left → length line ≡ length left → IsEnded text → ⊥
last_ended old now text left line so_far line_is some whole ended =
    let size = length-take (position_or_len is_newline left) left in
    let same : line ≡ left = line_is ∙ take_all (position_or_len is_newline left) left (omega (arith, ap length line_is, size, whole)) in
    unended so_far.front left (subst IsOneLine same (before_one left line line_is)) some (subst IsEnded so_far.whole ended)

-- ---- a series

module _ (before : PartReader) (labels : List ℕ) (set : List Label) (samples : List Sample) (are : AreSeriesParts labels set samples) where
  line_long : (refusal : ScriptRefusal) (bytes : ℕ) → refusal ≡ TooLong → longest_text < before.bytes + bytes → bytes ≤ 8 + length labels + 38 * length samples → IsPartRefused before (series_text labels samples) refusal
  unfolding series_text
  line_long refusal bytes is long fits =
      too_long before (series_text labels samples) refusal bytes is long (omega (arith, fits, series_least labels samples, length-append (series_front labels samples) (line_feed ∷ [])))

  pub size_refused : (refusal : ScriptRefusal) → refusal ≡ TooLong → longest_text < 8 + length labels + 38 * length samples → IsPartRefused before (series_text labels samples) refusal
  size_refused refusal is long =
      line_long refusal (8 + length labels + 38 * length samples) is (omega (arith, long)) (omega arith)

  pub room_refused : (refusal : ScriptRefusal) (bytes : ℕ) → refusal ≡ TooLong → longest_text < before.bytes + bytes → bytes ≡ 8 + length labels + 38 * length samples → IsPartRefused before (series_text labels samples) refusal
  room_refused refusal bytes is long size = line_long refusal bytes is long (omega (arith, size))

  line_by : (refusal : LineRefusal) → (refusal ≡ lines.NoMemory) ⊎ (add_series (state_of before.draft) (record { labels = set; samples = samples }) ≡ Err refusal) → (of_line (before.lines + 1) refusal ≡ NoMemory) ⊎ IsPartRefused before (series_text labels samples) (of_line (before.lines + 1) refusal)
  unfolding series_text
  line_by refusal (inl memory) = inl (ap (of_line (before.lines + 1)) memory)
  line_by refusal (inr refuses) =
      let line = series_front labels samples in
      inr (no_script (line_refused before line (of_line (before.lines + 1) refusal) (series_one_line labels samples are.fields are.one_line) (series_refused labels set samples are.is_set are.utf8 are.some are.fields (state_of before.draft) (before.lines + 1) refusal (ascend_tested samples are.ascend) refuses)))

  pub put_refused : (draft : Draft) (number : ℕ) (refusal : LineRefusal) → draft ≡ before.draft → number ≡ before.lines + 1 → (refusal ≡ lines.NoMemory) ⊎ (add_series (state_of draft) (record { labels = set; samples = samples }) ≡ Err refusal) → (of_line number refusal ≡ NoMemory) ⊎ IsPartRefused before (series_text labels samples) (of_line number refusal)
  put_refused draft number refusal same is why =
      subst (λ n. (of_line n refusal ≡ NoMemory) ⊎ IsPartRefused before (series_text labels samples) (of_line n refusal)) (sym is) (line_by refusal (subst (λ (d : Draft). (refusal ≡ lines.NoMemory) ⊎ (add_series (state_of d) (record { labels = set; samples = samples }) ≡ Err refusal)) same why))
