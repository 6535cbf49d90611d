-- Texts of which samples were read that a series line can have pass the tests of texts.
use Rattle.std.proofs.Common.{◌≡◌, ℕ, ◌-◌, ◌^◌, Bool, true, false, not, cond, nat_lt, nat_le, IsOkAnd, IsErrAnd, List, [], ◌∷◌, length, Result, Ok, Err, inr, refl, sym, ap, ◌∙◌, subst, arith}
use Rattle.std.specs.List.{list_all, position_or_len, before_first, after_first}
use Rattle.std.proofs.lemmas.Bool.{and_parts}
use Rattle.std.proofs.lemmas.Bool.Decides.{nat_tests}
use Rattle.base.specs.Decimal.{signed_of}
use Rattle.base.specs.Reading.{◌>>◌, unless, Gives}
use Rattle.base.proofs.Binds.{bind_ok, ok_is, err_is, refused_as_ok}
use Rattle.label_sets.proofs.SampleTexts.{uncut}
use Rattle.label_sets.specs.SampleText.{sample_of, pattern_of}
use Rattle.label_sets.specs.declared.sample.Sample.{Sample}
use Rattle.script_fields.specs.Fields.{is_empty}
use Rattle.script_fields.specs.LineRefusals.{bad}
use Rattle.script_fields.specs.Samples.{is_colon, texts_of, are_whole, is_small_number, has_small_number, have_small_numbers, samples_from, samples_of}
use Rattle.script_fields.specs.Values.{is_time}
use Rattle.script_fields.specs.declared.cause.LineCause.TheVariants as causes
use Rattle.script_fields.specs.declared.line_refusal.LineRefusal.{LineRefusal}
use Rattle.script_fields.specs.declared.line_refusal.LineRefusal.TheVariants.{Bad, NoMemory}
use Rattle.script_core.specs.Lines.{line_samples, times_ascend}
use Rattle.script_core.specs.Parts.{has_field}
use Rattle.script_core.proofs.FoundSeries.{sample_time}

some_text : (text : List ℕ) (sample : Sample) → sample_of text ≡ Ok sample → not (is_empty text) ≡ true
some_text [] sample read = let none = uncut [] refl in absurd cc
some_text (byte ∷ text) sample read = grind (arith, nat_tests)

small_by : (text : List ℕ) (sample : Sample) (b : Bool) → sample_of text ≡ Ok sample → is_time sample.time ≡ true → cond b (is_small_number (signed_of (before_first is_colon text))) true ≡ true
unfolding sample_of
small_by text sample true read near =
    ap is_small_number (sample_time (pattern_of (after_first is_colon text)) (signed_of (before_first is_colon text)) sample read) ∙ near
small_by text sample false read near = refl

-- the number in front of the colon is the sample's time
small_text : (text : List ℕ) (sample : Sample) → sample_of text ≡ Ok sample → is_time sample.time ≡ true → has_small_number text ≡ true
unfolding has_small_number
small_text text sample read near =
    small_by text sample (nat_lt (position_or_len is_colon text) (length text)) read near

texts_pass : (texts : List (List ℕ)) (samples : List Sample) → samples_from texts ≡ Ok samples → list_all has_field samples ≡ true → (list_all (λ text. not (is_empty text)) texts ≡ true) × (list_all has_small_number texts ≡ true)
unfolding samples_from
texts_pass [] samples read have = (refl, refl)
texts_pass (text ∷ texts) samples read have =
    let a = bind_ok _ _ _ read in
    let b = bind_ok _ _ _ a.2 in
    let one : sample_of text ≡ Ok a.0 = refused_as_ok _ _ _ a.1 in
    let all : list_all has_field (a.0 ∷ b.0) ≡ true = subst (λ s. list_all has_field s ≡ true) (sym (ok_is _ _ b.2)) have in
    let h = and_parts (has_field a.0) (list_all has_field b.0) all in
    let near = (and_parts (is_time a.0.time) (nat_le a.0.pattern (2 ^ 64 - 1)) h.0).0 in
    let others = texts_pass texts b.0 b.1 h.1 in
    (rw (some_text text a.0 one) others.0, rw (small_text text a.0 one near) others.1)

pub read_pass : (texts : List ℕ) (read : Result (List Sample) LineRefusal) → Gives NoMemory (λ samples. samples) read (bad (samples_of texts)) → IsOkAnd read (λ samples. list_all has_field samples ≡ true) → (are_whole texts ≡ true) × (have_small_numbers texts ≡ true)
read_pass texts (Ok samples) gives have = texts_pass (texts_of texts) samples (refused_as_ok _ _ _ gives) have
read_pass texts (Err refusal) gives have = absurd have

-- ---- a line whose texts pass

-- what passed a test
went_on : (b : Bool) (refusal : LineRefusal) (done : Unit {0}) → Ok done ≡ unless b refusal → b ≡ true
went_on true refusal done h = refl
went_on false refusal done h = absurd cc

pub tests_passed : (texts : List ℕ) (whole small : Bool) (refusal other : LineRefusal) (done also : Unit {0}) → whole ≡ are_whole texts → small ≡ have_small_numbers texts → Ok done ≡ unless whole refusal → Ok also ≡ unless small other → (are_whole texts ≡ true) × (have_small_numbers texts ≡ true)
tests_passed texts whole small refusal other done also w s first second =
    (sym w ∙ went_on whole refusal done first, sym s ∙ went_on small other also second)

-- what the last test makes of samples
abbrev tested : List Sample → Result (List Sample) LineRefusal
tested samples = unless (times_ascend samples) (Bad causes.FallingTimes) >> Ok samples

pub left_to_test : (texts : List ℕ) (read : Result (List Sample) LineRefusal) (samples : List Sample) → (are_whole texts ≡ true) × (have_small_numbers texts ≡ true) → Gives NoMemory (λ samples. samples) read (bad (samples_of texts)) → read ≡ Ok samples → line_samples texts ≡ tested samples
left_to_test texts (Ok found) samples passed gives is =
    let whole = passed.0 in
    let small = passed.1 in
    let of_texts : samples_from (texts_of texts) ≡ Ok found = refused_as_ok _ _ _ gives in
    let last : line_samples texts ≡ tested found = rw (whole, small, of_texts) refl in
    last ∙ ap tested (ok_is _ _ is)
left_to_test texts (Err refusal) samples passed gives is = absurd cc

module _ (texts : List ℕ) (samples members : List Sample) where
  pub ends_read : (ascend : Bool) (done : Unit {0}) → line_samples texts ≡ tested samples → members ≡ samples → ascend ≡ times_ascend members → Ok done ≡ unless ascend (Bad causes.FallingTimes) → line_samples texts ≡ Ok samples
  ends_read true done left same told passed =
      left ∙ ap (λ b. unless b (Bad causes.FallingTimes) >> Ok samples) (sym (told ∙ ap times_ascend same))
  ends_read false done left same told passed = absurd cc

  pub ends_refused : (ascend : Bool) (refusal : LineRefusal) (result : Result (List Sample) LineRefusal) → line_samples texts ≡ tested samples → members ≡ samples → ascend ≡ times_ascend members → Err refusal ≡ unless ascend (Bad causes.FallingTimes) → IsErrAnd result (λ e. e ≡ refusal) → Gives NoMemory (λ samples. samples) result (line_samples texts)
  ends_refused true refusal result left same told refused is = absurd cc
  ends_refused false refusal (Ok read) left same told refused is = absurd is
  ends_refused false refusal (Err e) left same told refused is =
      let cause : e ≡ Bad causes.FallingTimes = is ∙ err_is _ _ refused in
      inr (left ∙ ap (λ b. unless b (Bad causes.FallingTimes) >> Ok samples) (sym (told ∙ ap times_ascend same)) ∙ ap Err (sym cause))
