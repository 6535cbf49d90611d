-- The samples of a line, one after another.
use Rattle.std.proofs.Common.{◌≡◌, ℕ, ◌+◌, ◌*◌, ◌<◌, ◌≤◌, List, [], ◌∷◌, ◌++◌, length, Option, Some, None, Result, Ok, Err, refl, sym, ap, ◌∙◌, arith, append_assoc, append-nil}
use Rattle.std.proofs.lemmas.List.{length-append}
use Rattle.std.proofs.lemmas.List.Splits.{slice_split_at, slice_split_none, length-slice_split}
use Rattle.std.proofs.lemmas.List.Sums.{count_by-le-length}
use Rattle.base.proofs.Binds.{bind_ok, ok_is, refused_as_ok}
use Rattle.base.proofs.Bound.{OfValue}
use Rattle.base.specs.Reading.{◌>>=◌, refused_as}
use Rattle.label_sets.specs.SampleText.{pattern_of, sample_of, sample_with}
use Rattle.label_sets.specs.declared.sample.Sample.{Sample}
use Rattle.script_fields.specs.declared.cause.LineCause.{LineCause}
use Rattle.script_fields.specs.declared.cause.LineCause.TheVariants.{BadSample}
use Rattle.script_fields.specs.declared.line_refusal.LineRefusal.TheVariants as lines
use Rattle.script_fields.specs.LineRefusals.{bad}
use Rattle.script_fields.specs.Fields.{is_space, next_field}
use Rattle.script_fields.specs.Samples.{texts_of, samples_from, samples_of}
use Rattle.script_fields.proofs.FieldLaws.{spaceless, Cut, cut_nothing, cut_whole, cut_front, cut_found}

-- the texts that are left
abbrev pub texts_left : Option (List ℕ) → List (List ℕ)
texts_left None = []
texts_left (Some texts) = texts_of texts

-- how much is left
abbrev pub size_left : Option (List ℕ) → ℕ
size_left None = 0
size_left (Some texts) = length texts + 1

-- samples, and those that were read after them
abbrev pub after : List Sample → Result (List Sample) LineCause → Result (List Sample) LineCause
after samples read = read >>= λ more. Ok (samples ++ more)

-- the first text, and the others
pub record FirstText (text field : List ℕ) (rest : Option (List ℕ)) : Type 0 where
  pub texts : texts_of text ≡ field ∷ texts_left rest
  pub less : size_left rest < size_left (Some text)

first_by : (text field : List ℕ) (rest : Option (List ℕ)) → Cut (Some text) field rest → FirstText text field rest
first_by text field rest (cut_nothing none empty end) = absurd cc
first_by text field rest (cut_whole whole free end) =
    let same : text ≡ field = cc in
    record {
      texts = rw (same, end) (slice_split_none is_space field (λ k d below. spaceless field free k d below));
      less = rw end (omega arith);
    }
first_by text field rest (cut_front others whole free end) =
    let same : text ≡ field ++ 32 ∷ others = cc in
    record {
      texts = rw (same, end) (slice_split_at is_space field 32 others (λ k d below. spaceless field free k d below) refl);
      less = rw (same, end) (omega (arith, length-append field (32 ∷ others)));
    }

pub first_text : (text field : List ℕ) (rest : Option (List ℕ)) → (field, rest) ≡ next_field (Some text) → FirstText text field rest
first_text text field rest cut =
    let found = cut_found (Some text) in
    let left : field ≡ (next_field (Some text)).0 = ap (λ x. x.0) cut in
    let right : rest ≡ (next_field (Some text)).1 = ap (λ x. x.1) cut in
    rw (left, right) (first_by text (next_field (Some text)).0 (next_field (Some text)).1 found)

pub less_left : (left : Option (List ℕ)) (text field : List ℕ) (rest : Option (List ℕ)) → left ≡ Some text → (field, rest) ≡ next_field (Some text) → size_left rest < size_left left
less_left left text field rest is cut = rw is (first_text text field rest cut).less

pub after_none : (read : Result (List Sample) LineCause) → after [] read ≡ read
after_none (Ok samples) = refl
after_none (Err cause) = refl

after-cons : (samples : List Sample) (sample : Sample) (read : Result (List Sample) LineCause) → after samples (read >>= λ more. Ok (sample ∷ more)) ≡ after (samples ++ sample ∷ []) read
after-cons samples sample (Ok more) = ap Ok (sym (append_assoc samples (sample ∷ []) more))
after-cons samples sample (Err cause) = refl

module _ (left : Option (List ℕ)) (text field : List ℕ) (rest : Option (List ℕ)) (samples : List Sample) (whole : Result (List Sample) LineCause) where
  first_read : (field, rest) ≡ next_field (Some text) → samples_from (texts_left (Some text)) ≡ (refused_as (λ _. BadSample) (sample_of field) >>= λ sample. samples_from (texts_left rest) >>= λ more. Ok (sample ∷ more))
  unfolding samples_from
  first_read cut = ap samples_from (first_text text field rest cut).texts

  pub sample_more : (sample : Sample) (all : List Sample) → left ≡ Some text → (field, rest) ≡ next_field (Some text) → Ok sample ≡ refused_as (λ _. BadSample) (sample_of field) → all ≡ samples ++ sample ∷ [] → after samples (samples_from (texts_left left)) ≡ whole → after all (samples_from (texts_left rest)) ≡ whole
  sample_more sample all is cut read all_is so_far =
      let step : samples_from (texts_left (Some text)) ≡ (samples_from (texts_left rest) >>= λ more. Ok (sample ∷ more)) = first_read cut ∙ ap (λ r. r >>= λ s. samples_from (texts_left rest) >>= λ more. Ok (s ∷ more)) (sym read) in
      rw all_is (sym (after-cons samples sample (samples_from (texts_left rest))) ∙ ap (after samples) (sym step) ∙ ap (λ l. after samples (samples_from (texts_left l))) (sym is) ∙ so_far)

  pub sample_refused : (cause : LineCause) → left ≡ Some text → (field, rest) ≡ next_field (Some text) → Err cause ≡ refused_as (λ _. BadSample) (sample_of field) → after samples (samples_from (texts_left left)) ≡ whole → whole ≡ Err cause
  sample_refused cause is cut read so_far =
      let step : samples_from (texts_left (Some text)) ≡ Err cause = first_read cut ∙ ap (λ r. r >>= λ s. samples_from (texts_left rest) >>= λ more. Ok (s ∷ more)) (sym read) in
      sym so_far ∙ ap (λ l. after samples (samples_from (texts_left l))) is ∙ ap (after samples) step

pub samples_end : (left : Option (List ℕ)) (samples : List Sample) (whole : Result (List Sample) LineCause) → left ≡ None → after samples (samples_from (texts_left left)) ≡ whole → whole ≡ Ok samples
unfolding samples_from
samples_end left samples whole none so_far =
    sym so_far ∙ ap (λ l. after samples (samples_from (texts_left l))) none ∙ ap Ok (append-nil samples)

-- ---- how many there are

none_empty : (samples : List Sample) → samples_from ([] ∷ []) ≡ Ok samples → ⊥
unfolding samples_from sample_of sample_with pattern_of
none_empty samples e = absurd cc

from_few : (texts : List (List ℕ)) (samples : List Sample) → samples_from texts ≡ Ok samples → length samples ≡ length texts
unfolding samples_from
from_few [] samples e = sym (ap length (ok_is {E = LineCause} _ _ e))
from_few (text ∷ texts) samples e =
    let first = bind_ok (refused_as (λ _. BadSample) (sample_of text)) (λ sample. samples_from texts >>= λ more. Ok (sample ∷ more)) samples e in
    let others = bind_ok (samples_from texts) (λ more. Ok (first.0 ∷ more)) samples first.2 in
    omega (arith, from_few texts others.0 others.1, ap length (ok_is {E = LineCause} (first.0 ∷ others.0) samples others.2))

-- each sample has a text of its own, and no text that is read is empty
pub samples_few : (texts : List ℕ) → OfValue (bad (samples_of texts)) (λ (samples : List Sample). length samples ≤ 2 * length texts)
samples_few [] = record { holds = λ samples e. absurd (none_empty samples (refused_as_ok lines.Bad (samples_of []) samples e)) }
samples_few (x ∷ xs) = record {
  holds = λ samples e. omega (arith, from_few (texts_of (x ∷ xs)) samples (refused_as_ok lines.Bad (samples_of (x ∷ xs)) samples e), length-slice_split is_space (x ∷ xs), count_by-le-length is_space (x ∷ xs));
}
