-- Chunks: what is read is a chunk of the grammar, what is a chunk is read, and a refusal is its cause.
use Rattle.std.proofs.Common.{◌≡◌, ℕ, zero, suc, ◌-◌, List, [], ◌∷◌, ◌++◌, length, drop, Bool, true, false, Option, None, Some, Ok, Err, ℤ, refl, sym, ap, subst, ◌∙◌, append_assoc, ◌⊎◌, inl, inr}
use Rattle.std.specs.Prelude.{slice_get, ◌≢◌, option_map}
use Rattle.std.specs.List.{AllByRecursion}
use Rattle.std.proofs.lemmas.Bool.{and_parts, true≢false, and_from, false_from_ne_true}
use Rattle.std.proofs.lemmas.Bool.Decides.{Decides-int_eq}
use Rattle.std.proofs.lemmas.Option.{slice_get-map}
use Rattle.std.proofs.Math.Seq.{take-append_seam}
use Rattle.base.specs.Reading.{◌>>◌, unless}
use Rattle.base.specs.Grammar.{IsBytes}
use Rattle.base.proofs.Binds.{bind_ok, bind_err, ok_is, refused_as_ok, refused_as_err, unless_ok}
use Rattle.base.proofs.Fronts.{IsBytes-drop, IsBytes-take, IsBytes-after}
use Rattle.label_sets.specs.declared.sample.Sample.{Sample}
use Rattle.xor_chunks.specs.Grammar.{IsText}
use Rattle.xor_chunks.specs.Data.{data_at}
use Rattle.xor_chunks.proofs.TextsRead.{data_again, found}
use Rattle.chunk_files.specs.Layout.{xor}
use Rattle.chunk_files.specs.Chunk.{IsPlace}
use Rattle.chunk_files.specs.ChunkReading.{segment_at}
use Rattle.chunk_files.proofs.ChunkLaws.{place_found, place_again}
use Rattle.index_parts.specs.declared.chunk_place.ChunkPlace.{ChunkPlace}
use Rattle.block_content.specs.Content.{StandsAt, HaveTimesOf, IsChunkOf}
use Rattle.block_content.specs.ContentReading.{data_in, data_of, is_time, have_times_of, are_some, samples_at, chunk_at}
use Rattle.block_content.specs.ContentRefusals.{RefusesChunk}
use Rattle.block_content.specs.declared.chunk_cause.ChunkCause.{ChunkCause}
use Rattle.block_content.specs.declared.chunk_cause.ChunkCause.TheVariants.{File, Data, NoSamples, TimesDiffer}
use Rattle.base.proofs.FirstLaws.{Tells, some_is}

-- ---- bytes

segment_bytes : (segments : List (List ℕ)) (k : ℕ) (segment : List ℕ) → AllByRecursion IsBytes segments → slice_get segments k ≡ Some segment → IsBytes segment
segment_bytes [] k segment are e = absurd cc
segment_bytes (s ∷ ss) zero segment are e = subst IsBytes (some_is s segment e) are.0
segment_bytes (s ∷ ss) (suc k) segment are e = segment_bytes ss k segment are.1 e

regroup : (size content sum after : List ℕ) (encoding : ℕ) → ((size ++ (encoding ∷ content)) ++ sum) ++ after ≡ (size ++ encoding ∷ []) ++ (content ++ (sum ++ after))
regroup [] content sum after encoding = ap (λ (t : List ℕ). encoding ∷ t) (append_assoc content sum after)
regroup (s ∷ size) content sum after encoding = ap (λ (t : List ℕ). s ∷ t) (regroup size content sum after encoding)

-- data that stands in bytes are bytes
place_bytes : (segment : List ℕ) (offset : ℕ) (content : List ℕ) → IsBytes segment → IsPlace segment offset content → IsBytes content
place_bytes segment offset content are is =
    let front = is.stands in
    let chunk = front.1.1 in
    let stands : drop offset segment ≡ front.1.0 ++ front.0 = front.1.2 in
    let framed : front.1.0 ++ front.0 ≡ ((chunk.size ++ (xor ∷ content)) ++ chunk.sum) ++ front.0 = ap (λ (t : List ℕ). t ++ front.0) chunk.text_is in
    let whole : drop offset segment ≡ (chunk.size ++ xor ∷ []) ++ (content ++ (chunk.sum ++ front.0)) = stands ∙ framed ∙ regroup chunk.size content chunk.sum front.0 xor in
    let behind : IsBytes (content ++ (chunk.sum ++ front.0)) = IsBytes-after (chunk.size ++ xor ∷ []) _ (drop offset segment) whole (IsBytes-drop offset segment are) in
    subst IsBytes (take-append_seam content (chunk.sum ++ front.0)) (IsBytes-take (length content) _ behind)

-- ---- the data at a place

in_parts : (segment : Option (List ℕ)) (offset : ℕ) (content : List ℕ) → data_in segment offset ≡ Ok content → (bytes : List ℕ) × (segment ≡ Some bytes) × (segment_at bytes offset ≡ Ok content)
in_parts None offset content e = absurd cc
in_parts (Some bytes) offset content e = (bytes, refl, e)

stands_found : (segments : List (List ℕ)) (place : ChunkPlace) (content : List ℕ) → AllByRecursion IsBytes segments → data_of segments place ≡ Ok content → StandsAt segments place content
stands_found segments place content are e =
    let parts = in_parts (slice_get segments place.segment) place.offset content e in
    record { segment = parts.0; named = parts.1; stands = place_found parts.0 place.offset content (segment_bytes segments place.segment parts.0 are parts.1) parts.2 }

pub stands_again : (segments : List (List ℕ)) (place : ChunkPlace) (content : List ℕ) → StandsAt segments place content → data_of segments place ≡ Ok content
stands_again segments place content is = rw is.named (place_again is.segment place.offset content is.stands)

stands_bytes : (segments : List (List ℕ)) (place : ChunkPlace) (content : List ℕ) → AllByRecursion IsBytes segments → StandsAt segments place content → IsBytes content
stands_bytes segments place content are is = place_bytes is.segment place.offset content (segment_bytes segments place.segment is.segment are is.named) is.stands

text_found : (content : List ℕ) (samples : List Sample) → IsBytes content → data_at 8 content ≡ Ok samples → IsText 8 content samples
text_found content samples are e = found 8 content (Ok samples) are e

-- ---- times

time_found : (sample : Option Sample) (time : ℤ) → is_time sample time ≡ true → option_map (λ s. s.time) sample ≡ Some time
time_found None time e = absurd cc
time_found (Some sample) time e = ap (λ (t : ℤ). Some t) ((Decides-int_eq sample.time time).0 e)

time_again : (sample : Option Sample) (time : ℤ) → option_map (λ s. s.time) sample ≡ Some time → is_time sample time ≡ true
time_again None time e = absurd cc
time_again (Some sample) time e = (Decides-int_eq sample.time time).1 (some_is sample.time time e)

pub times_found : (place : ChunkPlace) (samples : List Sample) → have_times_of place samples ≡ true → HaveTimesOf place samples
times_found place samples e =
    let parts = and_parts _ _ e in
    record {
      begins = slice_get-map _ samples 0 ∙ time_found (slice_get samples 0) place.min parts.0;
      ends = slice_get-map _ samples (length samples - 1) ∙ time_found (slice_get samples (length samples - 1)) place.max parts.1;
    }

pub times_again : (place : ChunkPlace) (samples : List Sample) → HaveTimesOf place samples → have_times_of place samples ≡ true
times_again place samples is = and_from _ _
    (time_again (slice_get samples 0) place.min (sym (slice_get-map _ samples 0) ∙ is.begins))
    (time_again (slice_get samples (length samples - 1)) place.max (sym (slice_get-map _ samples (length samples - 1)) ∙ is.ends))

times_differ : (place : ChunkPlace) (samples : List Sample) → have_times_of place samples ≡ false → HaveTimesOf place samples → ⊥
times_differ place samples e is = true≢false (sym (times_again place samples is) ∙ e)

times_are_others : (place : ChunkPlace) (samples : List Sample) → (HaveTimesOf place samples → ⊥) → have_times_of place samples ≡ false
times_are_others place samples differ = false_from_ne_true (have_times_of place samples) (λ e. differ (times_found place samples e))

-- ---- how many

none_there : (samples : List Sample) → are_some samples ≡ false → samples ≡ []
none_there [] e = refl
none_there (s ∷ ss) e = absurd cc

some_there : (samples : List Sample) → are_some samples ≡ true → samples ≢ []
some_there [] e = absurd cc
some_there (s ∷ ss) e = λ h. absurd cc

are_there : (samples : List Sample) → samples ≢ [] → are_some samples ≡ true
are_there [] some = absurd (some refl)
are_there (s ∷ ss) some = refl

pub timed_are_there : (place : ChunkPlace) (samples : List Sample) → HaveTimesOf place samples → are_some samples ≡ true
timed_are_there place [] is = let none = is.begins in absurd cc
timed_are_there place (s ∷ ss) is = refl

-- ---- the chunk

tests_failed : (some same : Bool) (samples : List Sample) (cause : ChunkCause) → (unless some NoSamples >> (unless same TimesDiffer >> Ok samples)) ≡ Err cause
    → ((some ≡ false) × (NoSamples ≡ cause)) ⊎ ((some ≡ true) × (same ≡ false) × (TimesDiffer ≡ cause))
tests_failed false same samples cause e = inl (refl, cc)
tests_failed true false samples cause e = inr (refl, refl, cc)
tests_failed true true samples cause e = absurd cc

module _ (segments : List (List ℕ)) (are : AllByRecursion IsBytes segments) where
  chunk_found : (place : ChunkPlace) (samples : List Sample) → chunk_at segments place ≡ Ok samples → IsChunkOf segments place samples
  unfolding chunk_at samples_at
  chunk_found place samples e =
      let one = bind_ok _ _ _ e in
      let read = bind_ok _ _ _ one.2 in
      let some = unless_ok (are_some read.0) NoSamples _ samples read.2 in
      let timed = unless_ok (have_times_of place read.0) TimesDiffer _ samples some.1 in
      let stands = stands_found segments place one.0 are (refused_as_ok _ _ _ one.1) in
      subst (IsChunkOf segments place) (ok_is {E = ChunkCause} _ _ timed.1) (record {
        content = one.0;
        stands = stands;
        reads = text_found one.0 read.0 (stands_bytes segments place one.0 are stands) (refused_as_ok _ _ _ read.1);
        timed = times_found place read.0 timed.0;
      })

  chunk_again : (place : ChunkPlace) (samples : List Sample) → IsChunkOf segments place samples → chunk_at segments place ≡ Ok samples
  unfolding chunk_at samples_at
  chunk_again place samples is = rw (stands_again segments place is.content is.stands, data_again 8 is.content samples is.reads, timed_are_there place samples is.timed, times_again place samples is.timed) refl

  refused_last : (place : ChunkPlace) (content : List ℕ) (samples : List Sample) (cause : ChunkCause) → StandsAt segments place content → IsText 8 content samples
      → ((are_some samples ≡ false) × (NoSamples ≡ cause)) ⊎ ((are_some samples ≡ true) × (have_times_of place samples ≡ false) × (TimesDiffer ≡ cause)) → RefusesChunk segments place cause
  refused_last place content samples cause stands is (inl (none, same)) =
      let why : RefusesChunk segments place NoSamples = (content, stands, subst (IsText 8 content) (none_there samples none) is) in
      subst (RefusesChunk segments place) same why
  refused_last place content samples cause stands is (inr (some, differ, same)) =
      let why : RefusesChunk segments place TimesDiffer = (content, samples, stands, is, some_there samples some, times_differ place samples differ) in
      subst (RefusesChunk segments place) same why

  refused_text : (place : ChunkPlace) (content : List ℕ) (cause : ChunkCause) → StandsAt segments place content → samples_at place content ≡ Err cause → RefusesChunk segments place cause
  unfolding samples_at
  refused_text place content cause stands e =
      elim (bind_err _ _ _ e) [
        | inl h ↦ let r = refused_as_err Data _ cause h in let why : RefusesChunk segments place (Data r.0) = (content, stands, r.1) in subst (RefusesChunk segments place) r.2 why
        | inr (samples, read, h) ↦ refused_last place content samples cause stands (text_found content samples (stands_bytes segments place content are stands) (refused_as_ok _ _ _ read)) (tests_failed _ _ samples cause h)
      ]

  chunk_refused : (place : ChunkPlace) (cause : ChunkCause) → chunk_at segments place ≡ Err cause → RefusesChunk segments place cause
  unfolding chunk_at
  chunk_refused place cause e =
      elim (bind_err _ _ _ e) [
        | inl h ↦ let r = refused_as_err File _ cause h in let why : RefusesChunk segments place (File r.0) = r.1 in subst (RefusesChunk segments place) r.2 why
        | inr (content, read, h) ↦ refused_text place content cause (stands_found segments place content are (refused_as_ok _ _ _ read)) h
      ]

  chunk_refuses : (place : ChunkPlace) (cause : ChunkCause) → RefusesChunk segments place cause → chunk_at segments place ≡ Err cause
  unfolding chunk_at samples_at
  chunk_refuses place (File refusal) e = rw e refl
  chunk_refuses place (Data refusal) (content, stands, e) = rw (stands_again segments place content stands, e) refl
  chunk_refuses place NoSamples (content, stands, is) = rw (stands_again segments place content stands, data_again 8 content [] is) refl
  chunk_refuses place TimesDiffer (content, samples, stands, is, some, differ) =
      rw (stands_again segments place content stands, data_again 8 content samples is, are_there samples some, times_are_others place samples differ) refl

  pub chunk_tells : Tells (chunk_at segments) (IsChunkOf segments) (RefusesChunk segments)
  chunk_tells = record { found = chunk_found; again = chunk_again; refused = chunk_refused; refuses = chunk_refuses }
