-- What is found at a place tells what the chunk there is, by the times that the chunk's place tells.
use Rattle.std.proofs.Common.{◌≡◌, ℕ, suc, ◌-◌, List, [], ◌∷◌, length, Result, Ok, Err, ℤ, refl, sym, ap, ◌∙◌, arith, ◌⊎◌, inl, inr}
use Rattle.std.specs.Prelude.{slice_get}
use Rattle.std.specs.Ordering.{int_eq}
use Rattle.base.specs.Reading.{◌>>=◌, ◌>>◌, unless, refused_as}
use Rattle.base.proofs.Binds.{ok_is}
use Rattle.label_sets.specs.declared.sample.Sample.{Sample}
use Rattle.index_parts.specs.declared.chunk_place.ChunkPlace.{ChunkPlace}
use Rattle.block_meta.specs.declared.meta.Meta.{Meta}
use Rattle.xor_chunks.specs.Data.{data_at}
use Rattle.xor_chunks.specs.Spans as spans
use Rattle.xor_chunks.specs.declared.refusal.XorRefusal.TheVariants as xor
use Rattle.block_content.specs.ContentReading.{data_of, chunk_bytes, are_some, have_times_of, is_time, part_at, samples_at, chunk_at, span_at, first_time}
use Rattle.block_content.specs.StoredPlaces.{stored_at, IsFoundAt}
use Rattle.block_content.specs.declared.chunk_cause.ChunkCause.{ChunkCause}
use Rattle.block_content.specs.declared.chunk_cause.ChunkCause.TheVariants.{File, Data, NoSamples, TimesDiffer}
use Rattle.block_content.specs.declared.places.Found.{Found}
use Rattle.block_content.proofs.Appending.{part_fails, part_passes}

-- ---- the test of a span

end_time : (s : Sample) (ss : List Sample) (t : ℤ) → is_time (slice_get (s ∷ ss) (length ss)) t ≡ int_eq (spans.end_of s.time ss) t
end_time s [] t = refl
end_time s (x ∷ xs) t = end_time x xs t

span_tests : (place : ChunkPlace) (part : List Sample) → span_at place (spans.span_of part) ≡ (part_at place part >> Ok (length part))
span_tests place [] = refl
span_tests place (s ∷ ss) =
    let count : suc (length ss) - 1 ≡ length ss = omega arith in
    rw (count, end_time s ss place.max) refl

tested_ok : (test : Result (Unit {0}) ChunkCause) (count n : ℕ) → (test >> Ok count) ≡ Ok n → (test ≡ Ok tt) × (n ≡ count)
tested_ok (Ok u) count n e = (refl, sym (ok_is {E = ChunkCause} _ _ e))
tested_ok (Err d) count n e = absurd cc

tested_err : (test : Result (Unit {0}) ChunkCause) (count : ℕ) (d : ChunkCause) → (test >> Ok count) ≡ Err d → test ≡ Err d
tested_err (Ok u) count d e = absurd cc
tested_err (Err c) count d e = cc

-- ---- a chunk is the data at its place, with the times that the place tells

-- the test of the samples that the data stands for
tested : ChunkPlace → List Sample → Result (List Sample) ChunkCause
tested place samples = unless (are_some samples) NoSamples >> (unless (have_times_of place samples) TimesDiffer >> Ok samples)

in_turn : (r : Result (List ℕ) ChunkCause) (f : List ℕ → Result (List Sample) ChunkCause) (g : List Sample → Result (List Sample) ChunkCause) → ((r >>= f) >>= g) ≡ (r >>= λ content. (f content >>= g))
in_turn (Ok content) f g = refl
in_turn (Err e) f g = refl

module _ (segments : List (List ℕ)) (place : ChunkPlace) where
  chunk_of_stored : chunk_at segments place ≡ (stored_at segments place >>= tested place)
  unfolding chunk_at samples_at stored_at tested
  chunk_of_stored = sym (in_turn (refused_as File (data_of segments place)) (λ content. refused_as Data (data_at 8 content)) (tested place))

  chunk_behind : (samples : List Sample) → stored_at segments place ≡ Ok samples → chunk_at segments place ≡ tested place samples
  chunk_behind samples e = chunk_of_stored ∙ ap (λ (r : Result (List Sample) ChunkCause). r >>= tested place) e

  pub stored_refused : (e : ChunkCause) → (e ≡ Data xor.NoMemory) ⊎ (stored_at segments place ≡ Err e) → (e ≡ Data xor.NoMemory) ⊎ (chunk_at segments place ≡ Err e)
  stored_refused e (inl none) = inl none
  stored_refused e (inr refused) = inr (chunk_of_stored ∙ ap (λ (r : Result (List Sample) ChunkCause). r >>= tested place) refused)

  module _ (meta : Meta) (found : Found) (is : IsFoundAt meta segments place found) where
    pub found_refused : (e : ChunkCause) → span_at place found.span ≡ Err e → chunk_at segments place ≡ Err e
    unfolding tested
    found_refused e refused =
        let (samples, stored, spans_are, time, bytes) = is in
        let test = tested_err (part_at place samples) (length samples) e (sym (span_tests place samples) ∙ ap (span_at place) (sym spans_are) ∙ refused) in
        chunk_behind samples stored ∙ part_fails _ _ samples e test

    pub found_passes : (count : ℕ) → span_at place found.span ≡ Ok count → (part : List Sample) × (chunk_at segments place ≡ Ok part) × ((count ≡ length part) × (found.outside ≡ first_time meta part))
    unfolding tested
    found_passes count passes =
        let (samples, stored, spans_are, time, bytes) = is in
        let test = tested_ok (part_at place samples) (length samples) count (sym (span_tests place samples) ∙ ap (span_at place) (sym spans_are) ∙ passes) in
        (samples, chunk_behind samples stored ∙ (part_passes _ _ samples test.0).0, (test.1, time))

pub found_bytes : (segments : List (List ℕ)) (place : ChunkPlace) (meta : Meta) (found : Found) → IsFoundAt meta segments place found → found.bytes ≡ chunk_bytes segments place
found_bytes segments place meta found (samples, stored, spans_are, time, bytes) = bytes
