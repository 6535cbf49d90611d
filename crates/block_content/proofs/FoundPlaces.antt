-- What is kept of places is found there, and what is read at a place is found.
use Rattle.std.proofs.Common.{◌≡◌, ℕ, ◌^◌, ◌<◌, List, length, true, cond, Option, None, Some, Result, Ok, Err, refl, sym, ap, subst, ◌∙◌, arith, ◌⊎◌, inl, inr}
use Rattle.std.specs.Prelude.{IfErr, IsErrAnd}
use Rattle.std.specs.BTreeMap.{get}
use Rattle.std.specs.Ordering.{is_eq, nat_cmp}
use Rattle.std.proofs.lemmas.Bool.{cases_Bool}
use Rattle.base.specs.Reading.{◌>>=◌, refused_as}
use Rattle.base.proofs.Binds.{ok_is, err_is}
use Rattle.base.proofs.Bools.{same-from_is_eq}
use Rattle.base.proofs.FirstLaws.{some_is}
use Rattle.label_sets.specs.declared.sample.Sample.{Sample}
use Rattle.xor_chunks.specs.Data.{data_at}
use Rattle.xor_chunks.specs.declared.refusal.XorRefusal.{XorRefusal}
use Rattle.xor_chunks.specs.declared.refusal.XorRefusal.TheVariants as xor
use Rattle.xor_chunks.specs.declared.spanning.SampleSpan.{SampleSpan}
use Rattle.xor_chunks.specs.Grammar.{IsText}
use Rattle.xor_chunks.specs.Spans as spans
use Rattle.xor_chunks.proofs.TextsRead.{data_again}
use Rattle.chunk_files.specs.declared.refusal.ChunkRefusal.{ChunkRefusal}
use Rattle.index_parts.specs.declared.chunk_place.ChunkPlace.{ChunkPlace}
use Rattle.block_meta.specs.declared.meta.Meta.{Meta}
use Rattle.block_content.specs.ContentReading.{data_of, bytes_in, chunk_bytes, first_time}
use Rattle.block_content.specs.StoredPlaces.{place_number, stored_at, lies_within, IsFoundAt, Finds, AreFound, IsKept}
use Rattle.block_content.specs.declared.chunk_cause.ChunkCause.{ChunkCause}
use Rattle.block_content.specs.declared.chunk_cause.ChunkCause.TheVariants.{File, Data}
use Rattle.block_content.specs.declared.places.Found.{Found}
use Rattle.block_content.specs.declared.places.Places.{Places}
use Rattle.block_content.proofs.Appending.{none_outside}

-- ---- one place

same_segment : (p q : ChunkPlace) → p.offset < 2 ^ 32 → q.offset < 2 ^ 32 → place_number p ≡ place_number q → p.segment ≡ q.segment
same_segment p q small small' same = omega (arith, small, small', same)

same_offset : (p q : ChunkPlace) → p.segment ≡ q.segment → place_number p ≡ place_number q → p.offset ≡ q.offset
same_offset p q segment same = omega (arith, segment, same)

same_stored : (segments : List (List ℕ)) (p q : ChunkPlace) → p.segment ≡ q.segment → p.offset ≡ q.offset → stored_at segments p ≡ stored_at segments q
unfolding stored_at
same_stored segments p q segment offset = rw (segment, offset) refl

same_bytes : (segments : List (List ℕ)) (p q : ChunkPlace) → p.segment ≡ q.segment → p.offset ≡ q.offset → chunk_bytes segments p ≡ chunk_bytes segments q
same_bytes segments p q segment offset = rw (segment, offset) refl

same_found : (meta : Meta) (segments : List (List ℕ)) (p q : ChunkPlace) (found : Found) → p.offset < 2 ^ 32 → q.offset < 2 ^ 32 → place_number p ≡ place_number q → IsFoundAt meta segments p found → IsFoundAt meta segments q found
same_found meta segments p q found small small' same (samples, stored, span, time, bytes) =
    let segment = same_segment p q small small' same in
    let offset = same_offset p q segment same in
    (samples, sym (same_stored segments p q segment offset) ∙ stored, span, time, bytes ∙ same_bytes segments p q segment offset)

-- ---- what is kept

pub one_kept : (meta : Meta) (segments : List (List ℕ)) (old new : Places) (place : ChunkPlace) (found : Found) → AreFound meta segments old → place.offset < 2 ^ 32 → IsFoundAt meta segments place found → IsKept old new place found → AreFound meta segments new
one_kept meta segments old new place found are small is kept other one small' has = elim (cases_Bool (is_eq (nat_cmp (place_number place) (place_number other)))) [
  | inl same ↦
      let here : get nat_cmp new.found (place_number other) ≡ Some found = kept (place_number other) ∙ ap (λ b. cond b (Some found) (get nat_cmp old.found (place_number other))) same in
      let told : found ≡ one = some_is found one (sym here ∙ has) in
      subst (IsFoundAt meta segments other) told (same_found meta segments place other found small small' (same-from_is_eq (place_number place) (place_number other) same) is)
  | inr apart ↦
      are other one small' (sym (kept (place_number other) ∙ ap (λ b. cond b (Some found) (get nat_cmp old.found (place_number other))) apart) ∙ has)
]

-- ---- what is read

pub stops : (meta : Meta) (segments : List (List ℕ)) (place : ChunkPlace) (r : Result Found ChunkCause) (e : ChunkCause) → IsErrAnd r (λ d. d ≡ e) → (e ≡ Data xor.NoMemory) ⊎ (stored_at segments place ≡ Err e) → Finds meta segments place r
stops meta segments place (Ok x) e is why = absurd is
stops meta segments place (Err d) e is why = subst (λ (c : ChunkCause). (c ≡ Data xor.NoMemory) ⊎ (stored_at segments place ≡ Err c)) (sym is) why

read_refused : (read : Result (List Sample) XorRefusal) (d : XorRefusal) → (read >>= λ samples. Ok (spans.span_of samples)) ≡ Err d → read ≡ Err d
read_refused (Ok x) d e = absurd cc
read_refused (Err c) d e = cc

module _ (segments : List (List ℕ)) (place : ChunkPlace) where
  pub no_data : (d : ChunkRefusal) → data_of segments place ≡ Err d → stored_at segments place ≡ Err (File d)
  unfolding stored_at
  no_data d e = rw e refl

  module _ (content : List ℕ) (stands : data_of segments place ≡ Ok content) where
    behind : stored_at segments place ≡ refused_as Data (data_at 8 content)
    unfolding stored_at
    behind = rw stands refl

    pub no_samples : (d : XorRefusal) → spans.span_at 8 content ≡ Err d → stored_at segments place ≡ Err (Data d)
    no_samples d e = behind ∙ ap (refused_as Data) (read_refused (data_at 8 content) d e)

    pub found_there : (meta : Meta) (found : Found) (told : (samples : List Sample) × IsText 8 content samples × (found.span ≡ spans.span_of samples)) → ((samples : List Sample) → IsText 8 content samples → found.outside ≡ first_time meta samples) → found.bytes ≡ length content → IsFoundAt meta segments place found
    found_there meta found (samples, is, span) time long = (samples, behind ∙ ap (refused_as Data) (data_again 8 content samples is), span, time samples is, long ∙ sym (ap bytes_in stands))

-- samples of one data are the same
pub one_text : (content : List ℕ) (samples others : List Sample) → IsText 8 content samples → IsText 8 content others → samples ≡ others
one_text content samples others is are = ok_is {E = XorRefusal} _ _ (sym (data_again 8 content samples is) ∙ data_again 8 content others are)

-- what was read before is refused for want of memory alone
pub only_memory : {X : Type 0} (r : Result X ChunkCause) (d : XorRefusal) (samples : List Sample) → IsErrAnd r (λ e. e ≡ Data d) → (◌≡◌ {A = Result (List Sample) XorRefusal} (Err d) (Ok samples)) ⊎ (◌≡◌ {A = Result (List Sample) XorRefusal} (Err d) (Err xor.NoMemory)) → IfErr r (λ cause. cause ≡ Data xor.NoMemory)
only_memory (Ok x) d samples is why = tt
only_memory (Err e) d samples is (inl read) = absurd cc
only_memory (Err e) d samples is (inr none) = is ∙ ap (λ (x : XorRefusal). Data x) (err_is {A = List Sample} d xor.NoMemory none)

-- no sample is outside where there is none, or where their span is within the block's times
pub all_within : (meta : Meta) (content : List ℕ) (span : Option SampleSpan) (told : (samples : List Sample) × IsText 8 content samples × (span ≡ spans.span_of samples)) → ((one : SampleSpan) → span ≡ Some one → lies_within meta one ≡ true) → (samples : List Sample) → IsText 8 content samples → None ≡ first_time meta samples
all_within meta content span (others, are, told) lies samples is = sym (none_outside meta content samples span is (told ∙ ap spans.span_of (one_text content others samples are is)) lies)
