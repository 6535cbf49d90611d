-- Samples of a chunk that are read behind others, and between which times they lie.
use Rattle.std.proofs.Common.{◌≡◌, ℕ, suc, ◌-◌, List, [], ◌∷◌, ◌++◌, length, drop, Bool, true, false, ◌&&◌, Option, None, Some, Result, Ok, Err, ℤ, ◌≤ℤ◌, refl, sym, ap, subst, ◌∙◌, arith, ◌⊎◌, inl, inr}
use Rattle.std.specs.Prelude.{slice_get, ◌<ℤ◌, int_le, int_lt, IsErrAnd}
use Rattle.std.specs.List.{AllByRecursion}
use Rattle.std.proofs.lemmas.Bool.{and_parts}
use Rattle.std.proofs.lemmas.Int.{ints}
use Rattle.base.specs.Reading.{◌>>◌, unless, Gives}
use Rattle.base.proofs.Binds.{ok_is}
use Rattle.label_sets.specs.declared.sample.Sample.{Sample}
use Rattle.label_sets.specs.Times.{times_of, is_within}
use Rattle.index_parts.specs.declared.chunk_place.ChunkPlace.{ChunkPlace}
use Rattle.block_meta.specs.declared.meta.Meta.{Meta}
use Rattle.xor_chunks.specs.declared.refusal.XorRefusal.{XorRefusal}
use Rattle.xor_chunks.specs.declared.refusal.XorRefusal.TheVariants as xor
use Rattle.xor_chunks.specs.State.{State}
use Rattle.xor_chunks.specs.Data.{data_at, with_samples}
use Rattle.xor_chunks.specs.Spans.{end_of, span_of}
use Rattle.xor_chunks.specs.declared.spanning.SampleSpan.{SampleSpan}
use Rattle.xor_chunks.specs.Grammar.{AreOthers, IsText, Follows}
use Rattle.chunk_files.specs.declared.refusal.ChunkRefusal.{ChunkRefusal}
use Rattle.block_content.specs.Content.{HaveTimesOf}
use Rattle.base.specs.Firsts.{first_at}
use Rattle.block_content.specs.ContentReading.{data_of, part_at, samples_at, chunk_at, outside_of, first_time, LieBetween}
use Rattle.block_content.specs.StoredPlaces.{lies_within}
use Rattle.block_content.specs.declared.chunk_cause.ChunkCause.{ChunkCause}
use Rattle.block_content.specs.declared.chunk_cause.ChunkCause.TheVariants.{File, Data, NoSamples, TimesDiffer}
use Rattle.base.proofs.FirstLaws.{some_is}
use Rattle.std.proofs.Math.Seq.{drop-append_seam}
use Rattle.std.proofs.lemmas.Float.{T_from_true}
use Rattle.base.specs.Firsts.{or_else}
use Rattle.block_content.proofs.CountsSoFar.{no_time, time_cons}
use Rattle.block_content.proofs.ChunksRead.{times_found}
use Rattle.base.proofs.Integers.{le_le}
use Rattle.base.proofs.Bools.{true-from_T}

-- ---- behind others

pub parts_of_whole : {E : Type 0} (front all : List Sample) (read : Result (List Sample) E) → with_samples front read ≡ Ok all → (part : List Sample) × (read ≡ Ok part) × (all ≡ front ++ part)
parts_of_whole {E} front all (Ok x) e = (x, refl, sym (ok_is {E = E} _ _ e))
parts_of_whole {E} front all (Err d) e = absurd cc

pub refused_alone : {E : Type 0} (front : List Sample) (read : Result (List Sample) E) (d : E) → with_samples front read ≡ Err d → read ≡ Err d
refused_alone front (Ok x) d e = absurd cc
refused_alone front (Err c) d e = e

pub refused_behind : {E : Type 0} (front : List Sample) (read : Result (List Sample) E) (d : E) → read ≡ Err d → with_samples front read ≡ Err d
refused_behind front read d e = rw e refl

pub refused_either : {E : Type 0} (front : List Sample) (read : Result (List Sample) E) (none d : E) → (d ≡ none) ⊎ (with_samples front read ≡ Err d) → (d ≡ none) ⊎ (read ≡ Err d)
refused_either front read none d (inl same) = inl same
refused_either front read none d (inr h) = inr (refused_alone front read d h)

-- the part behind as many
pub part_behind : (front part all seen : List Sample) (before : ℕ) → all ≡ front ++ part → before ≡ length front → seen ≡ drop before all → seen ≡ part
part_behind front part all seen before is count cut = cut ∙ ap (λ (n : ℕ). drop n all) count ∙ ap (drop (length front)) is ∙ drop-append_seam front part

-- what is read behind nothing, by a list that is lent
pub alone_read : {E : Type 0} (front all lent : List Sample) (read : Result (List Sample) E) → front ≡ [] → lent ≡ all → with_samples front read ≡ Ok all → read ≡ Ok lent
alone_read front all lent read none lends e =
    let p = parts_of_whole front all read e in
    p.1 ∙ ap (λ (xs : List Sample). Ok xs) (sym (lends ∙ p.2 ∙ ap (λ (xs : List Sample). xs ++ p.0) none))

-- each time lies between two
abbrev pub Between : ℤ → ℤ → Sample → Type 0
Between low high s = (low ≤ℤ s.time) × (s.time ≤ℤ high)

-- ---- the tests of a part

pub part_fails : (some same : Bool) (part : List Sample) (cause : ChunkCause) → (unless some NoSamples >> unless same TimesDiffer) ≡ Err cause → (unless some NoSamples >> (unless same TimesDiffer >> Ok part)) ≡ Err cause
part_fails false same part cause e = ap (λ (c : ChunkCause). Err c) (let e' : NoSamples ≡ cause = cc in e')
part_fails true false part cause e = ap (λ (c : ChunkCause). Err c) (let e' : TimesDiffer ≡ cause = cc in e')
part_fails true true part cause e = absurd cc

pub part_passes : (some same : Bool) (part : List Sample) → (unless some NoSamples >> unless same TimesDiffer) ≡ Ok tt → ((unless some NoSamples >> (unless same TimesDiffer >> Ok part)) ≡ Ok part) × (same ≡ true)
part_passes false same part e = absurd cc
part_passes true false part e = absurd cc
part_passes true true part e = (refl, refl)

module _ (place : ChunkPlace) (content : List ℕ) where
  pub data_refused : (d : XorRefusal) → data_at 8 content ≡ Err d → samples_at place content ≡ Err (Data d)
  unfolding samples_at
  data_refused d e = rw e refl

  pub part_refused : (part : List Sample) (cause : ChunkCause) → data_at 8 content ≡ Ok part → part_at place part ≡ Err cause → samples_at place content ≡ Err cause
  unfolding samples_at
  part_refused part cause read e = rw read (part_fails _ _ part cause e)

  pub part_read : (part : List Sample) → data_at 8 content ≡ Ok part → part_at place part ≡ Ok tt → (samples_at place content ≡ Ok part) × HaveTimesOf place part
  unfolding samples_at
  part_read part read e = let p = part_passes _ _ part e in (rw read p.0, times_found place part p.1)

-- ---- what the calls say

pub stops : {X : Type 0} (view : X → List Sample) (read : Result (List Sample) ChunkCause) (r : Result X ChunkCause) (e : ChunkCause) → IsErrAnd r (λ d. d ≡ e) → (e ≡ Data xor.NoMemory) ⊎ (read ≡ Err e) → Gives (Data xor.NoMemory) view r read
stops view read (Ok x) e is why = absurd is
stops view read (Err d) e is why = subst (λ (c : ChunkCause). (c ≡ Data xor.NoMemory) ⊎ (read ≡ Err c)) (sym is) why

pub data_stopped : (place : ChunkPlace) (content : List ℕ) (front : List Sample) (d : XorRefusal) (e : ChunkCause) → e ≡ Data d → (d ≡ xor.NoMemory) ⊎ (with_samples front (data_at 8 content) ≡ Err d) → (e ≡ Data xor.NoMemory) ⊎ (with_samples front (samples_at place content) ≡ Err e)
data_stopped place content front d e is (inl none) = inl (is ∙ ap (λ (x : XorRefusal). Data x) none)
data_stopped place content front d e is (inr h) =
    inr (refused_behind front (samples_at place content) e (data_refused place content d (refused_alone front (data_at 8 content) d h) ∙ ap (λ (x : ChunkCause). Err x) (sym is)))

module _ (place : ChunkPlace) (content : List ℕ) (front all seen : List Sample) (before : ℕ) (read : with_samples front (data_at 8 content) ≡ Ok all) (count : before ≡ length front) (cut : seen ≡ drop before all) where
  part_is : seen ≡ (parts_of_whole front all (data_at 8 content) read).0
  part_is = let p = parts_of_whole front all (data_at 8 content) read in part_behind front p.0 all seen before p.2 count cut

  pub test_stopped : (cause : ChunkCause) → part_at place seen ≡ Err cause → with_samples front (samples_at place content) ≡ Err cause
  test_stopped cause h =
      let p = parts_of_whole front all (data_at 8 content) read in
      refused_behind front (samples_at place content) cause (part_refused place content p.0 cause p.1 (ap (part_at place) (sym part_is) ∙ h))

  pub test_passed : part_at place seen ≡ Ok tt → (with_samples front (samples_at place content) ≡ Ok all) × HaveTimesOf place (parts_of_whole front all (data_at 8 content) read).0
  test_passed h =
      let p = parts_of_whole front all (data_at 8 content) read in
      let is = part_read place content p.0 p.1 (ap (part_at place) (sym part_is) ∙ h) in
      (ap (with_samples front) is.0 ∙ ap (λ (xs : List Sample). Ok xs) (sym p.2), is.1)

-- ---- the chunk

module _ (segments : List (List ℕ)) (place : ChunkPlace) where
  pub chunk_stops : (d : ChunkRefusal) → data_of segments place ≡ Err d → chunk_at segments place ≡ Err (File d)
  unfolding chunk_at
  chunk_stops d e = rw e refl

  pub chunk_follows : (content : List ℕ) → data_of segments place ≡ Ok content → chunk_at segments place ≡ samples_at place content
  unfolding chunk_at
  chunk_follows content e = rw e refl

-- ---- times

all_weaker : (P Q : Sample → Type 0) → ((s : Sample) → P s → Q s) → (ss : List Sample) → AllByRecursion P ss → AllByRecursion Q ss
all_weaker P Q weaker [] all = tt
all_weaker P Q weaker (s ∷ ss) all = (weaker s all.0, all_weaker P Q weaker ss all.1)

follows_later : (a b : ℤ) (delta : ℕ) → Follows a b delta → a ≤ℤ b
follows_later a b delta is = let e = is.later in omega (arith, ints, e)

others_rise : (last : State) (bits : List Bool) (others : List Sample) → AreOthers last bits others → AllByRecursion (Between last.time (end_of last.time others)) others × (last.time ≤ℤ end_of last.time others)
others_rise last bits [] are = (tt, omega (arith, ints))
others_rise last bits (s ∷ ss) (next, first, behind, text, is, same, are) =
    let deeper = others_rise next behind ss are in
    let later : last.time ≤ℤ next.time = follows_later last.time next.time next.delta is.follows in
    let time : next.time ≡ s.time = sym (ap (λ (x : Sample). x.time) same) in
    let far : s.time ≤ℤ end_of s.time ss = subst (λ (t : ℤ). t ≤ℤ end_of t ss) time deeper.1 in
    let first_later : last.time ≤ℤ s.time = subst (λ (t : ℤ). last.time ≤ℤ t) time later in
    let rest : AllByRecursion (Between s.time (end_of s.time ss)) ss = subst (λ (t : ℤ). AllByRecursion (Between t (end_of t ss)) ss) time deeper.0 in
    (((first_later, far), all_weaker (Between s.time (end_of s.time ss)) (Between last.time (end_of s.time ss)) (λ x b. (le_le last.time s.time x.time first_later b.0, b.1)) ss rest), le_le last.time s.time (end_of s.time ss) first_later far)

text_rises : (content : List ℕ) (s : Sample) (ss : List Sample) → IsText 8 content (s ∷ ss) → AllByRecursion (Between s.time (end_of s.time ss)) (s ∷ ss)
text_rises content s [] is = ((omega (arith, ints), omega (arith, ints)), tt)
text_rises content s (t ∷ ss) is =
    let second = is.samples_are.rest_are in
    let later : s.time ≤ℤ t.time = follows_later s.time t.time second.gap second.follows in
    let deeper = others_rise _ second.rest ss second.others_are in
    let far : s.time ≤ℤ end_of t.time ss = le_le s.time t.time (end_of t.time ss) later deeper.1 in
    ((omega (arith, ints), far), ((later, deeper.1), all_weaker (Between t.time (end_of t.time ss)) (Between s.time (end_of t.time ss)) (λ x b. (le_le s.time t.time x.time later b.0, b.1)) ss deeper.0))

last_time : (s : Sample) (ss : List Sample) → slice_get (times_of (s ∷ ss)) (length ss) ≡ Some (end_of s.time ss)
last_time s [] = refl
last_time s (t ∷ ss) = last_time t ss

pub text_between : (place : ChunkPlace) (content : List ℕ) (samples : List Sample) → IsText 8 content samples → HaveTimesOf place samples → LieBetween place samples
text_between place content [] is timed = tt
text_between place content (s ∷ ss) is timed =
    let count : suc (length ss) - 1 ≡ length ss = omega arith in
    let first : s.time ≡ place.min = some_is s.time place.min timed.begins in
    let last : end_of s.time ss ≡ place.max = some_is (end_of s.time ss) place.max (sym (last_time s ss) ∙ ap (slice_get (times_of (s ∷ ss))) (sym count) ∙ timed.ends) in
    subst (λ (h : ℤ). AllByRecursion (Between place.min h) (s ∷ ss)) last (subst (λ (l : ℤ). AllByRecursion (Between l (end_of s.time ss)) (s ∷ ss)) first (text_rises content s ss is))

-- ---- a span within the block's times

between_within : (meta : Meta) (low high : ℤ) (s : Sample) → (int_le meta.min_time low && int_lt high meta.max_time) ≡ true → Between low high s → is_within meta.min_time meta.max_time s ≡ true
between_within meta low high s lies is =
    let p = and_parts _ _ lies in
    let begins : meta.min_time ≤ℤ low = record { le = T_from_true _ p.0 } in
    let ends : high <ℤ meta.max_time = record { lt = T_from_true _ p.1 } in
    let from : meta.min_time ≤ℤ s.time = le_le meta.min_time low s.time begins is.0 in
    let to : s.time <ℤ meta.max_time = let q = is.1 in omega (arith, ints, q, ends) in
    let both : (a b : Bool) → a ≡ true → b ≡ true → (a && b) ≡ true = λ a b e f. rw (e, f) refl in
    both _ _ (true-from_T _ from.le) (true-from_T _ to.lt)

none_between : (meta : Meta) (low high : ℤ) (samples : List Sample) → (int_le meta.min_time low && int_lt high meta.max_time) ≡ true → AllByRecursion (Between low high) samples → first_time meta samples ≡ None
unfolding first_at
none_between meta low high [] lies all = refl
none_between meta low high (s ∷ ss) lies all =
    let one : outside_of meta s ≡ None = let w = between_within meta low high s lies all.0 in rw w refl in
    let others = none_between meta low high ss lies all.1 in
    time_cons meta s ss ∙ ap (λ (o : Option ℤ). or_else o (first_time meta ss)) one ∙ others

-- none of the samples is outside where there is none, or where their span is within
pub none_outside : (meta : Meta) (content : List ℕ) (samples : List Sample) (span : Option SampleSpan) → IsText 8 content samples → span ≡ span_of samples → ((one : SampleSpan) → span ≡ Some one → lies_within meta one ≡ true) → first_time meta samples ≡ None
none_outside meta content [] span is told lies = no_time meta
none_outside meta content (s ∷ ss) span is told lies = none_between meta s.time (end_of s.time ss) (s ∷ ss) (lies (record { count = suc (length ss); first = s.time; last = end_of s.time ss }) told) (text_rises content s ss is)

-- ---- one reading in place of another

pub moved_either : (front : List Sample) (read more : Result (List Sample) ChunkCause) (e : ChunkCause) → read ≡ more → (e ≡ Data xor.NoMemory) ⊎ (with_samples front read ≡ Err e) → (e ≡ Data xor.NoMemory) ⊎ (with_samples front more ≡ Err e)
moved_either front read more e same (inl none) = inl none
moved_either front read more e same (inr h) = inr (ap (λ (r : Result (List Sample) ChunkCause). with_samples front r) (sym same) ∙ h)
