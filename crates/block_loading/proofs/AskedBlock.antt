-- Which files of a block a load asked for, as it goes on or stops.
use Rattle.std.proofs.Common.{◌≡◌, ℕ, zero, suc, ◌+◌, ◌<◌, List, [], ◌∷◌, length, true, false, Some, Result, Ok, Err, refl, sym, ap, subst, ◌∙◌, ◌⊎◌, inl, inr, arith}
use Rattle.std.specs.Prelude.{◌≤◌, IsTrue, IfOk, IfErr, IsErrAnd}
use Rattle.base.proofs.Binds.{ok_is}
use Rattle.block_keys.specs.declared.key.Key.TheVariants.{Meta, Index, Segment}
use Rattle.block_keys.specs.KeyText.{key_text}
use Rattle.block_meta.specs.MetaFields.{MetaFields}
use Rattle.index_parts.specs.declared.index_series.IndexSeries.{IndexSeries}
use Rattle.bucket_core.specs.Contents.{Contents}
use Rattle.bucket_core.specs.Asking.{Asks}
use Rattle.bucket_core.specs.Told.{ShelfTold}
use Rattle.block_loading.specs.Loading.{HasSegments, last_segment, ReachesSegment, Reaches, StopsAt, key_after, names_after}
use Rattle.block_loading.specs.LoadReading.{IsBrokenOff, WasBrokenOff, IfRefused, AsksFile, AsksInOrder, AsksSegments, was_fault, meta_at, index_in}
use Rattle.block_loading.specs.declared.load_refusal.LoadRefusal.{LoadRefusal}
use Rattle.block_loading.specs.declared.load_refusal.LoadRefusal.TheVariants.{NoMemory}
use Rattle.block_content.specs.declared.check_refusal.CheckRefusal.{CheckRefusal}
use Rattle.block_loading.proofs.LoadLaws.{meta_found, meta_again, index_found, index_again}
use Rattle.block_loading.proofs.Calls.{answered, passed_on}
use Rattle.block_loading.proofs.Asked.{asks_first, asks_then, asks_as, names_all, segment_key}
use Rattle.block_loading.proofs.Stopped.{said_on, said_as, unsaid, fault_on, no_fault}
use Rattle.base.proofs.Binds.{err_is}

pub off_on : {X : Type 0} (r : Result X LoadRefusal) (e : LoadRefusal) → IsErrAnd r (λ d. d ≡ e) → IsBrokenOff e → WasBrokenOff r
off_on (Ok x) e is off = absurd is
off_on (Err d) e is (inl none) = inl (ap (λ (c : LoadRefusal). Err c) (is ∙ none))
off_on (Err d) e is (inr fault) = inr (ap (λ (c : LoadRefusal). Err c) (is ∙ fault))

pub no_value : {X : Type 0} (P : X → Type 0) (r : Result X LoadRefusal) (e : LoadRefusal) → IsErrAnd r (λ d. d ≡ e) → IfOk r P
no_value P (Ok x) e is = absurd is
no_value P (Err d) e is = tt

-- what was read is not refused
pub off_or : {A : Type 0} (e : LoadRefusal) (read : Result A LoadRefusal) (x : A) → IsBrokenOff e ⊎ (read ≡ Err e) → read ≡ Ok x → IsBrokenOff e
off_or e read x (inl off) is = off
off_or e read x (inr refused) is = absurd cc

-- ---- which files are reached

module _ (told : Contents) (ulid : ℕ) where
  reached_first : (place : ℕ) → place < 1 → Reaches told ulid (key_after ulid place)
  reached_first zero lt = refl
  reached_first (suc place) lt = absurd (omega (arith, lt))

  module _ (meta : MetaFields) (has : meta_at told ulid ≡ Ok meta) where
    reached_two : (place : ℕ) → place < 2 → Reaches told ulid (key_after ulid place)
    reached_two zero lt = refl
    reached_two (suc zero) lt = (refl, (meta, meta_found told ulid meta has))
    reached_two (suc (suc place)) lt = absurd (omega (arith, lt))

    module _ (index : List ℕ) (indexed : List IndexSeries) (is : index_in told ulid ≡ Ok (index, indexed)) where
      segment_reached : (place : ℕ) (before : List (List ℕ)) → place < last_segment indexed → HasSegments told ulid before → length before ≡ place → ReachesSegment told ulid (place + 1)
      segment_reached place before lt are many = record {
        meta = meta;
        meta_is = meta_found told ulid meta has;
        index = index;
        indexed = indexed;
        index_is = index_found told ulid index indexed is;
        first = omega arith;
        named = omega (arith, lt);
        before = before;
        before_are = are;
        all_before = ap (λ (n : ℕ). n + 1) many;
      }

      reached_all : (count last : ℕ) → last ≡ last_segment indexed → count ≤ last → ((place : ℕ) → place < count → (before : List (List ℕ)) × HasSegments told ulid before × (length before ≡ place)) → (place : ℕ) → place < 2 + count → Reaches told ulid (key_after ulid place)
      reached_all count last counted le stand zero lt = refl
      reached_all count last counted le stand (suc zero) lt = (refl, (meta, meta_found told ulid meta has))
      reached_all count last counted le stand (suc (suc place)) lt =
          let within : place < count = omega (arith, lt) in
          let there = stand place within in
          (refl, segment_reached place there.0 (omega (arith, within, le, counted)) there.1 there.2)

      -- a segment that is reached is named, and those before it stand
      segment_named : (number : ℕ) → ReachesSegment told ulid (number + 1) → (number < last_segment indexed) × ((before : List (List ℕ)) × HasSegments told ulid before × (length before ≡ number))
      segment_named number reached =
          let same : ◌≡◌ {A = List ℕ × List IndexSeries} (reached.index, reached.indexed) (index, indexed) = ok_is {E = LoadRefusal} (reached.index, reached.indexed) (index, indexed) (sym (index_again told ulid reached.index reached.indexed reached.index_is) ∙ is) in
          let list : last_segment reached.indexed ≡ last_segment indexed = ap (λ (p : List ℕ × List IndexSeries). last_segment p.1) same in
          let named = reached.named in
          let many = reached.all_before in
          (omega (arith, named, list), (reached.before, reached.before_are, omega (arith, many)))

-- ---- what a load asked for

module _ {S X : Type 0} (tells : S → ShelfTold) (segments : X → List (List ℕ)) (ulid : ℕ) (r : Result X LoadRefusal) where
  -- it stopped at the meta
  pub asked_meta : {Y : Type 0} (old new : S) (e : LoadRefusal) → IsErrAnd r (λ d. d ≡ e) → AsksFile {X = Y} tells old new (Meta ulid) (Err e) → ((told : Contents) → (tells old).files ≡ Some told → IsBrokenOff e ⊎ (meta_at told ulid ≡ Err e)) → IfRefused (StopsAt ulid 1) e
      → AsksInOrder tells old new ulid (StopsAt ulid) segments r
  unfolding names_after
  asked_meta old new e is (inl asks) read said = record {
    count = 1;
    names = asks;
    reached = λ told h place lt. reached_first told ulid place lt;
    all = λ told h next. off_on r e is (off_or e (meta_at told ulid) next.1.0 (read told h) (meta_again told ulid next.1.0 next.1.1));
    whole = no_value _ r e is;
    stopped = said_on (StopsAt ulid 1) r e is said;
    failed = λ fault. (0, refl, (old, asks_first tells old ulid 0, refl));
  }
  asked_meta {Y} old new e is (inr (asks, none)) read said = record {
    count = 0;
    names = asks;
    reached = λ told h place lt. absurd (omega (arith, lt));
    all = λ told h next. off_on r e is (inl cc);
    whole = no_value _ r e is;
    stopped = said_on (StopsAt ulid 0) r e is (unsaid (StopsAt ulid 0) e (err_is {A = Y} e NoMemory none));
    failed = λ fault. absurd (no_fault e (err_is {A = Y} e NoMemory none) (fault_on r e is fault));
  }

  module _ (old mid : S) (first : Asks (tells old).asked (tells mid).asked (key_text (Meta ulid) ∷ [])) (calm : (tells mid).faults ≡ (tells old).faults) (meta : MetaFields) (has : (told : Contents) → (tells old).files ≡ Some told → meta_at told ulid ≡ Ok meta) where
    -- it stopped at the index
    pub asked_index : {Y : Type 0} (new : S) (e : LoadRefusal) → IsErrAnd r (λ d. d ≡ e) → AsksFile {X = Y} tells mid new (Index ulid) (Err e) → ((told : Contents) → (tells old).files ≡ Some told → IsBrokenOff e ⊎ (index_in told ulid ≡ Err e)) → IfRefused (StopsAt ulid 2) e
        → AsksInOrder tells old new ulid (StopsAt ulid) segments r
    unfolding names_after
    asked_index new e is (inl asks) read said = record {
      count = 2;
      names = asks_then tells old mid new _ _ first asks;
      reached = λ told h place lt. reached_two told ulid meta (has told h) place lt;
      all = λ told h next. off_on r e is (off_or e (index_in told ulid) (next.1.index, next.1.indexed) (read told h) (index_again told ulid next.1.index next.1.indexed next.1.index_is));
      whole = no_value _ r e is;
      stopped = said_on (StopsAt ulid 2) r e is said;
      failed = λ fault. (1, refl, (mid, first, calm));
    }
    asked_index {Y} new e is (inr (asks, none)) read said = record {
      count = 1;
      names = asks_then tells old mid new _ _ first asks;
      reached = λ told h place lt. reached_first told ulid place lt;
      all = λ told h next. off_on r e is (inl cc);
      whole = no_value _ r e is;
      stopped = said_on (StopsAt ulid 1) r e is (unsaid (StopsAt ulid 1) e (err_is {A = Y} e NoMemory none));
      failed = λ fault. absurd (no_fault e (err_is {A = Y} e NoMemory none) (fault_on r e is fault));
    }

    -- it went on to the segments
    pub asked_segments : {Y : Type 0} (index : List ℕ) (indexed : List IndexSeries) (last : ℕ) (next new : S) (rs : Result Y LoadRefusal) → Asks (tells mid).asked (tells next).asked (key_text (Index ulid) ∷ []) → ((told : Contents) → (tells old).files ≡ Some told → index_in told ulid ≡ Ok (index, indexed)) → last ≡ last_segment indexed → (tells next).files ≡ (tells old).files → (tells next).faults ≡ (tells old).faults
        → (third : AsksSegments tells next new ulid last rs) → (WasBrokenOff rs → WasBrokenOff r) → IfOk r (λ x. 2 + third.count ≡ 2 + length (segments x)) → (IfErr rs (IfRefused (StopsAt ulid (2 + third.count))) → IfErr r (IfRefused (StopsAt ulid (2 + third.count)))) → (IsTrue (was_fault r) → IsTrue (was_fault rs)) → AsksInOrder tells old new ulid (StopsAt ulid) segments r
    unfolding names_after
    asked_segments index indexed last next new rs second is counted same still third leads whole says faulty = record {
      count = 2 + third.count;
      names = asks_as tells old new _ _ (asks_then tells old next new _ _ (asks_then tells old mid next _ _ first second) third.names) (names_all ulid third.count);
      reached = λ told h place lt. reached_all told ulid meta (has told h) index indexed (is told h) third.count last counted third.within (third.reached told (same ∙ h)) place lt;
      all = λ told h more.
          let at : Reaches told ulid (Segment ulid (third.count + 1)) = subst (Reaches told ulid) (segment_key ulid third.count) more in
          let named = segment_named told ulid meta (has told h) index indexed (is told h) third.count at.1 in
          let far = named.0 in
          elim (third.all told (same ∙ h) named.1.0 named.1.1 named.1.2) [
            | inl all ↦ absurd (omega (arith, all, far, counted))
            | inr off ↦ leads off
          ];
      whole = whole;
      stopped = says third.stopped;
      failed = λ fault.
          let one = third.failed (faulty fault) in
          let counted = one.1 in
          (2 + one.0, omega (arith, counted), (one.2.0, asks_as tells old one.2.0 _ _ (asks_then tells old next one.2.0 _ _ (asks_then tells old mid next _ _ first second) one.2.1) (names_all ulid one.0), one.2.2 ∙ still));
    }

-- ---- what is handed on

whole_as : {Y : Type 0} (others : Y → List (List ℕ)) (some : List (List ℕ)) (count : ℕ) (r : Result Y LoadRefusal) → IfOk r (λ y. others y ≡ some) → count ≡ 2 + length some → IfOk r (λ y. count ≡ 2 + length (others y))
whole_as others some count (Ok y) same whole = whole ∙ ap (λ (xs : List (List ℕ)). 2 + length xs) (sym same)
whole_as others some count (Err e) same whole = tt

module _ {S X Y : Type 0} (tells : S → ShelfTold) (some : X → List (List ℕ)) (others : Y → List (List ℕ)) (old new : S) (ulid : ℕ) (Stops Others : ℕ → CheckRefusal → Type 0) where
  pub asked_on : (r : Result Y LoadRefusal) (e : LoadRefusal) → IsErrAnd r (λ d. d ≡ e) → ((count : ℕ) (refusal : CheckRefusal) → Stops count refusal → Others count refusal) → AsksInOrder tells old new ulid Stops some (Err e) → AsksInOrder tells old new ulid Others others r
  asked_on r e is leads order = record {
    count = order.count;
    names = order.names;
    reached = order.reached;
    all = λ told h more. passed_on r e is (inr (order.all told h more));
    whole = no_value _ r e is;
    stopped = said_on (Others order.count) r e is (said_as (Stops order.count) (Others order.count) e (leads order.count) order.stopped);
    failed = λ fault. order.failed (fault_on r e is fault);
  }

  -- what was answered was not broken off
  pub asked_whole : (x : X) (r : Result Y LoadRefusal) → IfOk r (λ y. others y ≡ some x) → ((count : ℕ) → count ≡ 2 + length (some x) → IfErr r (IfRefused (Others count))) → was_fault r ≡ false → AsksInOrder tells old new ulid Stops some (Ok x) → AsksInOrder tells old new ulid Others others r
  asked_whole x r same says none order = record {
    count = order.count;
    names = order.names;
    reached = order.reached;
    all = λ told h more. absurd (answered x (inr (order.all told h more)));
    whole = whole_as others (some x) order.count r same order.whole;
    stopped = says order.count order.whole;
    failed = λ fault. let never : false ≡ true = sym none ∙ fault in absurd cc;
  }
