-- Which segments of a block were asked for, while they are read.
use Rattle.std.proofs.Common.{◌≡◌, ℕ, zero, suc, ◌+◌, ◌<◌, List, [], ◌∷◌, ◌++◌, length, take, true, false, Some, Result, Ok, Err, refl, sym, ap, subst, ◌∙◌, ◌⊎◌, inl, inr, arith}
use Rattle.std.specs.Prelude.{◌≤◌, slice_get, IfOk, IfErr, IsErrAnd}
use Rattle.std.proofs.lemmas.List.{append-nil, length-take-le}
use Rattle.std.proofs.lemmas.List.Sums.{sum_by_push, sum_by-take-le}
use Rattle.base.proofs.Lists.{slice_get-take}
use Rattle.block_keys.specs.declared.key.Key.TheVariants.{Segment}
use Rattle.block_keys.specs.KeyText.{key_text}
use Rattle.bucket_core.specs.Contents.{Contents}
use Rattle.bucket_core.specs.Asking.{Asks}
use Rattle.bucket_core.specs.Told.{ShelfTold}
use Rattle.block_loading.specs.Loading.{HasFile, HasSegments, StopsAt, names_after}
use Rattle.block_loading.specs.LoadReading.{IsBrokenOff, IfRefused, RefusesFile, AsksFile, AsksSegments, was_fault, segment_at}
use Rattle.block_loading.specs.declared.load_refusal.LoadRefusal.{LoadRefusal}
use Rattle.block_loading.specs.declared.load_refusal.LoadRefusal.TheVariants.{NoMemory}
use Rattle.block_loading.proofs.SegmentLaws.{size_of, segment_found, segments_again, segments_refuses}
use Rattle.block_loading.proofs.Asked.{asks_then, asks_as, segment_more, segment_key}
use Rattle.block_loading.proofs.Stopped.{said_on, unsaid, fault_on, no_fault, file_last}
use Rattle.base.proofs.Binds.{err_is}
use Rattle.block_loading.proofs.AskedBlock.{off_on, no_value}

-- ---- segments that stand

behind_cases : {A : Type 0} (xs : List A) (x : A) (place : ℕ) (y : A) → slice_get (xs ++ x ∷ []) place ≡ Some y → (slice_get xs place ≡ Some y) ⊎ ((place ≡ length xs) × (x ≡ y))
behind_cases [] x zero y at = inr (refl, cc)
behind_cases [] x (suc place) y at = absurd cc
behind_cases (z ∷ xs) x zero y at = inl at
behind_cases (z ∷ xs) x (suc place) y at =
    elim (behind_cases xs x place y at) [
      | inl within ↦ inl within
      | inr behind ↦ inr (ap suc behind.0, behind.1)
    ]

module _ (told : Contents) (ulid : ℕ) where
  pub stand_none : HasSegments told ulid []
  stand_none = record { files = λ place bytes at. absurd cc; together = omega arith }

  more_files : (segments : List (List ℕ)) (number : ℕ) (segment : List ℕ) → HasSegments told ulid segments → length segments ≡ number → HasFile told (Segment ulid (number + 1)) segment → (place : ℕ) (bytes : List ℕ) → slice_get (segments ++ segment ∷ []) place ≡ Some bytes → HasFile told (Segment ulid (place + 1)) bytes
  more_files segments number segment are many found place bytes at =
      elim (behind_cases segments segment place bytes at) [
        | inl within ↦ are.files place bytes within
        | inr behind ↦
            let here : number ≡ place = sym (behind.0 ∙ many) in
            subst (HasFile told (Segment ulid (place + 1))) behind.1 (subst (λ (n : ℕ). HasFile told (Segment ulid (n + 1)) segment) here found)
      ]

  pub stand_more : (segments : List (List ℕ)) (number bytes : ℕ) (segment : List ℕ) → HasSegments told ulid segments → length segments ≡ number → bytes ≡ size_of segments → segment_at told (Segment ulid (number + 1)) bytes ≡ Ok segment → HasSegments told ulid (segments ++ segment ∷ [])
  stand_more segments number bytes segment are many sized read =
      let found = segment_found told (Segment ulid (number + 1)) bytes segment read in
      record { files = more_files segments number segment are many found.0; together = omega (arith, found.1, sized, sum_by_push length segments segment) }

  pub stand_front : (segments : List (List ℕ)) (place : ℕ) → HasSegments told ulid segments → place ≤ length segments → (before : List (List ℕ)) × HasSegments told ulid before × (length before ≡ place)
  stand_front segments place are le =
      let all = are.together in
      (take place segments, record { files = λ at bytes is. are.files at bytes (slice_get-take segments place at bytes is); together = omega (arith, all, sum_by-take-le length segments place) }, length-take-le place segments le)

  -- a segment that stands is not refused
  stands : (before front : List (List ℕ)) (number bytes : ℕ) (e : LoadRefusal) → HasSegments told ulid before → length before ≡ number + 1 → HasSegments told ulid front → length front ≡ number → bytes ≡ size_of front → IsBrokenOff e ⊎ (segment_at told (Segment ulid (number + 1)) bytes ≡ Err e) → IsBrokenOff e
  stands before front number bytes e are many stood so_many sized (inl off) = off
  stands before front number bytes e are many stood so_many sized (inr refused) =
      let all = segments_again told ulid (number + 1) before are many in
      let stopped = segments_refuses told ulid (number + 1) (number + 1) front e stood (ap (λ (n : ℕ). n + 1) so_many) (omega arith) (ap (segment_at told (Segment ulid (number + 1))) (sym sized) ∙ refused) in
      let both = sym all ∙ stopped in
      absurd cc

-- ---- in the loop

module _ {S : Type 0} (tells : S → ShelfTold) (ulid : ℕ) where
  pub asked_one : (old mid new : S) (number : ℕ) → Asks (tells old).asked (tells mid).asked (names_after ulid 2 number) → Asks (tells mid).asked (tells new).asked (key_text (Segment ulid (number + 1)) ∷ []) → Asks (tells old).asked (tells new).asked (names_after ulid 2 (number + 1))
  asked_one old mid new number far asks = asks_as tells old new _ _ (asks_then tells old mid new _ _ far asks) (sym (segment_more ulid number))

  same_names : (old mid new : S) (number : ℕ) → Asks (tells old).asked (tells mid).asked (names_after ulid 2 number) → Asks (tells mid).asked (tells new).asked [] → Asks (tells old).asked (tells new).asked (names_after ulid 2 number)
  same_names old mid new number far asks = asks_as tells old new _ _ (asks_then tells old mid new _ _ far asks) (append-nil (names_after ulid 2 number))

all_whole : {X P : Type 0} (r : Result X LoadRefusal) → P → IfOk r (λ x. P)
all_whole (Ok x) p = p
all_whole (Err e) p = tt

module _ {S X : Type 0} (tells : S → ShelfTold) (ulid many : ℕ) (r : Result X LoadRefusal) (old mid : S) (number : ℕ) (front : List (List ℕ)) (far : Asks (tells old).asked (tells mid).asked (names_after ulid 2 number)) (stood : (told : Contents) → (tells old).files ≡ Some told → HasSegments told ulid front) (so_many : length front ≡ number) (bytes : ℕ) (sized : bytes ≡ size_of front) (calm : (tells mid).faults ≡ (tells old).faults) where
  module _ (lt : number < many) where
    -- the next one was not read
    pub segment_stopped : {Y : Type 0} (new : S) (e : LoadRefusal) → IsErrAnd r (λ d. d ≡ e) → AsksFile {X = Y} tells mid new (Segment ulid (number + 1)) (Err e) → ((told : Contents) → (tells old).files ≡ Some told → IsBrokenOff e ⊎ (segment_at told (Segment ulid (number + 1)) bytes ≡ Err e)) → IfRefused (RefusesFile (Segment ulid (number + 1))) e
        → AsksSegments tells old new ulid many r
    segment_stopped new e is (inl asks) read said = record {
      count = number + 1;
      names = asked_one tells ulid old mid new number far asks;
      within = omega (arith, lt);
      reached = λ told h place before. stand_front told ulid front place (stood told h) (omega (arith, before, so_many));
      all = λ told h before are full. inr (off_on r e is (stands told ulid before front number bytes e are full (stood told h) so_many sized (read told h)));
      whole = no_value _ r e is;
      stopped = said_on (StopsAt ulid (2 + (number + 1))) r e is (file_last ulid (2 + number) (2 + (number + 1)) (Segment ulid (number + 1)) (omega arith) (sym (segment_key ulid number)) e said);
      failed = λ fault. (number, refl, (mid, far, calm));
    }
    segment_stopped {Y} new e is (inr (asks, none)) read said = record {
      count = number;
      names = same_names tells ulid old mid new number far asks;
      within = omega (arith, lt);
      reached = λ told h place before. stand_front told ulid front place (stood told h) (omega (arith, before, so_many));
      all = λ told h before are full. inr (off_on r e is (inl cc));
      whole = no_value _ r e is;
      stopped = said_on (StopsAt ulid (2 + number)) r e is (unsaid (StopsAt ulid (2 + number)) e (err_is {A = Y} e NoMemory none));
      failed = λ fault. absurd (no_fault e (err_is {A = Y} e NoMemory none) (fault_on r e is fault));
    }

    -- the next one was read and not kept
    pub segment_unkept : (new : S) → IsErrAnd r (λ d. d ≡ NoMemory) → Asks (tells mid).asked (tells new).asked (key_text (Segment ulid (number + 1)) ∷ []) → AsksSegments tells old new ulid many r
    segment_unkept new is asks = record {
      count = number + 1;
      names = asked_one tells ulid old mid new number far asks;
      within = omega (arith, lt);
      reached = λ told h place before. stand_front told ulid front place (stood told h) (omega (arith, before, so_many));
      all = λ told h before are full. inr (off_on r NoMemory is (inl refl));
      whole = no_value _ r NoMemory is;
      stopped = said_on (StopsAt ulid (2 + (number + 1))) r NoMemory is tt;
      failed = λ fault. absurd (no_fault NoMemory refl (fault_on r NoMemory is fault));
    }

  -- all were read
  pub segments_ended : many ≡ number → IfErr r (IfRefused (StopsAt ulid (2 + number))) → was_fault r ≡ false → AsksSegments tells old mid ulid many r
  segments_ended end said none = record {
    count = number;
    names = far;
    within = omega (arith, end);
    reached = λ told h place before. stand_front told ulid front place (stood told h) (omega (arith, before, so_many));
    all = λ told h before are full. inl (sym end);
    whole = all_whole r (sym end);
    stopped = said;
    failed = λ fault. let never : false ≡ true = sym none ∙ fault in absurd cc;
  }
