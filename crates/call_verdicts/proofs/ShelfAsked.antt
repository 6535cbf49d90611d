-- What a call asked of its shelf, from the readings of a check outwards to the whole call.
use Rattle.std.proofs.Common.{◌≡◌, inl, inr, ℕ, ◌<◌, List, [], sym, ◌∙◌, ap, subst, arith}
use Rattle.std.specs.Prelude.{Option, Some, None, IfSome, is_some, option_map, Result}
use Rattle.bucket_core.specs.Asking.{Asks}
use Rattle.bucket_core.specs.Contents.{Contents}
use Rattle.bucket_core.specs.Told.{ShelfTold, SiteTold, next_shelf}
use Rattle.block_content.specs.declared.check_refusal.CheckRefusal.{CheckRefusal}
use Rattle.block_content.specs.declared.checked.Checked.{Checked as CheckedBlock}
use Rattle.block_loading.specs.Loading.{Reaches, key_after, names_read}
use Rattle.block_loading.specs.LoadReading.{AsksInOrder, WasBrokenOff}
use Rattle.block_loading.specs.declared.load_refusal.LoadRefusal.{LoadRefusal}
use Rattle.block_loading.proofs.Asked.{asks_none, asks_then}
use Rattle.call_verdicts.specs.CheckVerdicts.{verdict_on}
use Rattle.call_verdicts.specs.Checks.{files_held, files_in, files_of}
use Rattle.call_verdicts.specs.Kept.{IsShelfBack, told_of}
use Rattle.call_verdicts.specs.Asked.{IsBroken, IsUndecided, names_asked, WasAsked, WasAskedFor, WasChecked, WasReadFor}
use Rattle.call_verdicts.specs.Statuses.{number_of}
use Rattle.call_verdicts.specs.Verdicts.{IsSaid, Saying, status_of}
use Rattle.call_verdicts.specs.declared.status.Status.{Status}
use Rattle.call_verdicts.specs.declared.verdict.Verdict.{Verdict}
use Rattle.call_verdicts.proofs.FilesTold.{files_back}
use Rattle.call_verdicts.proofs.HandedBack.{if_map}
use Rattle.call_verdicts.proofs.Verdicts.{if_told}
use Rattle.call_verdicts.proofs.ShelfReads.{if_any}

-- ---- one shelf

module _ {F : Type 0} (tells : F → ShelfTold) where
  pub just_opened : (shelf : F) → IfSome (tells shelf).asked (λ before. before ≡ []) → WasAsked (names_asked tells) [] shelf
  just_opened shelf fresh = (shelf, fresh, asks_none tells shelf)

  asked_since : (old new : F) (names : List (List ℕ)) → WasAsked (names_asked tells) [] old → Asks (tells old).asked (tells new).asked names → WasAsked (names_asked tells) names new
  asked_since old new names (opened, fresh, first) since = (opened, fresh, asks_then tells opened old new [] names first since)

  pub checked_since : {X : Type 0} (old new : F) (ulid : ℕ) (Stops : ℕ → CheckRefusal → Type 0) (segments : X → List (List ℕ)) (result : Result X LoadRefusal) (broken : Type 0)
      → AsksInOrder tells old new ulid Stops segments result → (WasBrokenOff result → broken) → WasAsked (names_asked tells) [] old → WasChecked tells (tells old).files ulid broken new
  checked_since old new ulid Stops segments result broken a off was = record {
    count = a.count;
    names = asked_since old new (names_read ulid a.count) was a.names;
    reached = if_any (tells old).files (λ c. (place : ℕ) → place < a.count → Reaches c ulid (key_after ulid place)) a.reached;
    all = if_any (tells old).files (λ c. Reaches c ulid (key_after ulid a.count) → broken) (λ c told more. off (a.all c told more));
  }

  -- what was told before is told of the shelf
  told_before : (before told : Option Contents) (ulid : ℕ) (broken : Type 0) (shelf : F) → IfSome before (λ c. told ≡ Some c) → WasChecked tells told ulid broken shelf → WasChecked tells before ulid broken shelf
  told_before before told ulid broken shelf same was = record {
    count = was.count;
    names = was.names;
    reached = if_told (λ c. (place : ℕ) → place < was.count → Reaches c ulid (key_after ulid place)) before told same was.reached;
    all = if_told (λ c. Reaches c ulid (key_after ulid was.count) → broken) before told same was.all;
  }

  pub checked_opened : (site : SiteTold) (word : Option (List ℕ)) (shelf now : Option F) (ulid : ℕ) (broken : Type 0) (after : F) → is_some shelf ≡ is_some word → IsShelfBack (told_of (next_shelf site) word) tells shelf
      → option_map (files_held tells) now ≡ option_map (files_held tells) shelf → WasChecked tells (files_in tells shelf) ulid broken after → WasChecked tells (files_of tells site word now) ulid broken after
  checked_opened site word shelf now ulid broken after named back same was =
      told_before (files_of tells site word now) (files_in tells shelf) ulid broken after (files_back tells site word shelf now named back same) was

  broken_more : (told : Option Contents) (text : Option (List ℕ)) (block : Option ℕ) (broken other : Type 0) (shelf : F) → (broken → other) → WasAskedFor tells told text block broken shelf → WasAskedFor tells told text block other shelf
  broken_more told text None broken other shelf more was = was
  broken_more told text (Some ulid) broken other shelf more was = record {
    count = was.count;
    names = was.names;
    reached = was.reached;
    all = if_map told (λ c. Reaches c ulid (key_after ulid was.count) → broken) (λ c. Reaches c ulid (key_after ulid was.count) → other) (λ c off more_reached. more (off more_reached)) was.all;
  }

  -- ---- the shelf of a call, if there is one

  pub all_opened : (site : SiteTold) (word : Option (List ℕ)) (shelf after : Option F) (ulid : ℕ) (v verdict : Verdict) → is_some shelf ≡ is_some word → IsShelfBack (told_of (next_shelf site) word) tells shelf
      → option_map (files_held tells) after ≡ option_map (files_held tells) shelf → verdict ≡ v → IfSome after (WasChecked tells (files_in tells shelf) ulid (IsBroken v)) → IfSome after (WasChecked tells (files_of tells site word after) ulid (IsBroken verdict))
  all_opened site word shelf after ulid v verdict named back held same was =
      subst (λ (x : Verdict). IfSome after (WasChecked tells (files_of tells site word after) ulid (IsBroken x))) (sym same)
      (if_map after (WasChecked tells (files_in tells shelf) ulid (IsBroken v)) (WasChecked tells (files_of tells site word after) ulid (IsBroken v)) (λ s. checked_opened site word shelf after ulid (IsBroken v) s named back held) was)

  pub some_checked : (shelf : Option F) (s after : F) (ulid : ℕ) (broken : Type 0) → shelf ≡ Some s → (WasAsked (names_asked tells) [] s → WasChecked tells (tells s).files ulid broken after)
      → IfSome shelf (WasAsked (names_asked tells) []) → WasChecked tells (files_in tells shelf) ulid broken after
  some_checked shelf s after ulid broken is checks was =
      subst (λ (o : Option F). WasChecked tells (files_in tells o) ulid broken after) (sym is) (checks (subst (λ (o : Option F). IfSome o (WasAsked (names_asked tells) [])) is was))

  -- where the words name no block
  pub run_asked : (told : Option Contents) (text : Option (List ℕ)) (block : Option ℕ) (broken : Type 0) (shelf : Option F) → None ≡ block → IfSome shelf (WasReadFor tells text) → IfSome shelf (WasAskedFor tells told text block broken)
  run_asked told text block broken shelf none was = subst (λ (b : Option ℕ). IfSome shelf (WasAskedFor tells told text b broken)) none was

  -- where they name one
  pub check_asked : (site : SiteTold) (text word other : Option (List ℕ)) (ulid : ℕ) (block : Option ℕ) (broken : Type 0) (shelf : Option F) → word ≡ other → Some ulid ≡ block
      → IfSome shelf (WasChecked tells (files_of tells site word shelf) ulid broken) → IfSome shelf (WasAskedFor tells (files_of tells site other shelf) text block broken)
  check_asked site text word other ulid block broken shelf same is was =
      subst (λ (w : Option (List ℕ)). IfSome shelf (WasAskedFor tells (files_of tells site w shelf) text block broken)) same
      (subst (λ (b : Option ℕ). IfSome shelf (WasAskedFor tells (files_of tells site word shelf) text b broken)) is was)

-- ---- the verdict, and the status

pub broken_on : (ulid : ℕ) (result : Result CheckedBlock LoadRefusal) (v : Verdict) → v ≡ verdict_on ulid result → WasBrokenOff result → IsBroken v
broken_on ulid result v is (inl none) = inr (is ∙ ap (verdict_on ulid) none)
broken_on ulid result v is (inr fault) = inl (is ∙ ap (verdict_on ulid) fault)

not_decided : (number : ℕ) → 5 < number → IsUndecided number
not_decided number above (inl done) = absurd (omega (arith, above, done))
not_decided number above (inr failed) = absurd (omega (arith, above, failed))

broken_number : (v : Verdict) → IsBroken v → 5 < number_of (status_of v)
broken_number v (inl fault) = let n : number_of (status_of v) ≡ 9 = ap (λ (x : Verdict). number_of (status_of x)) fault in omega (arith, n)
broken_number v (inr none) = let n : number_of (status_of v) ≡ 6 = ap (λ (x : Verdict). number_of (status_of x)) none in omega (arith, n)

not_sink : (number : ℕ) → number ≡ 4 → IsUndecided number
not_sink number sink (inl done) = absurd (omega (arith, sink, done))
not_sink number sink (inr failed) = absurd (omega (arith, sink, failed))

undecided : (v : Verdict) (saying : Saying) (result : Status) → IsSaid v saying result → IsBroken v → IsUndecided (number_of result)
undecided v saying result (inl (is, added)) off = let n = ap number_of is in let m = broken_number v off in not_decided (number_of result) (omega (arith, n, m))
undecided v saying result (inr (inl (is, other, rose, part))) off = not_sink (number_of result) (ap number_of is)
undecided v saying result (inr (inr (is, mute, kept, same))) off = let n : number_of result ≡ 6 = ap number_of is in not_decided (number_of result) (omega (arith, n))

pub call_asked : {F : Type 0} (tells : F → ShelfTold) (told : Option Contents) (text : Option (List ℕ)) (block : Option ℕ) (shelf : Option F) (v : Verdict) (saying : Saying) (result : Status) → IsSaid v saying result
    → IfSome shelf (WasAskedFor tells told text block (IsBroken v)) → IfSome shelf (WasAskedFor tells told text block (IsUndecided (number_of result)))
call_asked tells told text block shelf v saying result said was =
    if_map shelf (WasAskedFor tells told text block (IsBroken v)) (WasAskedFor tells told text block (IsUndecided (number_of result)))
    (λ s one. broken_more tells told text block (IsBroken v) (IsUndecided (number_of result)) s (undecided v saying result said) one) was
