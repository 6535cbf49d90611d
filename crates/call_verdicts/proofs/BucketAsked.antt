-- What a call asked of its bucket, from its opening outwards to the whole call.
use Rattle.std.proofs.Common.{◌≡◌, ◌≢◌, inl, inr, List, [], ◌∷◌, ◌++◌, refl, sym, ◌∙◌, ap, subst, append-nil}
use Rattle.std.specs.Prelude.{Option, Some, None, IfSome, Result, Ok, Err, IfErr}
use Rattle.bucket_core.specs.Asking.{Asks, AsksOnce, Call}
use Rattle.bucket_core.specs.Told.{BucketTold}
use Rattle.bucket_core.specs.declared.site_refusal.SiteRefusal.{SiteRefusal}
use Rattle.bucket_core.specs.declared.site_refusal.SiteRefusal.TheVariants as site
use Rattle.world_core.proofs.Asking.{asks_none}
use Rattle.world_core.specs.Asking.{calls_of, opening, IsAllAsked}
use Rattle.world_core.specs.Worlds.{WorldView}
use Rattle.world_core.specs.declared.entry.Entry.{Entry}
use Rattle.world_core.specs.declared.world.OpenRefusal.{OpenRefusal}
use Rattle.world_core.specs.declared.world.OpenRefusal.TheVariants as unopened
use Rattle.call_verdicts.specs.Asked.{IsAskedBy, IsBucketAsked, WasAsked, WasOnlyOpened, calls_asked}
use Rattle.call_verdicts.specs.declared.verdict.Verdict.{Verdict}
use Rattle.call_verdicts.specs.declared.verdict.Verdict.TheVariants.{WordsRefused, SourceFault, ScriptRefused, SiteFault, NotEmpty, Full, Report, Checked, NoMemory}
use Rattle.call_verdicts.proofs.HandedBack.{if_map}
use Rattle.call_verdicts.proofs.Unfailed.{if_some}

module _ {B : Type 0} (tells : B → BucketTold) where
  pub just_handed : (store : B) → IfSome (tells store).asked (λ before. before ≡ []) → WasAsked (calls_asked tells) [] store
  just_handed store fresh = (store, fresh, asks_none tells store)

  -- a bucket that was asked for nothing, and then for these
  pub asked_first : (old new : B) (since : List Call) → WasAsked (calls_asked tells) [] old → Asks (tells old).asked (tells new).asked since → WasAsked (calls_asked tells) since new
  asked_first old new since (opened, fresh, first) more = (
    opened,
    fresh,
    if_map (tells opened).asked (λ (before : List Call). (tells old).asked ≡ Some (before ++ [])) (λ (before : List Call). (tells new).asked ≡ Some (before ++ since))
        (λ before is. if_some (tells old).asked (before ++ []) (λ (b : List Call). (tells new).asked ≡ Some (b ++ since)) is more ∙ ap (λ (b : List Call). Some (b ++ since)) (append-nil before)) first,
  )

  -- a world that was opened, and then worked on
  pub run_asked : (old new : WorldView B) → old.journal ≡ [] → WasAsked (calls_asked tells) (opening ∷ []) old.bucket → ((before : List Call) → IsAllAsked tells before old → IsAllAsked tells before new) → WasAsked (calls_asked tells) (opening ∷ calls_of new.journal) new.bucket
  run_asked old new none (opened, fresh, first) all = (
    opened,
    fresh,
    if_map (tells opened).asked (λ (before : List Call). (tells old.bucket).asked ≡ Some (before ++ opening ∷ [])) (λ (before : List Call). (tells new.bucket).asked ≡ Some (before ++ opening ∷ calls_of new.journal))
        (λ before is. all before (is ∙ ap (λ (entries : List Entry). Some (before ++ opening ∷ calls_of entries)) (sym none))) first,
  )

  -- ---- verdicts

  asked_so : (v : Verdict) (entries : List Entry) (store : B) → WasAsked (calls_asked tells) (opening ∷ calls_of entries) store → IsAskedBy tells v entries store
  asked_so WordsRefused entries store was = was
  asked_so SourceFault entries store was = was
  asked_so (ScriptRefused refusal) entries store was = was
  asked_so SiteFault entries store was = inr was
  asked_so (NotEmpty name) entries store was = was
  asked_so (Full lines) entries store was = was
  asked_so (Report lines as_asked) entries store was = was
  asked_so (Checked block outcome) entries store was = was
  asked_so NoMemory entries store was = was

  asked_back : (v : Verdict) (journal : Option (List Entry)) (back : Option B) (entries : List Entry) (store : B) → journal ≡ Some entries → back ≡ Some store → IsAskedBy tells v entries store → IsBucketAsked tells v journal back
  asked_back v journal back entries store kept handed was =
      subst (λ (j : Option (List Entry)). IsBucketAsked tells v j back) (sym kept) (subst (λ (b : Option B). IsBucketAsked tells v (Some entries) b) (sym handed) was)

  -- no bucket was handed out
  pub none_asked : (v : Verdict) (journal : Option (List Entry)) (back : Option B) → journal ≡ None → IsBucketAsked tells v journal back
  none_asked v journal back none = subst (λ (j : Option (List Entry)). IsBucketAsked tells v j back) (sym none) tt

  -- the shelf was not opened
  pub unshelved_asked : (store : B) (refusal : SiteRefusal) (v : Verdict) (journal : Option (List Entry)) (back : Option B) → journal ≡ Some [] → back ≡ Some store → (refusal ≡ site.Failed → v ≡ SiteFault) → (refusal ≡ site.NoMemory → v ≡ NoMemory)
      → WasAsked (calls_asked tells) [] store → v ≢ NoMemory → IsBucketAsked tells v journal back
  unshelved_asked store site.Failed v journal back kept handed failed short was never =
      subst (λ (x : Verdict). IsBucketAsked tells x journal back) (sym (failed refl)) (asked_back SiteFault journal back [] store kept handed (inl was))
  unshelved_asked store site.NoMemory v journal back kept handed failed short was never = absurd (never (short refl))

  -- the world was not opened
  pub unopened_asked : (old store : B) (refusal : OpenRefusal) (v : Verdict) (journal : Option (List Entry)) (back : Option B) (empty : List Entry) → journal ≡ Some empty → empty ≡ [] → back ≡ Some store → (refusal ≡ unopened.NoMemory → v ≡ NoMemory)
      → AsksOnce (tells old).asked (tells store).asked opening refusal unopened.NoMemory → WasAsked (calls_asked tells) [] old → v ≢ NoMemory → IsBucketAsked tells v journal back
  unopened_asked old store refusal v journal back empty kept none handed short asks was never =
      let since : Asks (tells old).asked (tells store).asked (opening ∷ []) = elim asks [ inl noted ↦ noted | inr unnoted ↦ absurd (never (short unnoted.1)) ] in
      asked_back v journal back empty store kept handed
      (asked_so v empty store (subst (λ (entries : List Entry). WasAsked (calls_asked tells) (opening ∷ calls_of entries) store) (sym none) (asked_first old store (opening ∷ []) was since)))

  -- ---- a bucket that was opened at most

  -- the world was not opened
  pub only_opened : {A : Type 0} (old store : B) (answer no_memory : A) → AsksOnce (tells old).asked (tells store).asked opening answer no_memory → WasAsked (calls_asked tells) [] old → WasOnlyOpened tells store
  only_opened old store answer no_memory (inl noted) was = inr (asked_first old store (opening ∷ []) was noted)
  only_opened old store answer no_memory (inr unnoted) was =
      let nothing : Asks (tells old).asked (tells store).asked [] = subst (λ (told : Option (List Call)). IfSome (tells old).asked (λ before. told ≡ Some (before ++ []))) (sym unnoted.0) (asks_none tells old) in inl (asked_first old store [] was nothing)

  pub back_opened : (back : Option B) (store : B) → back ≡ Some store → WasOnlyOpened tells store → IfSome back (WasOnlyOpened tells)
  back_opened back store handed opened = subst (λ (o : Option B). IfSome o (WasOnlyOpened tells)) (sym handed) opened

  pub none_opened : (back : Option B) → back ≡ None → IfSome back (WasOnlyOpened tells)
  none_opened back none = subst (λ (o : Option B). IfSome o (WasOnlyOpened tells)) (sym none) tt

  -- a run over the world
  pub ended_asked : (old new : WorldView B) (v : Verdict) (journal : Option (List Entry)) (back : Option B) → old.journal ≡ [] → WasAsked (calls_asked tells) (opening ∷ []) old.bucket → ((before : List Call) → IsAllAsked tells before old → IsAllAsked tells before new)
      → journal ≡ Some new.journal → back ≡ Some new.bucket → IsBucketAsked tells v journal back
  ended_asked old new v journal back none was all kept handed = asked_back v journal back new.journal new.bucket kept handed (asked_so v new.journal new.bucket (run_asked old new none was all))

-- ---- what holds of an opening

pub err_map : {X E : Type 0} (r : Result X E) (P Q : E → Type 0) → ((e : E) → P e → Q e) → IfErr r P → IfErr r Q
err_map (Ok x) P Q f holds = tt
err_map (Err e) P Q f holds = f e holds
