-- What the end of a check says of a block that was loaded.
use Rattle.std.proofs.Common.{◌≡◌, ℕ, Result, Ok, Err, false, List, length, refl, sym, ap, subst, ◌∙◌, ◌⊎◌, inl, inr}
use Rattle.std.specs.Prelude.{IfOk, IfErr}
use Rattle.std.specs.Result.{IsOkAnd}
use Rattle.std.proofs.lemmas.Result.{IfOk-weaker}
use Rattle.base.proofs.Binds.{err_is}
use Rattle.label_sets.specs.declared.series.Series.{Series}
use Rattle.label_sets.specs.Counts.{sample_count}
use Rattle.block_meta.specs.declared.block_files.BlockFiles.{BlockFiles}
use Rattle.block_content.specs.Checked.{checked_files, checked_series, checked_samples}
use Rattle.block_content.specs.Checking.{Passes, HasPassed, RefusesBlock}
use Rattle.block_content.specs.Verdict.{IsVerdict}
use Rattle.block_content.specs.declared.checked.Checked.{Checked}
use Rattle.block_content.specs.declared.check_refusal.CheckRefusal.{CheckRefusal}
use Rattle.bucket_core.specs.Contents.{Contents}
use Rattle.bucket_core.specs.Told.{ShelfTold}
use Rattle.block_loading.specs.Loading.{IsLoaded, RefusesOnShelf}
use Rattle.block_loading.specs.LoadReading.{IfRefused, KeepsShelf, WasBrokenOff, was_fault, refused_block}
use Rattle.block_loading.specs.LoadedChecks.{EndsCheck, end_of}
use Rattle.block_loading.specs.declared.load_refusal.LoadRefusal.{LoadRefusal}
use Rattle.block_loading.specs.declared.load_refusal.LoadRefusal.TheVariants.{Refused}
use Rattle.block_loading.proofs.Calls.{check_passes, check_refused, check_refuses, had_memory, not_refused}
use Rattle.block_loading.proofs.Kept.{kept_as}
use Rattle.block_loading.proofs.Stopped.{block_calm, check_said}

-- what holds of what passed holds of the end
end_ok : (P : Checked → Type 0) (v : Result Checked CheckRefusal) → IfOk v P → IfOk (end_of v) P
end_ok P (Ok checked) h = h
end_ok P (Err refusal) h = tt

module _ (ulid : ℕ) (files : BlockFiles) where
  ended_ok : (P : Checked → Type 0) → ((checked : Checked) → checked_files checked ≡ files → HasPassed ulid files (checked_series checked) (checked_samples checked) → P checked) → (r : Result Checked LoadRefusal) → EndsCheck ulid files r → IfOk r P
  ended_ok P leads r (v, is, told) = subst (λ (e : Result Checked LoadRefusal). IfOk e P) (sym told) (end_ok P v (IfOk-weaker v _ P (λ checked h. leads checked h.0 h.1) is.found))

  pub ended_passed : (r : Result Checked LoadRefusal) → EndsCheck ulid files r → IfOk r (λ checked. HasPassed ulid (checked_files checked) (checked_series checked) (checked_samples checked))
  ended_passed r ends = ended_ok (λ checked. HasPassed ulid (checked_files checked) (checked_series checked) (checked_samples checked))
      (λ checked same passed. subst (λ (f : BlockFiles). HasPassed ulid f (checked_series checked) (checked_samples checked)) (sym same) passed) r ends

  -- what holds of these files holds of those that pass
  pub ended_as : (P : BlockFiles → Type 0) → P files → (r : Result Checked LoadRefusal) → EndsCheck ulid files r → IfOk r (λ checked. P (checked_files checked))
  ended_as P holds r ends = ended_ok (λ checked. P (checked_files checked)) (λ checked same passed. subst P (sym same) holds) r ends

  pub ended_segments : (r : Result Checked LoadRefusal) → EndsCheck ulid files r → IfOk r (λ checked. (checked_files checked).segments ≡ files.segments)
  ended_segments r ends = ended_ok (λ checked. (checked_files checked).segments ≡ files.segments) (λ checked same passed. ap (λ (f : BlockFiles). f.segments) same) r ends

  passes_of : (list : List Series) (v : Result Checked CheckRefusal) → IsVerdict ulid files v → Passes ulid files list
      → IsOkAnd (end_of v) (λ checked. (checked_files checked ≡ files) × (checked_series checked ≡ length list) × (checked_samples checked ≡ sample_count list)) ⊎ WasBrokenOff (end_of v)
  passes_of list (Ok checked) is passes = inl (had_memory checked (is.passes list passes))
  passes_of list (Err refusal) is passes = inr (check_passes refusal (refused_block refusal) (is.passes list passes) refl)

  -- files that pass are answered with their counts
  pub ended_passes : (list : List Series) (r : Result Checked LoadRefusal) → EndsCheck ulid files r → Passes ulid files list
      → IsOkAnd r (λ checked. (checked_files checked ≡ files) × (checked_series checked ≡ length list) × (checked_samples checked ≡ sample_count list)) ⊎ WasBrokenOff r
  ended_passes list r (v, is, told) passes =
      subst (λ (e : Result Checked LoadRefusal). IsOkAnd e (λ checked. (checked_files checked ≡ files) × (checked_series checked ≡ length list) × (checked_samples checked ≡ sample_count list)) ⊎ WasBrokenOff e) (sym told) (passes_of list v is passes)

  refuses_of : (refusal : CheckRefusal) (v : Result Checked CheckRefusal) → IsVerdict ulid files v → RefusesBlock ulid files refusal → (end_of v ≡ Err (Refused refusal)) ⊎ WasBrokenOff (end_of v)
  refuses_of refusal (Ok checked) is refuses = absurd (not_refused checked refusal (is.refuses refusal refuses))
  refuses_of refusal (Err e) is refuses = check_refuses ulid files e refusal (refused_block e) refuses (is.refuses refusal refuses) refl

  -- files that do not pass are refused
  pub ended_refuses : (refusal : CheckRefusal) (r : Result Checked LoadRefusal) → EndsCheck ulid files r → RefusesBlock ulid files refusal → (r ≡ Err (Refused refusal)) ⊎ WasBrokenOff r
  ended_refuses refusal r (v, is, told) refuses =
      subst (λ (e : Result Checked LoadRefusal). (e ≡ Err (Refused refusal)) ⊎ WasBrokenOff e) (sym told) (refuses_of refusal v is refuses)

  said_of : (Says : CheckRefusal → Type 0) (v : Result Checked CheckRefusal) → IsVerdict ulid files v → ((refusal : CheckRefusal) → RefusesBlock ulid files refusal → Says refusal) → IfErr (end_of v) (IfRefused Says)
  said_of Says (Ok checked) is leads = tt
  said_of Says (Err e) is leads = check_said Says ulid files e (refused_block e) is.refused refl (leads e)

  -- what is said of a refusal, if the check refused them
  pub ended_said : (Says : CheckRefusal → Type 0) (r : Result Checked LoadRefusal) → EndsCheck ulid files r → ((refusal : CheckRefusal) → RefusesBlock ulid files refusal → Says refusal) → IfErr r (IfRefused Says)
  ended_said Says r (v, is, told) leads = subst (λ (e : Result Checked LoadRefusal). IfErr e (IfRefused Says)) (sym told) (said_of Says v is leads)

  calm_of : (v : Result Checked CheckRefusal) → was_fault (end_of v) ≡ false
  calm_of (Ok checked) = refl
  calm_of (Err refusal) = block_calm refusal

  -- a check asks no shelf
  pub ended_calm : (r : Result Checked LoadRefusal) → EndsCheck ulid files r → was_fault r ≡ false
  ended_calm r (v, is, told) = ap (λ (e : Result Checked LoadRefusal). was_fault e) told ∙ calm_of v

-- a refusal of the check is one of the block on the shelf
pub ended_refused : (told : Contents) (ulid : ℕ) (files : BlockFiles) → IsLoaded told ulid files → (refusal : CheckRefusal) (r : Result Checked LoadRefusal) → EndsCheck ulid files r → r ≡ Err (Refused refusal) → RefusesOnShelf told ulid refusal
ended_refused told ulid files loaded refusal r (Ok checked, is, ends) same = absurd cc
ended_refused told ulid files loaded refusal r (Err e, is, ends) same =
    check_refused told ulid files loaded e (refused_block e) refusal is.refused refl (err_is {A = Checked} (refused_block e) (Refused refusal) (sym ends ∙ same))

-- the ULID under which it was loaded is the one that was asked for
pub ended_moved : (own ulid : ℕ) (files : BlockFiles) (r : Result Checked LoadRefusal) → own ≡ ulid → EndsCheck own files r → EndsCheck ulid files r
ended_moved own ulid files r same ends = subst (λ (n : ℕ). EndsCheck n files r) same ends

-- the check leaves the shelf as the load did
pub checked_here : {S : Type 0} (tells : S → ShelfTold) (old new : S) (ulid : ℕ) (files : BlockFiles) (r : Result Checked LoadRefusal) → EndsCheck ulid files r → KeepsShelf tells old new false → KeepsShelf tells old new (was_fault r)
checked_here tells old new ulid files r ends kept = kept_as tells old new false (was_fault r) (sym (ended_calm ulid files r ends)) kept
