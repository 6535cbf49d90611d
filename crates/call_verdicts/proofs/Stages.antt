-- From the loading of a script's blocks to the end of their checks, and to what is kept of them.
use Rattle.std.proofs.Common.{◌≡◌, ◌≢◌, inl, inr, ℕ, zero, suc, ◌+◌, ◌<◌, ◌≤◌, true, false, List, [], ◌∷◌, ◌++◌, length, Option, None, Some, Result, Ok, Err, slice_index_or, take, drop, refl, sym, ap, ◌∙◌, subst, arith}
use Rattle.std.specs.Prelude.{IfErr, IfOk, IfSome, IsTrue}
use Rattle.std.specs.List.{AllZip}
use Rattle.block_content.specs.Checked.{checked_files, checked_samples, checked_series}
use Rattle.block_content.specs.Checking.{HasPassed}
use Rattle.block_content.specs.declared.check_refusal.CheckRefusal.{CheckRefusal}
use Rattle.block_content.specs.declared.checked.Checked.{Checked}
use Rattle.block_meta.specs.declared.block_files.BlockFiles.{BlockFiles}
use Rattle.block_loading.specs.Loading.{AreWithinLimit, IsLoaded, RefusesLoad, RefusesOnShelf}
use Rattle.block_loading.specs.LoadReading.{was_fault}
use Rattle.block_loading.specs.LoadedChecks.{EndsCheck, loaded_files, loaded_ulid}
use Rattle.block_loading.specs.declared.load_refusal.LoadRefusal.{LoadRefusal}
use Rattle.block_loading.specs.declared.load_refusal.LoadRefusal.TheVariants as load
use Rattle.block_loading.specs.declared.loaded_block.LoadedBlock.{LoadedBlock}
use Rattle.block_loading.proofs.Ended.{ended_as, ended_calm, ended_moved, ended_passed, ended_refused}
use Rattle.bucket_core.specs.Causes.{Rose}
use Rattle.bucket_core.specs.Contents.{Contents}
use Rattle.script_core.specs.declared.block.Block.{Block}
use Rattle.script_core.specs.declared.body.Body.TheVariants.{OnShelf}
use Rattle.report_lines.specs.script_running.specs.Shelves.{IsHeld, read_as}
use Rattle.report_lines.specs.script_running.specs.declared.shelf.ShelfBlock.{ShelfBlock}
use Rattle.call_verdicts.specs.ShelfReads.{IsReadBy, IsReadNext, WhyUnread}
use Rattle.call_verdicts.specs.Stages.{IsCheckedAs, IsEndOf, IsEndedFor, IsLoadOf, IsLoadedFor, IsLoadedNext, IsStageOf, stage_of}
use Rattle.call_verdicts.specs.declared.check_way.Stage.{Stage}
use Rattle.call_verdicts.specs.declared.check_way.Stage.TheVariants as stage
use Rattle.call_verdicts.specs.declared.verdict.Verdict.{Verdict}
use Rattle.call_verdicts.proofs.ShelfReads.{found_of, if_any, ok_is}
use Rattle.call_verdicts.proofs.HandedBack.{if_map}
use Rattle.call_verdicts.proofs.Unfailed.{if_some}
use Rattle.base.proofs.Pairs.{AllZip-push, AllZip-weaker}

-- ---- a block is loaded

module _ (told : Option Contents) (ulid : ℕ) where
  pub stage_loaded : (r : Result LoadedBlock LoadRefusal) → IfOk r (λ b. loaded_ulid b ≡ ulid) → IfOk r (λ b. AreWithinLimit (loaded_files b)) → ((files : Contents) → told ≡ Some files → IfOk r (λ b. IsLoaded files ulid (loaded_files b)))
      → ((files : Contents) → told ≡ Some files → (refusal : CheckRefusal) → r ≡ Err (load.Refused refusal) → RefusesLoad files ulid refusal) → IfOk (stage_of r) (IsStageOf told ulid)
  stage_loaded (Ok b) is within found refused = record { ulid_is = is; within = within; of = if_any told (λ files. IsLoaded files ulid (loaded_files b)) found }
  stage_loaded (Err (load.Refused refusal)) is within found refused = if_any told (λ files. RefusesOnShelf files ulid refusal) (λ files h. inl (refused files h refusal refl))
  stage_loaded (Err load.ShelfFault) is within found refused = tt
  stage_loaded (Err load.NoMemory) is within found refused = tt

pub why_loaded : (before after : ℕ) (r : Result LoadedBlock LoadRefusal) → (IsTrue (was_fault r) → Rose before after) → (was_fault r ≡ false → after ≡ before) → IfErr (stage_of r) (WhyUnread before after)
why_loaded before after (Ok b) rose calm = tt
why_loaded before after (Err (load.Refused refusal)) rose calm = tt
why_loaded before after (Err load.ShelfFault) rose calm = inl (refl, rose refl)
why_loaded before after (Err load.NoMemory) rose calm = inr (refl, calm refl)

pub calm_loaded : (before after : ℕ) (r : Result LoadedBlock LoadRefusal) → (was_fault r ≡ false → after ≡ before) → IfOk (stage_of r) (λ s. after ≡ before)
calm_loaded before after (Ok b) calm = calm refl
calm_loaded before after (Err (load.Refused refusal)) calm = calm refl
calm_loaded before after (Err load.ShelfFault) calm = tt
calm_loaded before after (Err load.NoMemory) calm = tt

pub next_loaded : (told : Option Contents) (block : Block) (old new : List Stage) (came : Result Stage Verdict) (one : Stage) → block.body ≡ OnShelf → came ≡ Ok one → IfOk came (IsStageOf told block.ulid) → new ≡ old ++ one ∷ [] → IsLoadedNext told block old new
next_loaded told block old new came one on is of more = (one, more, inr (on, subst (λ r. IfOk r (IsStageOf told block.ulid)) is of))

pub next_aside : (told : Option Contents) (block : Block) (old new : List Stage) → block.body ≢ OnShelf → new ≡ old ++ stage.Aside ∷ [] → IsLoadedNext told block old new
next_aside told block old new other more = (stage.Aside, more, inl (other, refl))

-- ---- lists of them

pub zip_next : (told : Option Contents) (blocks : List Block) (block : Block) (old new : List Stage) → AllZip (IsLoadedFor told) blocks old → IsLoadedNext told block old new → AllZip (IsLoadedFor told) (blocks ++ block ∷ []) new
zip_next told blocks block old new are (one, more, is) = subst (AllZip (IsLoadedFor told) (blocks ++ block ∷ [])) (sym more) (AllZip-push (IsLoadedFor told) blocks old block one are is)

zip_at : {A B : Type 0} (R : A → B → Type 0) (xs : List A) (ys : List B) (i : ℕ) (d : A) (e : B) → AllZip R xs ys → i < length xs → R (slice_index_or xs i d) (slice_index_or ys i e)
zip_at R [] ys i d e are lt = absurd (omega (arith, lt))
zip_at R (a ∷ xs) [] i d e are lt = absurd are
zip_at R (a ∷ xs) (b ∷ ys) zero d e are lt = are.0
zip_at R (a ∷ xs) (b ∷ ys) (suc i) d e are lt = zip_at R xs ys i d e are.1 (omega (arith, lt))

take_nil : {A : Type 0} (count : ℕ) → take {A = A} count [] ≡ []
take_nil zero = refl
take_nil (suc count) = refl

pub parts_joined : {A : Type 0} (xs : List A) (start count : ℕ) → take start xs ++ take count (drop start xs) ≡ take (start + count) xs
parts_joined [] zero count = ap (λ (n : ℕ). take n []) (omega arith)
parts_joined [] (suc start) count = take_nil count ∙ sym (take_nil (suc start + count))
parts_joined (x ∷ xs) zero count = ap (λ (n : ℕ). take n (x ∷ xs)) (omega arith)
parts_joined (x ∷ xs) (suc start) count =
    let same : suc (start + count) ≡ suc start + count = omega arith in
    ap (λ l. x ∷ l) (parts_joined xs start count) ∙ ap (λ (n : ℕ). take n (x ∷ xs)) same

-- ---- it is checked

module _ (told : Option Contents) (ulid : ℕ) where
  end_by : (files : BlockFiles) (end : Result Checked LoadRefusal) → AreWithinLimit files → IfSome told (λ c. IsLoaded c ulid files) → EndsCheck ulid files end → IsEndOf told ulid end
  end_by files (Ok checked) within of ends = record {
    passed = ended_passed ulid files (Ok checked) ends;
    within = ended_as ulid files AreWithinLimit within (Ok checked) ends;
    of = ended_as ulid files (λ (f : BlockFiles). IfSome told (λ c. IsLoaded c ulid f)) of (Ok checked) ends;
  }
  end_by files (Err (load.Refused refusal)) within of ends =
      if_map told (λ c. IsLoaded c ulid files) (λ c. RefusesOnShelf c ulid refusal) (λ c loaded. ended_refused c ulid files loaded refusal (Err (load.Refused refusal)) ends refl) of
  end_by files (Err load.ShelfFault) within of ends = let never : true ≡ false = ended_calm ulid files (Err load.ShelfFault) ends in absurd cc
  end_by files (Err load.NoMemory) within of ends = tt

  end_checked : (block : LoadedBlock) (end : Result Checked LoadRefusal) → IsLoadOf told ulid block → EndsCheck (loaded_ulid block) (loaded_files block) end → IsEndOf told ulid end
  end_checked block end is ends = end_by (loaded_files block) end is.within is.of (ended_moved (loaded_ulid block) ulid (loaded_files block) end is.ulid_is ends)

  -- what is known where no files are told
  end_untold : (end : Result Checked LoadRefusal) → IsEndOf told ulid end → IsEndOf None ulid end
  end_untold (Ok checked) is = record { passed = is.passed; within = is.within; of = tt }
  end_untold (Err (load.Refused refusal)) is = tt
  end_untold (Err load.ShelfFault) is = absurd is
  end_untold (Err load.NoMemory) is = tt

ended_one : (told : Option Contents) (block : Block) (old new : Stage) → IsLoadedFor told block old → IsCheckedAs old new → IsEndedFor told block new
ended_one told block stage.Aside new (inl (other, is)) checked = inl (other, checked)
ended_one told block stage.Aside new (inr (on, of)) checked = absurd of
ended_one told block (stage.Loaded loaded) (stage.Ended end) (inl (other, is)) checked = absurd (cc (is))
ended_one told block (stage.Loaded loaded) (stage.Ended end) (inr (on, of)) checked = inr (on, end, refl, end_checked told block.ulid loaded end of checked)
ended_one told block (stage.Loaded loaded) (stage.Loaded other) is checked = absurd checked
ended_one told block (stage.Loaded loaded) stage.Aside is checked = absurd checked
ended_one told block (stage.Ended end) new (inl (other, is)) checked = absurd (cc (is))
ended_one told block (stage.Ended end) new (inr (on, of)) checked = inr (on, end, checked, of)

-- all that were loaded are checked
pub all_ended : (told : Option Contents) (blocks : List Block) (old new : List Stage) → AllZip (IsLoadedFor told) blocks old → length new ≡ length old
    → ((i : ℕ) (d : Stage) → i < length old → IsCheckedAs (slice_index_or old i d) (slice_index_or new i d)) → AllZip (IsEndedFor told) blocks new
all_ended told [] [] [] are many each = tt
all_ended told [] [] (y ∷ ys) are many each = absurd (omega (arith, many))
all_ended told [] (x ∷ xs) new are many each = absurd are
all_ended told (b ∷ bs) [] new are many each = absurd are
all_ended told (b ∷ bs) (x ∷ xs) [] are many each = absurd (omega (arith, many))
all_ended told (b ∷ bs) (x ∷ xs) (y ∷ ys) are many each = (
  ended_one told b x y are.0 (each 0 x (omega arith)),
  all_ended told bs xs ys are.1 (omega (arith, many)) (λ i d lt. each (suc i) d (omega (arith, lt))),
)

untold_one : (told : Option Contents) (block : Block) (now : Stage) → IsEndedFor told block now → IsEndedFor None block now
untold_one told block now (inl aside) = inl aside
untold_one told block now (inr (on, end, is, of)) = inr (on, end, is, end_untold told block.ulid end of)

pub all_untold : (told : Option Contents) (blocks : List Block) (ends : List Stage) → AllZip (IsEndedFor told) blocks ends → AllZip (IsEndedFor None) blocks ends
all_untold told blocks ends are = AllZip-weaker (IsEndedFor told) (IsEndedFor None) (untold_one told) blocks ends are

-- what stands at a place, which did not change so far, is the end of that block's check
pub ended_at : (told : Option Contents) (blocks : List Block) (first now : List Stage) (place : ℕ) (block : Block) (own other : Stage) → AllZip (IsEndedFor told) blocks first → block ≡ slice_index_or blocks place block → own ≡ slice_index_or now place other
    → ((j : ℕ) (d : Stage) → place ≤ j → slice_index_or now j d ≡ slice_index_or first j d) → place < length blocks → IsEndedFor told block own
ended_at told blocks first now place block own other are at is same lt =
    subst (IsEndedFor told block) (sym (is ∙ same place other (omega arith)))
    (subst (λ (b : Block). IsEndedFor told b (slice_index_or first place other)) (sym at) (zip_at (IsEndedFor told) blocks first place block other are lt))

-- ---- its end is kept

end_known : (told : Option Contents) (block : Block) (now : Stage) (checked : Result Checked LoadRefusal) → now ≡ stage.Ended checked → IsEndedFor told block now → (block.body ≡ OnShelf) × IsEndOf told block.ulid checked
end_known told block now checked is (inl (other, aside)) = absurd (cc (is, aside))
end_known told block now checked is (inr (on, end, ended, of)) = (on, subst (IsEndOf told block.ulid) (cc (is, ended)) of)

passed_by : (ulid : ℕ) (checked : Result Checked LoadRefusal) → IsEndOf None ulid checked → IfOk checked (λ own. HasPassed ulid (checked_files own) (checked_series own) (checked_samples own))
passed_by ulid (Ok own) of = of.passed
passed_by ulid (Err e) of = tt

within_by : (ulid : ℕ) (checked : Result Checked LoadRefusal) → IsEndOf None ulid checked → IfOk checked (λ own. AreWithinLimit (checked_files own))
within_by ulid (Ok own) of = of.within
within_by ulid (Err e) of = tt

pub end_within : (block : Block) (now : Stage) (checked : Result Checked LoadRefusal) → now ≡ stage.Ended checked → IsEndedFor None block now → IfOk checked (λ own. AreWithinLimit (checked_files own))
end_within block now checked is ended = within_by block.ulid checked (end_known None block now checked is ended).1

no_fault : (ulid : ℕ) (checked : Result Checked LoadRefusal) → IsEndOf None ulid checked → checked ≡ Err load.ShelfFault → ⊥
no_fault ulid checked of is = subst (IsEndOf None ulid) is of

module _ (told : Option Contents) (ulid : ℕ) where
  loaded_by : (checked : Result Checked LoadRefusal) → IsEndOf told ulid checked → (files : Contents) → told ≡ Some files → IfOk checked (λ own. IsLoaded files ulid (checked_files own))
  loaded_by (Ok own) of files is = if_some told files (λ c. IsLoaded c ulid (checked_files own)) is of.of
  loaded_by (Err e) of files is = tt

  refused_by : (checked : Result Checked LoadRefusal) → IsEndOf told ulid checked → (files : Contents) → told ≡ Some files → (other : CheckRefusal) → checked ≡ Err (load.Refused other) → RefusesOnShelf files ulid other
  refused_by checked of files is other same = if_some told files (λ c. RefusesOnShelf c ulid other) is (subst (IsEndOf told ulid) same of)

pub kept_read : (told : Option Contents) (block : Block) (now : Stage) (checked : Result Checked LoadRefusal) (r : Result ShelfBlock Verdict) (one : ShelfBlock) (old new : List ShelfBlock) → now ≡ stage.Ended checked → IsEndedFor told block now
    → IfOk r (λ read. read.ulid ≡ block.ulid) → IfOk r (λ read. IsHeld block read.found) → IfOk r (λ read. IsReadBy checked (read_as block.ulid (Some read.found))) → r ≡ Ok one → new ≡ old ++ one ∷ [] → IsReadNext told block old new
kept_read told block now checked r one old new is ended ulid held by came more =
    let known = end_known told block now checked is ended in
    inr (known.0, one, more, ok_is r one _ came (found_of told block checked r ulid held by (loaded_by told block.ulid checked known.1) (refused_by told block.ulid checked known.1)))
