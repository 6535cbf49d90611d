-- What the calls say: of loading, and of loading with a check behind it.
use Rattle.std.proofs.Common.{◌≡◌, ℕ, Result, Ok, Err, refl, sym, ap, subst, ◌∙◌, ◌⊎◌, inl, inr}
use Rattle.std.specs.Prelude.{IsOkAnd, IsErrAnd}
use Rattle.base.proofs.Binds.{ok_is, err_is}
use Rattle.block_meta.specs.declared.block_files.BlockFiles.{BlockFiles}
use Rattle.block_content.specs.Checking.{RefusesBlock}
use Rattle.block_content.specs.declared.checked.Checked.{Checked}
use Rattle.block_content.specs.declared.check_refusal.CheckRefusal.{CheckRefusal}
use Rattle.block_content.specs.declared.check_refusal.CheckRefusal.TheVariants.{NoFile, BadMeta, UlidDiffers, NotLevelOne, SourcesNotSelf, Downsampled, TooLarge, BadIndex, EmptyBlock, BadChunk, OutsideRange, Repeated, NamesTooMuch, NoMemory}
use Rattle.bucket_core.specs.Contents.{Contents}
use Rattle.block_loading.specs.Loading.{IsLoaded, RefusesLoad, RefusesOnShelf}
use Rattle.block_loading.specs.LoadReading.{IsBrokenOff, WasBrokenOff, Loads, refused_block, BlockParts, parts_of, load_at}
use Rattle.block_loading.specs.declared.load_refusal.LoadRefusal.{LoadRefusal}
use Rattle.block_loading.specs.declared.load_refusal.LoadRefusal.TheVariants.{Refused, ShelfFault, NoMemory as WithoutMemory}
use Rattle.block_loading.proofs.LoadLaws.{load_again, load_refused, load_refuses}
use Rattle.block_content.proofs.SameFiles.{same_files}

broken : {X : Type 0} (e : LoadRefusal) → IsBrokenOff e → WasBrokenOff {X = X} (Err e)
broken {X} e (inl none) = inl (ap (λ (x : LoadRefusal). Err x) none)
broken e (inr fault) = inr (ap (λ (x : LoadRefusal). Err x) fault)

not_broken : (e : LoadRefusal) (refusal : CheckRefusal) → IsBrokenOff e → e ≡ Refused refusal → ⊥
not_broken e refusal (inl none) same = absurd cc
not_broken e refusal (inr fault) same = absurd cc

-- ---- loading

module _ {X : Type 0} (view : X → BlockFiles) (told : Contents) (ulid : ℕ) where
  pub says_only : (r : Result X LoadRefusal) (files : BlockFiles) → Loads (λ x. parts_of (view x)) r (load_at told ulid) → IsLoaded told ulid files → IsOkAnd r (λ x. view x ≡ files) ⊎ WasBrokenOff r
  says_only (Ok x) files read is =
      let same : parts_of (view x) ≡ parts_of files = ok_is {E = LoadRefusal} _ _ (sym read ∙ load_again told ulid files is) in
      inl (same_files (view x) files (ap (λ (p : BlockParts). p.meta) same) (ap (λ (p : BlockParts). p.index) same) (ap (λ (p : BlockParts). p.segments) same))
  says_only (Err e) files (inl off) is = inr (broken e off)
  says_only (Err e) files (inr refused) is = let both = sym refused ∙ load_again told ulid files is in absurd cc

  pub says_refused : (r : Result X LoadRefusal) (refusal : CheckRefusal) → Loads (λ x. parts_of (view x)) r (load_at told ulid) → r ≡ Err (Refused refusal) → RefusesLoad told ulid refusal
  says_refused (Ok x) refusal read same = absurd cc
  says_refused (Err e) refusal (inl off) same = absurd (not_broken e refusal off (err_is {A = X} e (Refused refusal) same))
  says_refused (Err e) refusal (inr refused) same = load_refused told ulid refusal (refused ∙ ap (λ (x : LoadRefusal). Err x) (err_is {A = X} e (Refused refusal) same))

  pub says_refuses : (r : Result X LoadRefusal) (refusal : CheckRefusal) → Loads (λ x. parts_of (view x)) r (load_at told ulid) → RefusesLoad told ulid refusal → (r ≡ Err (Refused refusal)) ⊎ WasBrokenOff r
  says_refuses (Ok x) refusal read is = let both = sym read ∙ load_refuses told ulid refusal is in absurd cc
  says_refuses (Err e) refusal (inl off) is = inr (broken e off)
  says_refuses (Err e) refusal (inr refused) is = inl (ap (λ (x : LoadRefusal). Err x) (err_is {A = BlockParts} e (Refused refusal) (sym refused ∙ load_refuses told ulid refusal is)))

abbrev pub files_read : BlockFiles → BlockFiles
files_read files = files

pub refused_on : {Y : Type 0} (told : Contents) (ulid : ℕ) (r : Result Y LoadRefusal) (e : LoadRefusal) (refusal : CheckRefusal) → IsErrAnd r (λ d. d ≡ e)
    → Loads (λ x. parts_of (files_read x)) (Err e) (load_at told ulid) → r ≡ Err (Refused refusal) → RefusesLoad told ulid refusal
refused_on told ulid (Ok y) e refusal is read same = absurd is
refused_on {Y} told ulid (Err d) e refusal is read same = says_refused files_read told ulid (Err e) refusal read (ap (λ (x : LoadRefusal). Err x) (sym is ∙ err_is {A = Y} d (Refused refusal) same))

-- ---- with a check behind it

-- a refusal of a check that is said of the block
block_told : (e refusal : CheckRefusal) → refused_block e ≡ Refused refusal → (e ≡ refusal) × ((e ≡ NoMemory) → ⊥)
block_told (NoFile key) refusal h = (cc, λ n. absurd cc)
block_told (BadMeta cause) refusal h = (cc, λ n. absurd cc)
block_told UlidDiffers refusal h = (cc, λ n. absurd cc)
block_told NotLevelOne refusal h = (cc, λ n. absurd cc)
block_told SourcesNotSelf refusal h = (cc, λ n. absurd cc)
block_told Downsampled refusal h = (cc, λ n. absurd cc)
block_told (TooLarge key) refusal h = (cc, λ n. absurd cc)
block_told (BadIndex cause) refusal h = (cc, λ n. absurd cc)
block_told EmptyBlock refusal h = (cc, λ n. absurd cc)
block_told (BadChunk series chunk cause) refusal h = (cc, λ n. absurd cc)
block_told (OutsideRange series time) refusal h = (cc, λ n. absurd cc)
block_told (Repeated series) refusal h = (cc, λ n. absurd cc)
block_told NamesTooMuch refusal h = (cc, λ n. absurd cc)
block_told NoMemory refusal h = absurd cc

-- a refusal of a block is said of it
pub block_kept : (ulid : ℕ) (files : BlockFiles) (refusal : CheckRefusal) → RefusesBlock ulid files refusal → refused_block refusal ≡ Refused refusal
block_kept ulid files (NoFile key) is = refl
block_kept ulid files (BadMeta cause) is = refl
block_kept ulid files UlidDiffers is = refl
block_kept ulid files NotLevelOne is = refl
block_kept ulid files SourcesNotSelf is = refl
block_kept ulid files Downsampled is = refl
block_kept ulid files (TooLarge key) is = refl
block_kept ulid files (BadIndex cause) is = refl
block_kept ulid files EmptyBlock is = refl
block_kept ulid files (BadChunk series chunk cause) is = refl
block_kept ulid files (OutsideRange series time) is = refl
block_kept ulid files (Repeated series) is = refl
block_kept ulid files NamesTooMuch is = refl
block_kept ulid files NoMemory is = absurd is

-- what was answered was not broken off
pub answered : {X P : Type 0} (x : X) → P ⊎ WasBrokenOff {X = X} (Ok x) → P
answered x (inl p) = p
answered x (inr (inl none)) = absurd cc
answered x (inr (inr fault)) = absurd cc

-- nor had it no memory
pub had_memory : {X P : Type 0} (x : X) → P ⊎ (◌≡◌ {A = Result X CheckRefusal} (Ok x) (Err NoMemory)) → P
had_memory x (inl p) = p
had_memory x (inr none) = absurd cc

module _ (told : Contents) (ulid : ℕ) (files : BlockFiles) (loaded : IsLoaded told ulid files) where
  -- a refusal of the check is one of the block on the shelf
  pub check_refused : (e : CheckRefusal) (said : LoadRefusal) (refusal : CheckRefusal) → (e ≡ NoMemory) ⊎ RefusesBlock ulid files e → said ≡ refused_block e → said ≡ Refused refusal → RefusesOnShelf told ulid refusal
  check_refused e said refusal why is same =
      let told_is = block_told e refusal (sym is ∙ same) in
      elim why [
        | inl none ↦ absurd (told_is.1 none)
        | inr refuses ↦ inr (files, loaded, subst (RefusesBlock ulid files) told_is.0 refuses)
      ]

-- the block is refused by the check, and by nothing else
pub check_refuses : (ulid : ℕ) (files : BlockFiles) (e refusal : CheckRefusal) (said : LoadRefusal) → RefusesBlock ulid files refusal → (◌≡◌ {A = Result Checked CheckRefusal} (Err e) (Err refusal)) ⊎ (◌≡◌ {A = Result Checked CheckRefusal} (Err e) (Err NoMemory)) → said ≡ refused_block e
    → (◌≡◌ {A = Result Checked LoadRefusal} (Err said) (Err (Refused refusal))) ⊎ WasBrokenOff {X = Checked} (Err said)
check_refuses ulid files e refusal said is (inl same) told = inl (ap (λ (x : LoadRefusal). Err x) (told ∙ ap refused_block (err_is {A = Checked} e refusal same) ∙ block_kept ulid files refusal is))
check_refuses ulid files e refusal said is (inr none) told = inr (inl (ap (λ (x : LoadRefusal). Err x) (told ∙ ap refused_block (err_is {A = Checked} e NoMemory none))))

-- ---- what is handed on

pub passed_on : {X Y : Type 0} (r : Result Y LoadRefusal) (e : LoadRefusal) → IsErrAnd r (λ d. d ≡ e) → ⊥ ⊎ WasBrokenOff {X = X} (Err e) → WasBrokenOff r
passed_on (Ok y) e is why = absurd is
passed_on (Err d) e is (inl never) = absurd never
passed_on {X} (Err d) e is (inr (inl none)) = inl (ap (λ (x : LoadRefusal). Err x) (is ∙ err_is {A = X} e WithoutMemory none))
passed_on {X} (Err d) e is (inr (inr fault)) = inr (ap (λ (x : LoadRefusal). Err x) (is ∙ err_is {A = X} e ShelfFault fault))

pub error_on : {X Y : Type 0} (r : Result Y LoadRefusal) (e : LoadRefusal) (refusal : CheckRefusal) → IsErrAnd r (λ d. d ≡ e) → (◌≡◌ {A = Result X LoadRefusal} (Err e) (Err (Refused refusal))) ⊎ WasBrokenOff {X = X} (Err e) → (r ≡ Err (Refused refusal)) ⊎ WasBrokenOff r
error_on (Ok y) e refusal is why = absurd is
error_on {X} (Err d) e refusal is (inl same) = inl (ap (λ (x : LoadRefusal). Err x) (is ∙ err_is {A = X} e (Refused refusal) same))
error_on {X} {Y} (Err d) e refusal is (inr off) = inr (passed_on {X = X} {Y = Y} (Err d) e is (inr off))

pub not_stopped : {X : Type 0} (x : X) (refusal : CheckRefusal) → (◌≡◌ {A = Result X LoadRefusal} (Ok x) (Err (Refused refusal))) ⊎ WasBrokenOff {X = X} (Ok x) → ⊥
not_stopped x refusal (inl same) = absurd cc
not_stopped x refusal (inr (inl none)) = absurd cc
not_stopped x refusal (inr (inr fault)) = absurd cc

pub not_refused : {X : Type 0} (x : X) (refusal : CheckRefusal) → (◌≡◌ {A = Result X CheckRefusal} (Ok x) (Err refusal)) ⊎ (◌≡◌ {A = Result X CheckRefusal} (Ok x) (Err NoMemory)) → ⊥
not_refused x refusal (inl same) = absurd cc
not_refused x refusal (inr none) = absurd cc

-- a block that passes is refused for want of memory alone
pub check_passes : (e : CheckRefusal) (said : LoadRefusal) → ⊥ ⊎ (◌≡◌ {A = Result Checked CheckRefusal} (Err e) (Err NoMemory)) → said ≡ refused_block e → WasBrokenOff {X = Checked} (Err said)
check_passes e said (inl never) is = absurd never
check_passes e said (inr none) is = inl (ap (λ (x : LoadRefusal). Err x) (is ∙ ap refused_block (err_is {A = Checked} e NoMemory none)))
