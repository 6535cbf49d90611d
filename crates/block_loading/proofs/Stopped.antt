-- Where a refused load stopped, and how large what it read is.
use Rattle.std.proofs.Common.{◌≡◌, ℕ, ◌+◌, true, false, List, [], ◌∷◌, ◌++◌, length, Result, Ok, Err, refl, sym, ap, subst, ◌∙◌, ◌⊎◌, inl, inr}
use Rattle.std.specs.Prelude.{◌≢◌, ◌≤◌, All, IsTrue, IfErr, IsErrAnd}
use Rattle.std.proofs.lemmas.List.Elements.{All-nil, All-push}
use Rattle.base.specs.Reading.{refused_as}
use Rattle.base.proofs.Binds.{refused_as_err}
use Rattle.block_keys.specs.declared.key.Key.{Key}
use Rattle.block_meta.specs.Bounds.{HasFew}
use Rattle.block_meta.specs.MetaFields.{MetaFields}
use Rattle.block_meta.specs.MetaReading.{meta_of_text}
use Rattle.block_meta.specs.declared.refusal.MetaRefusal.{MetaRefusal}
use Rattle.block_meta.specs.declared.refusal.MetaRefusal.TheVariants as meta
use Rattle.block_meta.specs.declared.block_files.BlockFiles.{BlockFiles}
use Rattle.index_v2.specs.declared.refusal.IndexRefusal.{IndexRefusal}
use Rattle.index_v2.specs.declared.refusal.IndexRefusal.TheVariants as index
use Rattle.block_content.specs.ContentReading.{index_at, refused_index}
use Rattle.block_content.specs.Checking.{RefusesBlock}
use Rattle.block_content.specs.declared.check_refusal.CheckRefusal.{CheckRefusal}
use Rattle.block_content.specs.declared.check_refusal.CheckRefusal.TheVariants as check
use Rattle.bucket_core.specs.Files.{file_limit}
use Rattle.block_loading.specs.Loading.{IsOfText, meta_limit, IsBadMeta, IsBadIndex, StopsAt, key_after}
use Rattle.block_loading.specs.LoadReading.{IfRefused, RefusesFile, is_fault, was_fault, refused_block, refused_meta}
use Rattle.block_loading.specs.declared.load_refusal.LoadRefusal.{LoadRefusal}
use Rattle.block_loading.specs.declared.load_refusal.LoadRefusal.TheVariants.{Refused, ShelfFault, NoMemory}
use Rattle.block_loading.proofs.Calls.{block_kept}

-- ---- where a load stopped

-- what is said of a refusal is said of one that is handed on
pub said_on : {X : Type 0} (Says : CheckRefusal → Type 0) (r : Result X LoadRefusal) (e : LoadRefusal) → IsErrAnd r (λ d. d ≡ e) → IfRefused Says e → IfErr r (IfRefused Says)
said_on Says (Ok x) e is said = absurd is
said_on Says (Err d) e is said = subst (IfRefused Says) (sym is) said

-- nothing is to be said where memory ran out
pub unsaid : (Says : CheckRefusal → Type 0) (e : LoadRefusal) → e ≡ NoMemory → IfRefused Says e
unsaid Says e none = subst (IfRefused Says) (sym none) tt

pub said_as : (One Other : CheckRefusal → Type 0) (e : LoadRefusal) → ((refusal : CheckRefusal) → One refusal → Other refusal) → IfRefused One e → IfRefused Other e
said_as One Other (Refused refusal) leads said = leads refusal said
said_as One Other ShelfFault leads said = tt
said_as One Other NoMemory leads said = tt

-- a fault that is handed on was one
pub fault_on : {X : Type 0} (r : Result X LoadRefusal) (e : LoadRefusal) → IsErrAnd r (λ d. d ≡ e) → IsTrue (was_fault r) → IsTrue (is_fault e)
fault_on (Ok x) e is fault = absurd is
fault_on (Err d) e is fault = subst (λ (c : LoadRefusal). IsTrue (is_fault c)) is fault

-- want of memory is none, and nor is a refusal of the block
pub no_fault : (e : LoadRefusal) → e ≡ NoMemory → IsTrue (is_fault e) → ⊥
no_fault e none fault = let never : false ≡ true = subst (λ (c : LoadRefusal). IsTrue (is_fault c)) none fault in absurd cc

pub block_calm : (e : CheckRefusal) → is_fault (refused_block e) ≡ false
block_calm (check.NoFile key) = refl
block_calm (check.BadMeta cause) = refl
block_calm check.UlidDiffers = refl
block_calm check.NotLevelOne = refl
block_calm check.SourcesNotSelf = refl
block_calm check.Downsampled = refl
block_calm (check.TooLarge key) = refl
block_calm (check.BadIndex cause) = refl
block_calm check.EmptyBlock = refl
block_calm (check.BadChunk series chunk cause) = refl
block_calm (check.OutsideRange series time) = refl
block_calm (check.Repeated series) = refl
block_calm check.NamesTooMuch = refl
block_calm check.NoMemory = refl

-- a refusal of the block is no fault
pub calm_on : {X : Type 0} (r : Result X LoadRefusal) (said : LoadRefusal) (e : CheckRefusal) → IsErrAnd r (λ d. d ≡ said) → said ≡ refused_block e → was_fault r ≡ false
calm_on (Ok x) said e is why = absurd is
calm_on (Err d) said e is why = ap is_fault (is ∙ why) ∙ block_calm e

-- the file that was asked for last is refused
last_file : (ulid before count : ℕ) (key : Key) → count ≡ before + 1 → key ≡ key_after ulid before → (refusal : CheckRefusal) → RefusesFile key refusal → StopsAt ulid count refusal
last_file ulid before count key counted is (check.NoFile other) said = (before, counted, said ∙ is)
last_file ulid before count key counted is (check.TooLarge other) said = (before, counted, said ∙ is)
last_file ulid before count key counted is (check.BadMeta cause) said = absurd said
last_file ulid before count key counted is check.UlidDiffers said = absurd said
last_file ulid before count key counted is check.NotLevelOne said = absurd said
last_file ulid before count key counted is check.SourcesNotSelf said = absurd said
last_file ulid before count key counted is check.Downsampled said = absurd said
last_file ulid before count key counted is (check.BadIndex cause) said = absurd said
last_file ulid before count key counted is check.EmptyBlock said = absurd said
last_file ulid before count key counted is (check.BadChunk series chunk cause) said = absurd said
last_file ulid before count key counted is (check.OutsideRange series time) said = absurd said
last_file ulid before count key counted is (check.Repeated series) said = absurd said
last_file ulid before count key counted is check.NamesTooMuch said = absurd said
last_file ulid before count key counted is check.NoMemory said = absurd said

pub file_last : (ulid before count : ℕ) (key : Key) → count ≡ before + 1 → key ≡ key_after ulid before → (e : LoadRefusal) → IfRefused (RefusesFile key) e → IfRefused (StopsAt ulid count) e
file_last ulid before count key counted is e said = said_as (RefusesFile key) (StopsAt ulid count) e (last_file ulid before count key counted is) said

-- a meta is the first file, and an index the second

module _ (ulid : ℕ) (text : List ℕ) (within : length text ≤ meta_limit) where
  bad_meta : (e : MetaRefusal) → meta_of_text text ≡ Err e → e ≢ meta.NoMemory → ◌≡◌ {A = ℕ} 1 1 × IsBadMeta e
  bad_meta e reads told = (refl, record { text = text; within = within; reads = reads; told = told })

  meta_refused : (e : MetaRefusal) → meta_of_text text ≡ Err e → IfRefused (StopsAt ulid 1) (refused_meta e)
  meta_refused meta.NotJson reads = bad_meta meta.NotJson reads (λ h. absurd cc)
  meta_refused (meta.MissingField name) reads = bad_meta (meta.MissingField name) reads (λ h. absurd cc)
  meta_refused (meta.WrongKind name) reads = bad_meta (meta.WrongKind name) reads (λ h. absurd cc)
  meta_refused meta.BadVersion reads = bad_meta meta.BadVersion reads (λ h. absurd cc)
  meta_refused meta.BadTimes reads = bad_meta meta.BadTimes reads (λ h. absurd cc)
  meta_refused (meta.BadUlid name) reads = bad_meta (meta.BadUlid name) reads (λ h. absurd cc)
  meta_refused meta.BadLabels reads = bad_meta meta.BadLabels reads (λ h. absurd cc)
  meta_refused meta.NoMemory reads = tt

  module _ (lent : List ℕ) (lends : lent ≡ text) where
    pub meta_first : (e : MetaRefusal) (said : LoadRefusal) → (e ≡ meta.NoMemory) ⊎ (meta_of_text lent ≡ Err e) → said ≡ refused_meta e → IfRefused (StopsAt ulid 1) said
    meta_first e said (inl none) is = unsaid (StopsAt ulid 1) said (is ∙ ap refused_meta none)
    meta_first e said (inr h) is = subst (IfRefused (StopsAt ulid 1)) (sym is) (meta_refused e (ap meta_of_text (sym lends) ∙ h))

module _ (ulid : ℕ) (text : List ℕ) (within : length text ≤ file_limit) where
  bad_index : (e : IndexRefusal) → index_at text ≡ Err e → e ≢ index.NoMemory → ◌≡◌ {A = ℕ} 2 2 × IsBadIndex e
  bad_index e reads told = (refl, record { bytes = text; within = within; reads = reads; told = told })

  index_refused : (e : IndexRefusal) → index_at text ≡ Err e → IfRefused (StopsAt ulid 2) (refused_block (refused_index e))
  index_refused index.BadMagic reads = bad_index index.BadMagic reads (λ h. absurd cc)
  index_refused index.BadVersion reads = bad_index index.BadVersion reads (λ h. absurd cc)
  index_refused (index.BadTocSum kept computed) reads = bad_index (index.BadTocSum kept computed) reads (λ h. absurd cc)
  index_refused (index.BadSection number cause) reads = bad_index (index.BadSection number cause) reads (λ h. absurd cc)
  index_refused (index.BadSeries number cause) reads = bad_index (index.BadSeries number cause) reads (λ h. absurd cc)
  index_refused (index.PostingsDiffer place) reads = bad_index (index.PostingsDiffer place) reads (λ h. absurd cc)
  index_refused index.NoMemory reads = tt

  module _ (lent : List ℕ) (lends : lent ≡ text) where
    pub index_second : (e : CheckRefusal) (said : LoadRefusal) → (e ≡ check.NoMemory) ⊎ (refused_as refused_index (index_at lent) ≡ Err e) → said ≡ refused_block e → IfRefused (StopsAt ulid 2) said
    index_second e said (inl none) is = unsaid (StopsAt ulid 2) said (is ∙ ap refused_block none)
    index_second e said (inr h) is =
        let why = refused_as_err refused_index (index_at lent) e h in
        subst (IfRefused (StopsAt ulid 2)) (sym (is ∙ ap refused_block (sym why.2))) (index_refused why.0 (ap index_at (sym lends) ∙ why.1))

-- ---- a check behind it

pub check_said : (Says : CheckRefusal → Type 0) (ulid : ℕ) (files : BlockFiles) (e : CheckRefusal) (said : LoadRefusal) → (e ≡ check.NoMemory) ⊎ RefusesBlock ulid files e → said ≡ refused_block e → (RefusesBlock ulid files e → Says e) → IfRefused Says said
check_said Says ulid files e said (inl none) is leads = subst (IfRefused Says) (sym (is ∙ ap refused_block none)) tt
check_said Says ulid files e said (inr why) is leads = subst (IfRefused Says) (sym (is ∙ block_kept ulid files e why)) (leads why)

-- ---- how large it is

pub of_text : (text lent : List ℕ) (meta : MetaFields) → lent ≡ text → length text ≤ meta_limit → meta_of_text lent ≡ Ok meta → HasFew meta (length lent) → IsOfText meta
of_text text lent meta lends within reads few = record {
  text = lent;
  within = subst (λ (b : List ℕ). length b ≤ meta_limit) (sym lends) within;
  reads = reads;
  few = few;
}

abbrev pub IsWithin : List ℕ → Type 0
IsWithin bytes = length bytes ≤ file_limit

pub none_large : (xs : List (List ℕ)) → xs ≡ [] → All IsWithin xs
none_large xs none = subst (All IsWithin) (sym none) (All-nil IsWithin)

pub one_more : (xs pushed : List (List ℕ)) (x : List ℕ) → pushed ≡ xs ++ x ∷ [] → All IsWithin xs → IsWithin x → All IsWithin pushed
one_more xs pushed x is all within = subst (All IsWithin) (sym is) (All-push IsWithin xs x all within)
