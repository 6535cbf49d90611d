-- What a call asked of the bucket and of the shelf that it was handed.
use Rattle.std.specs.Prelude.{◌≡◌, ◌⊎◌, ℕ, ◌<◌, List, [], ◌∷◌, ◌++◌, map, filter, Bool, true, false, Option, Some, None, IfSome, Ok}
use Rattle.bucket_core.specs.Asking.{Asks, Call}
use Rattle.bucket_core.specs.Contents.{Contents}
use Rattle.bucket_core.specs.Told.{BucketTold, ShelfTold}
use Rattle.world_core.specs.Asking.{calls_of, opening}
use Rattle.world_core.specs.declared.entry.Entry.{Entry}
use Rattle.script_core.specs.Reading.{script_of}
use Rattle.script_core.specs.declared.block.Block.{Block}
use Rattle.script_core.specs.declared.body.Body.{Body}
use Rattle.script_core.specs.declared.body.Body.TheVariants.{Inline, OnShelf}
use Rattle.script_core.specs.declared.script.Script.{Script}
use Rattle.block_loading.specs.Loading.{Reaches, key_after, names_read}
use Rattle.call_verdicts.specs.declared.verdict.Verdict.{Verdict}
use Rattle.call_verdicts.specs.declared.verdict.Verdict.TheVariants.{SiteFault, NoMemory}

-- What was handed out was asked for these since then, in this order, where it tells.
abbrev pub WasAsked : {F X : Type 0} → (F → Option (List X)) → List X → F → Type 0
WasAsked {F} {X} asked since now = (opened : F) × IfSome (asked opened) (λ before. before ≡ []) × Asks (asked opened) (asked now) since

-- ---- the bucket

-- the calls of a bucket, where it tells them
abbrev pub calls_asked : {B : Type 0} → (B → BucketTold) → B → Option (List Call)
calls_asked tells store = (tells store).asked

-- what a world asks as it is opened
abbrev pub for_opening : List Call
for_opening = opening ∷ []

-- It was asked for nothing, or for that page alone.
abbrev pub WasOnlyOpened : {B : Type 0} → (B → BucketTold) → B → Type 0
WasOnlyOpened tells store = WasAsked (calls_asked tells) [] store ⊎ WasAsked (calls_asked tells) for_opening store

-- It was asked for the page that opens it, and then for the calls of a journal, each once and in their order, and for nothing else.
abbrev pub WasAskedAsShown : {B : Type 0} → (B → BucketTold) → List Entry → B → Type 0
WasAskedAsShown tells entries store = WasAsked (calls_asked tells) (opening ∷ calls_of entries) store

-- By what the call comes to, the bucket was asked for what its journal shows. If the site failed, it may have been asked for nothing.
abbrev pub IsAskedBy : {B : Type 0} → (B → BucketTold) → Verdict → List Entry → B → Type 0
IsAskedBy tells SiteFault entries store = WasAsked (calls_asked tells) [] store ⊎ WasAskedAsShown tells entries store
IsAskedBy tells other entries store = WasAskedAsShown tells entries store

-- the same of what was handed back: a journal and a bucket, or neither
abbrev pub IsBucketAsked : {B : Type 0} → (B → BucketTold) → Verdict → Option (List Entry) → Option B → Type 0
IsBucketAsked tells verdict (Some entries) (Some store) = IsAskedBy tells verdict entries store
IsBucketAsked tells verdict journal store = Unit {0}

-- ---- the shelf

-- the names that a shelf was asked, where it tells them
abbrev pub names_asked : {F : Type 0} → (F → ShelfTold) → F → Option (List (List ℕ))
names_asked tells shelf = (tells shelf).asked

abbrev pub is_on_shelf : Body → Bool
is_on_shelf (Inline min_time max_time series) = false
is_on_shelf OnShelf = true

-- the blocks that are taken from the shelf, in the order of their lines
abbrev pub shelf_ulids : List Block → List ℕ
shelf_ulids blocks = map (λ (block : Block). block.ulid) (filter (λ (block : Block). is_on_shelf block.body) blocks)

-- The check of a block asked for so many of its files, each once, in the order of reading. Where the files are told, each of these
-- is reached. If one more is reached, then the check was broken off.
pub record WasChecked {F : Type 0} (tells : F → ShelfTold) (told : Option Contents) (ulid : ℕ) (broken : Type 0) (shelf : F) : Type 0 where
  pub count : ℕ
  pub names : WasAsked (names_asked tells) (names_read ulid count) shelf
  pub reached : IfSome told (λ c. (place : ℕ) → place < count → Reaches c ulid (key_after ulid place))
  pub all : IfSome told (λ c. Reaches c ulid (key_after ulid count) → broken)

-- the names are of files of these blocks, block after block, and of each block in the order of reading
abbrev pub AreNamesOf : List ℕ → List (List ℕ) → Type 0
AreNamesOf [] names = names ≡ []
AreNamesOf (ulid ∷ ulids) names = (count : ℕ) × (later : List (List ℕ)) × (names ≡ names_read ulid count ++ later) × AreNamesOf ulids later

-- the shelf was asked for files of these blocks, each once
abbrev pub WasRead : {F : Type 0} → (F → ShelfTold) → List ℕ → F → Type 0
WasRead tells ulids shelf = (names : List (List ℕ)) × AreNamesOf ulids names × WasAsked (names_asked tells) names shelf

-- The shelf was asked for files of the blocks that a script takes from it, and for no others. The text of the source spells the
-- script, where the source tells it.
abbrev pub WasReadFor : {F : Type 0} → (F → ShelfTold) → Option (List ℕ) → F → Type 0
WasReadFor tells text shelf = (script : Script) × IfSome text (λ bytes. script_of bytes ≡ Ok script) × WasRead tells (shelf_ulids script.blocks) shelf

-- A call asked for files of the block that its words name. Where they name none, it asked for those of the blocks of its script.
abbrev pub WasAskedFor : {F : Type 0} → (F → ShelfTold) → Option Contents → Option (List ℕ) → Option ℕ → Type 0 → F → Type 0
WasAskedFor tells told text None broken shelf = WasReadFor tells text shelf
WasAskedFor tells told text (Some ulid) broken shelf = WasChecked tells told ulid broken shelf

-- the verdict of a check that was broken off
abbrev pub IsBroken : Verdict → Type 0
IsBroken verdict = (verdict ≡ SiteFault) ⊎ (verdict ≡ NoMemory)

-- a status that says nothing of a block
abbrev pub IsUndecided : ℕ → Type 0
IsUndecided number = ¬ ((number ≡ 0) ⊎ (number ≡ 5))
