-- What a call of the program leaves of what the site handed out, and of the journal over its bucket.
use Rattle.std.specs.Prelude.{◌≡◌, ◌≢◌, ◌≤◌, ◌+◌, ℕ, List, [], Option, Some, None, IfSome, is_some, if◌then◌else◌}
use Rattle.bucket_core.specs.Contents.{Contents, nothing}
use Rattle.bucket_core.specs.Told.{BucketTold, ShelfTold, SiteTold, next_shelf}
use Rattle.world_core.specs.declared.entry.Entry.{Entry}
use Rattle.world_core.specs.Standing.{stands, IsHonest}
use Rattle.world_core.specs.Worlds.{IsJournal, IsOfBytes, failed_count}

-- The journal is one that a world keeps, all that it puts and shows is bytes, and the bucket has failed at least as often as the
-- journal shows. Where the bucket tells what it holds, the journal is honest, and unless it is empty the bucket holds what stands
-- at its end.
pub record IsTrueOfStore {B : Type 0} (tells : B → BucketTold) (entries : List Entry) (store : B) : Type 0 where
  pub journal : (tick : ℕ) × IsJournal tick entries
  pub bytes : IsOfBytes entries
  pub failures : failed_count entries ≤ (tells store).faults
  pub honest : IfSome (tells store).contents (λ c. IsHonest entries)
  pub held : entries ≢ [] → IfSome (tells store).contents (λ c. c ≡ stands entries)

-- the same of what was handed back: a journal and a bucket, or neither
abbrev pub IsHandedBack : {B : Type 0} → (B → BucketTold) → Option (List Entry) → Option B → Type 0
IsHandedBack tells (Some journal) (Some store) = IsTrueOfStore tells journal store
IsHandedBack tells None None = Unit {0}
IsHandedBack tells journal store = ⊥

-- without an entry, the bucket holds what it held before
abbrev pub IsUntouched : {B : Type 0} → (B → BucketTold) → Contents → Option (List Entry) → Option B → Type 0
IsUntouched tells before (Some journal) (Some store) = journal ≡ [] → IfSome (tells store).contents (λ c. c ≡ before)
IsUntouched tells before journal store = Unit {0}

-- the bucket has failed no more often than before, unless the journal shows that it did
abbrev pub IsUnfailed : {B : Type 0} → (B → BucketTold) → ℕ → Option (List Entry) → Option B → Type 0
IsUnfailed tells before (Some journal) (Some store) = failed_count journal ≡ 0 → (tells store).faults ≡ before
IsUnfailed tells before journal store = Unit {0}

-- a site counts a bucket, or a shelf, that it handed out
abbrev pub IsHandedOut : {B : Type 0} → ℕ → ℕ → Option B → Type 0
IsHandedOut before now store = now ≡ (if is_some store then before + 1 else before)

-- A site was not asked for a bucket: it has handed out no more of them, and tells of them what it told.
pub record AsksNoBucket (old new : SiteTold) : Type 0 where
  pub handed : new.buckets ≡ old.buckets
  pub next : new.bucket_at ≡ old.bucket_at

-- the same of a shelf
pub record AsksNoShelf (old new : SiteTold) : Type 0 where
  pub handed : new.shelves ≡ old.shelves
  pub next : new.shelf_at ≡ old.shelf_at

-- what is told of the one that a word names, where a word names one
abbrev pub told_of : (List ℕ → Option Contents) → Option (List ℕ) → Option Contents
told_of told None = None
told_of told (Some name) = told name

-- a shelf that was handed back holds what the site told of it
abbrev pub IsShelfBack : {F : Type 0} → Option Contents → (F → ShelfTold) → Option F → Type 0
IsShelfBack told tells shelf = IfSome shelf (λ s. IfSome told (λ c. (tells s).files ≡ Some c))

-- The shelf of a word, as a call leaves it and the site that it was asked of: it was opened under the name of the word, and the
-- site was asked for none where the word names none.
pub record IsShelfOf {F : Type 0} (tells : F → ShelfTold) (word : Option (List ℕ)) (old new : SiteTold) (shelf : Option F) : Type 0 where
  pub handed : IsHandedOut old.shelves new.shelves shelf
  pub back : IsShelfBack (told_of (next_shelf old) word) tells shelf
  pub closed : word ≡ None → AsksNoShelf old new

-- what was handed out is a bucket just where a word names one, and a shelf just where a word names one
abbrev pub IsOpened : {B F : Type 0} → Option (List ℕ) → Option (List ℕ) → Option B → Option F → Type 0
IsOpened bucket_word shelf_word store shelf = (is_some store ≡ is_some bucket_word) × (is_some shelf ≡ is_some shelf_word)

abbrev pub HoldsNothing : Contents → Type 0
HoldsNothing contents = contents ≡ nothing
