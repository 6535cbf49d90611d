-- What is told of the outside of a call, and what the words of the call name of it.
use Rattle.std.specs.Prelude.{ℕ, List, Option}
use Rattle.bucket_core.specs.Told.{BucketTold, ShelfTold, SiteTold, SourceTold}

-- A site before a call and after it, and what is told of a bucket and of a shelf that it handed out.
pub record SiteCall (B F : Type 0) : Type 1 where
  pub before : SiteTold
  pub after : SiteTold
  pub store : B → BucketTold
  pub files : F → ShelfTold

abbrev pub site_call : {B F : Type 0} → (before after : SiteTold) → (B → BucketTold) → (F → ShelfTold) → SiteCall B F
site_call before after store files = record { before = before; after = after; store = store; files = files }

-- and the source of the call, before it and after it
pub record Outside (B F : Type 0) : Type 1 where
  pub source : SourceTold
  pub read : SourceTold
  pub site : SiteCall B F

abbrev pub outside : {B F : Type 0} → (source read : SourceTold) → SiteCall B F → Outside B F
outside source read site = record { source = source; read = read; site = site }

-- the bucket, the shelf and the block that the words of a call name, each where they name one
pub record Names : Type 0 where
  pub bucket : Option (List ℕ)
  pub shelf : Option (List ℕ)
  pub block : Option ℕ

abbrev pub names : Option (List ℕ) → Option (List ℕ) → Option ℕ → Names
names bucket shelf block = record { bucket = bucket; shelf = shelf; block = block }
