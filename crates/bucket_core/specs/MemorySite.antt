-- What a site in memory shows: its bucket and its shelf, and whether it has yet to hand them out.
use Rattle.std.specs.Prelude.{ℕ, Bool, List, Option, Some, if◌then◌else◌, is_some}
use Rattle.bucket_core.specs.Contents.{Contents}
use Rattle.bucket_core.specs.MemoryBucket.{objects_held}
use Rattle.bucket_core.specs.MemoryShelf.{file_in, files_held}
use Rattle.bucket_core.specs.Told.{SiteTold}
use Rattle.bucket_core.specs.declared.memory_bucket.MemoryBucket.{MemoryBucket}
use Rattle.bucket_core.specs.declared.memory_shelf.MemoryShelf.{MemoryShelf}
use Rattle.bucket_core.specs.declared.memory_site.MemorySite.{MemorySite}

abbrev pub bucket_left : MemorySite → Option MemoryBucket
bucket_left site = site.bucket

abbrev pub shelf_left : MemorySite → Option MemoryShelf
shelf_left site = site.shelf

-- the one bucket that the site hands out, also where it is out
abbrev pub own_bucket : MemorySite → MemoryBucket
own_bucket site = site.only_bucket.value

-- and the one shelf
abbrev pub own_shelf : MemorySite → MemoryShelf
own_shelf site = site.only_shelf.value

-- what the bucket holds as it is handed out, whatever the opening and its name
abbrev pub contents_told : MemorySite → ℕ → List ℕ → Option Contents
contents_told site place name = Some (objects_held (own_bucket site))

-- what the shelf holds as it is handed out, whatever the opening and its name
abbrev pub files_told : MemorySite → ℕ → List ℕ → Option Contents
files_told site place name = Some (file_in (files_held (own_shelf site)))

abbrev pub is_failing : MemorySite → Bool
is_failing site = site.failing

-- how many of the one that is left have been handed out
abbrev pub gone : {A : Type 0} → Option A → ℕ
gone left = if is_some left then 0 else 1

abbrev pub buckets_handed_out : MemorySite → ℕ
buckets_handed_out site = gone (bucket_left site)

abbrev pub shelves_handed_out : MemorySite → ℕ
shelves_handed_out site = gone (shelf_left site)

abbrev pub faults_counted : MemorySite → ℕ
faults_counted site = site.faults

-- what is told of it
abbrev pub site_told : MemorySite → SiteTold
site_told site = record {
  buckets = buckets_handed_out site;
  bucket_at = contents_told site;
  shelves = shelves_handed_out site;
  shelf_at = files_told site;
  faults = faults_counted site;
}
