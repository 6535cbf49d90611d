-- What is told of each part of the outside, as one record. A part that does not tell something has `None` there.
use Rattle.std.specs.Prelude.{ℕ, List, Option}
use Rattle.bucket_core.specs.Asking.{Call}
use Rattle.bucket_core.specs.Contents.{Contents}

pub record SourceTold : Type 0 where
  -- the bytes that are left
  pub left : Option (List ℕ)
  -- how often it has failed
  pub faults : ℕ

pub record SinkTold : Type 0 where
  -- the bytes that were written
  pub written : Option (List ℕ)
  -- how often it has failed
  pub faults : ℕ

pub record ShelfTold : Type 0 where
  -- what the files hold
  pub files : Option Contents
  -- the names that were asked, in order; one for which memory was wanted may be left out
  pub asked : Option (List (List ℕ))
  -- how often a reading has failed
  pub faults : ℕ

pub record BucketTold : Type 1 where
  -- what stands
  pub contents : Option Contents
  -- the calls that were asked, in order; one for which memory was wanted may be left out
  pub asked : Option (List Call)
  -- how often it has failed
  pub faults : ℕ
  -- no call fails from here on
  pub quiet : Type 0

-- Openings are told by their order: those of buckets count from 0, and so do those of shelves. What is told of one that is to come
-- may depend on the name under which it is opened.
pub record SiteTold : Type 0 where
  -- how many buckets it has handed out
  pub buckets : ℕ
  -- what the bucket of an opening holds as it is handed out
  pub bucket_at : ℕ → List ℕ → Option Contents
  -- how many shelves it has handed out
  pub shelves : ℕ
  -- what the shelf of an opening holds
  pub shelf_at : ℕ → List ℕ → Option Contents
  -- how often an opening has failed
  pub faults : ℕ

-- what the next bucket holds, if it is opened under this name
abbrev pub next_bucket : SiteTold → List ℕ → Option Contents
next_bucket site = site.bucket_at site.buckets

-- what the next shelf holds, if it is opened under this name
abbrev pub next_shelf : SiteTold → List ℕ → Option Contents
next_shelf site = site.shelf_at site.shelves
