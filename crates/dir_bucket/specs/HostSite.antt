-- What is told of the site of the program: how often it has opened something, and how often it has failed.
use Rattle.std.specs.Prelude.{ℕ, Option, None}
use Rattle.bucket_core.specs.Told.{SiteTold}
use Rattle.dir_bucket.specs.Places.{contents_under}
use Rattle.dir_bucket.specs.declared.host_site.HostSite.{HostSite}
use Rattle.dir_bucket.specs.declared.trouble.Trouble.{Trouble}

abbrev pub buckets_handed_out : {R F D : Type 0} → HostSite R F D → ℕ
buckets_handed_out site = site.buckets

abbrev pub shelves_handed_out : {R F D : Type 0} → HostSite R F D → ℕ
shelves_handed_out site = site.shelves

abbrev pub faults_counted : {R F D : Type 0} → HostSite R F D → ℕ
faults_counted site = site.faults

-- why the first bucket was not opened that was not, and the first shelf
abbrev pub bucket_trouble : {R F D : Type 0} → HostSite R F D → Option Trouble
bucket_trouble site = site.bucket_trouble

abbrev pub shelf_trouble : {R F D : Type 0} → HostSite R F D → Option Trouble
shelf_trouble site = site.shelf_trouble

-- what is told of it, whatever the opening, by the name alone
abbrev pub site_told : {R F D : Type 0} → HostSite R F D → SiteTold
site_told site = record {
  buckets = buckets_handed_out site;
  bucket_at = λ place name. contents_under name;
  shelves = shelves_handed_out site;
  shelf_at = λ place name. None;
  faults = faults_counted site;
}
