-- What is told of a strange bucket, and what it was asked in a run.
use Rattle.std.specs.Prelude.{◌≡◌, List, ◌∷◌, Option, Some, None}
use Rattle.world_core.specs.Asking.{calls_of, opening}
use Rattle.world_core.specs.declared.entry.Entry.{Entry}
use Rattle.bucket_core.specs.MemoryBucket.{faults_counted}
use Rattle.bucket_core.specs.Noted.{calls_told}
use Rattle.bucket_core.specs.Told.{BucketTold}
use Rattle.tests_runs.specs.declared.strange_bucket.StrangeBucket.{StrangeBucket}

-- what is told of it: it may fail at any call
abbrev pub strange_told : StrangeBucket → BucketTold
strange_told bucket = record { contents = None; asked = Some (calls_told bucket.told); faults = faults_counted bucket.inner; quiet = ⊥ }

-- for the page that opens it, and then for the calls of the journal
abbrev pub IsAskedForAll : Option (List Entry) → Option StrangeBucket → Type 0
IsAskedForAll (Some entries) (Some store) = calls_told store.told ≡ opening ∷ calls_of entries
IsAskedForAll journal store = Unit {0}
