-- What is told of a bucket in memory or in a folder.
use Rattle.std.specs.Prelude.{◌≡◌, ℕ, List, Option, Some, None, IsSome}
use Rattle.bucket_core.specs.Asking.{Call}
use Rattle.bucket_core.specs.Contents.{Contents, IsKey}
use Rattle.bucket_core.specs.KeyLaw.{told_is_key as objects_are_keys}
use Rattle.bucket_core.specs.MemoryBucket.{objects_held, faults_counted as memory_faults, IsQuiet as IsQuietMemory}
use Rattle.bucket_core.specs.Noted.{calls_told}
use Rattle.bucket_core.specs.Told.{BucketTold}
use Rattle.dir_bucket.specs.Folders.{bucket_faults, bucket_folder, bucket_trouble}
use Rattle.dir_bucket.specs.declared.host_bucket.HostBucket.{HostBucket}
use Rattle.dir_bucket.specs.declared.host_bucket.HostBucket.TheVariants.{Memory, Folder}
use Rattle.dir_bucket.specs.declared.trouble.Trouble.{Trouble}

-- what stands in memory; nothing is told of a folder
abbrev pub contents_told : {R F D : Type 0} → HostBucket R F D → Option Contents
contents_told (Memory bucket notes) = Some (objects_held bucket)
contents_told (Folder bucket notes) = None

-- the calls that it was asked
abbrev pub calls_noted : {R F D : Type 0} → HostBucket R F D → List Call
calls_noted (Memory bucket notes) = calls_told notes
calls_noted (Folder bucket notes) = calls_told notes

abbrev pub faults_counted : {R F D : Type 0} → HostBucket R F D → ℕ
faults_counted (Memory bucket notes) = memory_faults bucket
faults_counted (Folder bucket notes) = bucket_faults bucket

-- the folder that the bucket is in, where it is not in memory
abbrev pub folder_of : {R F D : Type 0} → HostBucket R F D → Option (List ℕ)
folder_of (Memory bucket notes) = None
folder_of (Folder bucket notes) = Some (bucket_folder bucket)

-- why the first of its calls failed that did, as far as the system tells
abbrev pub trouble_of : {R F D : Type 0} → HostBucket R F D → Option Trouble
trouble_of (Memory bucket notes) = None
trouble_of (Folder bucket notes) = bucket_trouble bucket

-- a folder may fail at any call
abbrev pub IsQuiet : {R F D : Type 0} → HostBucket R F D → Type 0
IsQuiet (Memory bucket notes) = IsQuietMemory bucket
IsQuiet (Folder bucket notes) = ⊥

-- what is told of it
abbrev pub bucket_told : {R F D : Type 0} → HostBucket R F D → BucketTold
bucket_told bucket = record {
  contents = contents_told bucket;
  asked = Some (calls_noted bucket);
  faults = faults_counted bucket;
  quiet = IsQuiet bucket;
}

pub told_is_key : {R F D : Type 0} → (bucket : HostBucket R F D) (c : Contents) (key : List ℕ) → contents_told bucket ≡ Some c → IsSome (c key) → IsKey key
told_is_key (Memory bucket notes) c key told some = objects_are_keys bucket.objects.items bucket.keys c key told some
told_is_key (Folder bucket notes) c key told some = cc
