-- What a bucket in memory shows: its objects, and the calls that are to fail.
use Rattle.std.specs.Prelude.{◌≡◌, ◌≢◌, ℕ, Bool, false, if◌then◌else◌, List, Option, Some, None, IsSome}
use Rattle.bucket_core.specs.Calls.{next_call, failure_of, AllOver}
use Rattle.bucket_core.specs.Contents.{Contents}
use Rattle.bucket_core.specs.Stored.{object_in}
use Rattle.bucket_core.specs.Told.{BucketTold}
use Rattle.bucket_core.specs.declared.answer.PutAnswer.{PutAnswer}
use Rattle.bucket_core.specs.declared.answer.PutAnswer.TheVariants as put
use Rattle.bucket_core.specs.declared.answer.GetAnswer.{GetAnswer}
use Rattle.bucket_core.specs.declared.answer.GetAnswer.TheVariants as get
use Rattle.bucket_core.specs.declared.answer.DeleteAnswer.{DeleteAnswer}
use Rattle.bucket_core.specs.declared.answer.DeleteAnswer.TheVariants as delete
use Rattle.bucket_core.specs.declared.answer.PageAnswer.{PageAnswer}
use Rattle.bucket_core.specs.declared.answer.PageAnswer.TheVariants as page
use Rattle.bucket_core.specs.declared.fail.Fail.{Fail}
use Rattle.bucket_core.specs.declared.memory_bucket.MemoryBucket.{MemoryBucket}

abbrev pub objects_held : MemoryBucket → Contents
objects_held bucket = object_in bucket.objects.items

abbrev pub calls_made : MemoryBucket → ℕ
calls_made bucket = bucket.calls

abbrev pub calls_to_fail : MemoryBucket → List Fail
calls_to_fail bucket = bucket.failing

abbrev pub faults_counted : MemoryBucket → ℕ
faults_counted bucket = bucket.faults

-- no call of the list is to come
abbrev pub IsQuiet : MemoryBucket → Type 0
IsQuiet bucket = AllOver (calls_to_fail bucket) (next_call (calls_made bucket))

-- what is told of it; it tells no calls
abbrev pub bucket_told : MemoryBucket → BucketTold
bucket_told bucket = record {
  contents = Some (objects_held bucket);
  asked = None;
  faults = faults_counted bucket;
  quiet = IsQuiet bucket;
}

-- what the list says of the next call
abbrev pub next_failure : MemoryBucket → Option Bool
next_failure bucket = failure_of (calls_to_fail bucket) (next_call (calls_made bucket))

-- a call fails just where the list says so; a put that finds no memory has neither failed nor stored
abbrev pub PutsBy : Option Bool → PutAnswer → Type 0
PutsBy failure put.Stored = failure ≡ None
PutsBy failure (put.Failed landed) = failure ≡ Some landed
PutsBy failure put.NoMemory = failure ≢ Some false

abbrev pub GetsBy : Option Bool → GetAnswer → Type 0
GetsBy failure (get.Found bytes) = failure ≡ None
GetsBy failure get.Absent = failure ≡ None
GetsBy failure get.Failed = IsSome failure
GetsBy failure get.NoMemory = failure ≡ None

abbrev pub DeletesBy : Option Bool → DeleteAnswer → Type 0
DeletesBy failure delete.Deleted = failure ≡ None
DeletesBy failure (delete.Failed landed) = failure ≡ Some landed

abbrev pub PagesBy : Option Bool → PageAnswer → Type 0
PagesBy failure (page.Names names) = failure ≡ None
PagesBy failure page.Failed = IsSome failure
PagesBy failure page.NoMemory = failure ≡ None

-- the bucket after one more call, which is counted as a failure too where it failed
pub record CallCounted (failed : Bool) (old new : MemoryBucket) : Type 0 where
  pub calls : calls_made new ≡ next_call (calls_made old)
  pub list : calls_to_fail new ≡ calls_to_fail old
  pub faults : faults_counted new ≡ if failed then next_call (faults_counted old) else faults_counted old
