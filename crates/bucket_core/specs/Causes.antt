-- Counts of faults: a failure is answered only where the count rose in the call.
use Rattle.std.specs.Prelude.{◌≡◌, ℕ, ◌+◌, ◌-◌, ◌^◌, ◌≤◌, min, Bool, true, false, IsTrue, Result, Ok, Err}
use Rattle.bucket_core.specs.declared.answer.PutAnswer.{PutAnswer}
use Rattle.bucket_core.specs.declared.answer.PutAnswer.TheVariants as put
use Rattle.bucket_core.specs.declared.answer.GetAnswer.{GetAnswer}
use Rattle.bucket_core.specs.declared.answer.GetAnswer.TheVariants as get
use Rattle.bucket_core.specs.declared.answer.DeleteAnswer.{DeleteAnswer}
use Rattle.bucket_core.specs.declared.answer.DeleteAnswer.TheVariants as delete
use Rattle.bucket_core.specs.declared.answer.PageAnswer.{PageAnswer}
use Rattle.bucket_core.specs.declared.answer.PageAnswer.TheVariants as page
use Rattle.bucket_core.specs.declared.answer.ReadAnswer.{ReadAnswer}
use Rattle.bucket_core.specs.declared.answer.ReadAnswer.TheVariants as read
use Rattle.bucket_core.specs.declared.answer.ShelfAnswer.{ShelfAnswer}
use Rattle.bucket_core.specs.declared.answer.ShelfAnswer.TheVariants as file
use Rattle.bucket_core.specs.declared.answer.WriteAnswer.{WriteAnswer}
use Rattle.bucket_core.specs.declared.site_refusal.SiteRefusal.{SiteRefusal}
use Rattle.bucket_core.specs.declared.site_refusal.SiteRefusal.TheVariants as refusal
use Rattle.bucket_core.specs.declared.answer.WriteAnswer.TheVariants as write
use Rattle.bucket_core.specs.Told.{BucketTold}

-- The count went up by one at least. At the greatest count, 2^64 - 1, it stays, and is said to have risen in each call: there a
-- failure is not told apart by the count.
abbrev pub Rose : ℕ → ℕ → Type 0
Rose before now = min (before + 1) (2 ^ 64 - 1) ≤ now

-- A call failed or not: the count of faults does not fall, a failure makes it rise, and nothing else does.
pub record CountsFaults (before now : ℕ) (failed : Bool) : Type 0 where
  pub later : before ≤ now
  pub cause : IsTrue failed → Rose before now
  pub only : failed ≡ false → now ≡ before

-- So a call counts that took a bucket from `old` to `new`; and a quiet bucket does not fail and stays quiet.
pub record KeepsFaults (old new : BucketTold) (failed : Bool) : Type 0 where
  pub later : old.faults ≤ new.faults
  pub cause : IsTrue failed → Rose old.faults new.faults
  pub only : failed ≡ false → new.faults ≡ old.faults
  pub calm : old.quiet → new.quiet × (failed ≡ false)

-- whether a call failed, by its answer
abbrev pub put_failed : PutAnswer → Bool
put_failed put.Stored = false
put_failed (put.Failed landed) = true
put_failed put.NoMemory = false

abbrev pub get_failed : GetAnswer → Bool
get_failed (get.Found bytes) = false
get_failed get.Absent = false
get_failed get.Failed = true
get_failed get.NoMemory = false

abbrev pub delete_failed : DeleteAnswer → Bool
delete_failed delete.Deleted = false
delete_failed (delete.Failed landed) = true

abbrev pub page_failed : PageAnswer → Bool
page_failed (page.Names names) = false
page_failed page.Failed = true
page_failed page.NoMemory = false

abbrev pub file_failed : ShelfAnswer → Bool
file_failed (file.Found bytes) = false
file_failed file.Absent = false
file_failed file.TooLarge = false
file_failed file.Failed = true
file_failed file.NoMemory = false

abbrev pub read_failed : ReadAnswer → Bool
read_failed (read.Got count) = false
read_failed read.Failed = true

abbrev pub write_failed : WriteAnswer → Bool
write_failed (write.Took count) = false
write_failed write.Failed = true

-- whether nothing was opened since the site failed
abbrev pub opening_failed : {X : Type 0} → Result X SiteRefusal → Bool
opening_failed (Ok opened) = false
opening_failed (Err refusal.Failed) = true
opening_failed (Err refusal.NoMemory) = false
