-- What a shelf in memory shows: its files, and the calls that are to fail.
use Rattle.std.specs.Prelude.{◌≡◌, ℕ, Bool, if◌then◌else◌, List, Option, Some, None, IsSome, find, option_map}
use Rattle.std.specs.Str.{bytes_eq}
use Rattle.bucket_core.specs.Calls.{next_call, failure_of}
use Rattle.bucket_core.specs.Contents.{Contents}
use Rattle.bucket_core.specs.Told.{ShelfTold}
use Rattle.bucket_core.specs.declared.answer.ShelfAnswer.{ShelfAnswer}
use Rattle.bucket_core.specs.declared.answer.ShelfAnswer.TheVariants.{Found, Absent, TooLarge, Failed, NoMemory}
use Rattle.bucket_core.specs.declared.fail.Fail.{Fail}
use Rattle.bucket_core.specs.declared.file.File.{File}
use Rattle.bucket_core.specs.declared.memory_shelf.MemoryShelf.{MemoryShelf}

-- the bytes under a name, which are those of the first file that has it
abbrev pub file_in : List File → Contents
file_in files name = option_map (λ file. file.bytes) (find (λ file. bytes_eq file.name name) files)

abbrev pub files_held : MemoryShelf → List File
files_held shelf = shelf.files

abbrev pub calls_made : MemoryShelf → ℕ
calls_made shelf = shelf.calls

abbrev pub calls_to_fail : MemoryShelf → List Fail
calls_to_fail shelf = shelf.failing

abbrev pub faults_counted : MemoryShelf → ℕ
faults_counted shelf = shelf.faults

-- what is told of it; it tells no names
abbrev pub shelf_told : MemoryShelf → ShelfTold
shelf_told shelf = record {
  files = Some (file_in (files_held shelf));
  asked = None;
  faults = faults_counted shelf;
}

-- what the list says of the next call
abbrev pub next_failure : MemoryShelf → Option Bool
next_failure shelf = failure_of (calls_to_fail shelf) (next_call (calls_made shelf))

-- a call fails just where the list says so
abbrev pub ReadsBy : Option Bool → ShelfAnswer → Type 0
ReadsBy failure (Found bytes) = failure ≡ None
ReadsBy failure Absent = failure ≡ None
ReadsBy failure TooLarge = failure ≡ None
ReadsBy failure Failed = IsSome failure
ReadsBy failure NoMemory = failure ≡ None

-- the shelf after one more call, which is counted as a failure too where it failed
pub record ReadCounted (failed : Bool) (old new : MemoryShelf) : Type 0 where
  pub files : files_held new ≡ files_held old
  pub calls : calls_made new ≡ next_call (calls_made old)
  pub list : calls_to_fail new ≡ calls_to_fail old
  pub faults : faults_counted new ≡ if failed then next_call (faults_counted old) else faults_counted old
