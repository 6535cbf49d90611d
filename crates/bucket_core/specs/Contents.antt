-- What a bucket holds, and what each call leaves and shows.
use Rattle.std.specs.Prelude.{◌≡◌, ◌==◌, ℕ, Bool, true, false, not, IsTrue, if◌then◌else◌, List, [], ◌∷◌, take, drop, Option, Some, None}
use Rattle.std.specs.Str.{bytes_eq}
use Rattle.wire_bytes.specs.Files.{slash}
use Rattle.bucket_core.specs.declared.answer.PutAnswer.{PutAnswer}
use Rattle.bucket_core.specs.declared.answer.PutAnswer.TheVariants as put
use Rattle.bucket_core.specs.declared.answer.GetAnswer.{GetAnswer}
use Rattle.bucket_core.specs.declared.answer.GetAnswer.TheVariants as get
use Rattle.bucket_core.specs.declared.answer.DeleteAnswer.{DeleteAnswer}
use Rattle.bucket_core.specs.declared.answer.DeleteAnswer.TheVariants as delete

-- the bytes that stand under each key, where there are any
abbrev pub Contents : Type 0
Contents = List ℕ → Option (List ℕ)

-- a text that an object may stand under: it is not empty and does not begin with a slash
abbrev pub is_key : List ℕ → Bool
is_key [] = false
is_key (first ∷ rest) = not (first == slash)

abbrev pub IsKey : List ℕ → Type 0
IsKey text = IsTrue (is_key text)

-- nothing stands
abbrev pub nothing : Contents
nothing key = None

-- these bytes stand under the key, and all else as before
abbrev pub with_object : List ℕ → List ℕ → Contents → Contents
with_object key bytes contents = λ other. if bytes_eq key other then Some bytes else contents other

-- nothing stands under the key, and all else as before
abbrev pub without_object : List ℕ → Contents → Contents
without_object key contents = λ other. if bytes_eq key other then None else contents other

-- whether the object of a put stands after this answer
abbrev pub put_landed : PutAnswer → Bool
put_landed put.Stored = true
put_landed (put.Failed landed) = landed
put_landed put.NoMemory = false

-- whether the object of a deletion is gone after this answer
abbrev pub delete_landed : DeleteAnswer → Bool
delete_landed delete.Deleted = true
delete_landed (delete.Failed landed) = landed

-- what a put leaves, by its answer
abbrev pub after_put : List ℕ → List ℕ → PutAnswer → Contents → Contents
after_put key bytes answer contents = if put_landed answer then with_object key bytes contents else contents

-- what a deletion leaves, by its answer
abbrev pub after_delete : List ℕ → DeleteAnswer → Contents → Contents
after_delete key answer contents = if delete_landed answer then without_object key contents else contents

-- the bytes from a place on, at most so many, and none where the place is past the end
abbrev pub range_of : ℕ → ℕ → List ℕ → List ℕ
range_of from len bytes = take len (drop from bytes)

-- what a get may answer about an object
abbrev pub Shows : Option (List ℕ) → GetAnswer → Type 0
Shows object (get.Found bytes) = object ≡ Some bytes
Shows object get.Absent = object ≡ None
Shows object get.Failed = Unit {0}
Shows object get.NoMemory = Unit {0}
