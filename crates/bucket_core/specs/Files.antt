-- What the reading of a file may answer.
use Rattle.std.specs.Prelude.{◌≡◌, ℕ, ◌<◌, ◌≤◌, List, length, Option, Some, None, IsSomeAnd}
pub use Rattle.wire_bytes.specs.Files.{file_limit, slash}
use Rattle.bucket_core.specs.declared.answer.ShelfAnswer.{ShelfAnswer}
use Rattle.bucket_core.specs.declared.answer.ShelfAnswer.TheVariants.{Found, Absent, TooLarge, Failed, NoMemory}

-- what may be answered about a file that has these bytes, or about one that is not there
abbrev pub ShowsFile : Option (List ℕ) → ShelfAnswer → Type 0
ShowsFile file (Found bytes) = file ≡ Some bytes
ShowsFile file Absent = file ≡ None
ShowsFile file TooLarge = IsSomeAnd file (λ bytes. file_limit < length bytes)
ShowsFile file Failed = Unit {0}
ShowsFile file NoMemory = Unit {0}

-- no file is found that passes the limit
abbrev pub IsWithinLimit : ShelfAnswer → Type 0
IsWithinLimit (Found bytes) = length bytes ≤ file_limit
IsWithinLimit Absent = Unit {0}
IsWithinLimit TooLarge = Unit {0}
IsWithinLimit Failed = Unit {0}
IsWithinLimit NoMemory = Unit {0}
