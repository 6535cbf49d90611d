-- What is told of a bucket before it is opened, by its name: where it is, and what it holds.
use Rattle.std.specs.Prelude.{ℕ, List, Bool, Option, Some, None, if◌then◌else◌, codes}
use Rattle.std.specs.Str.{bytes_eq}
use Rattle.bucket_core.specs.Contents.{Contents, nothing}

-- the one name that is not a folder's
abbrev pub names_memory : List ℕ → Bool
names_memory name = bytes_eq name (codes "memory")

-- the folder of a bucket that is not in memory
abbrev pub folder_under : List ℕ → Option (List ℕ)
folder_under name = if names_memory name then None else Some name

-- a bucket in memory holds nothing; of folders nothing is told
abbrev pub contents_under : List ℕ → Option Contents
contents_under name = if names_memory name then Some nothing else None
