-- What is told of a bucket and of a shelf in a folder: which folder it is, and how often they have failed.
use Rattle.std.specs.Prelude.{ℕ, List, Option, Some, None}
use Rattle.std.specs.String.{string_bytes}
use Rattle.bucket_core.specs.Named.{names_told}
use Rattle.bucket_core.specs.Told.{BucketTold, ShelfTold}
use Rattle.dir_bucket.specs.declared.dir_bucket.DirBucket.{DirBucket}
use Rattle.dir_bucket.specs.declared.dir_shelf.DirShelf.{DirShelf}
use Rattle.dir_bucket.specs.declared.trouble.Trouble.{Trouble}

-- the name of the folder that a bucket is in
abbrev pub bucket_folder : {R F D : Type 0} → DirBucket R F D → List ℕ
bucket_folder bucket = string_bytes bucket.folder

abbrev pub bucket_faults : {R F D : Type 0} → DirBucket R F D → ℕ
bucket_faults bucket = bucket.faults

-- why the first of its calls failed that did
abbrev pub bucket_trouble : {R F D : Type 0} → DirBucket R F D → Option Trouble
bucket_trouble bucket = bucket.trouble

-- what is told of it: it may fail at any call
abbrev pub bucket_told : {R F D : Type 0} → DirBucket R F D → BucketTold
bucket_told bucket = record { contents = None; asked = None; faults = bucket_faults bucket; quiet = ⊥ }

-- the name of the folder of a shelf
abbrev pub shelf_folder : {R F D : Type 0} → DirShelf R F D → List ℕ
shelf_folder shelf = string_bytes shelf.folder

abbrev pub shelf_faults : {R F D : Type 0} → DirShelf R F D → ℕ
shelf_faults shelf = shelf.faults

-- why the first of its reads failed that did
abbrev pub shelf_trouble : {R F D : Type 0} → DirShelf R F D → Option Trouble
shelf_trouble shelf = shelf.trouble

-- the names that a shelf was asked for
abbrev pub names_noted : {R F D : Type 0} → DirShelf R F D → List (List ℕ)
names_noted shelf = names_told shelf.names

-- what is told of it
abbrev pub shelf_told : {R F D : Type 0} → DirShelf R F D → ShelfTold
shelf_told shelf = record { files = None; asked = Some (names_noted shelf); faults = shelf_faults shelf }
