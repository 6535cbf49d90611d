-- The words of a command line, and what they name.
use Rattle.std.specs.Prelude.{ℕ, String, List, [], ◌∷◌, Option, Some, None, is_some, if◌then◌else◌, codes}
use Rattle.std.specs.Result.{result_ok}
use Rattle.std.specs.Str.{bytes_eq}
use Rattle.std.specs.String.{string_bytes}
use Rattle.std.specs.declared.alloc.Global.{Global}
use Rattle.base.specs.Decimal.{unsigned_of}
use Rattle.ulid_core.specs.UlidText.{ulid_of}
use Rattle.call_verdicts.specs.Outside.{Names, names}

-- the bucket of a run, which words of this name name: `NAME BUCKET SHELF`
abbrev pub bucket_in : List ℕ → List (String Global) → Option (List ℕ)
bucket_in name (call ∷ bucket ∷ shelf ∷ []) = if bytes_eq (string_bytes call) name then Some (string_bytes bucket) else None
bucket_in name other = None

-- the bucket of the words `serial BUCKET SHELF`
abbrev pub bucket_word : List (String Global) → Option (List ℕ)
bucket_word words = bucket_in (codes "serial") words

-- the bucket of the words `replay BUCKET SHELF`
abbrev pub replay_word : List (String Global) → Option (List ℕ)
replay_word words = bucket_in (codes "replay") words

-- the block to be checked, which the words `check SHELF ULID` name
abbrev pub block_word : List (String Global) → Option ℕ
block_word (call ∷ shelf ∷ block ∷ []) = if bytes_eq (string_bytes call) (codes "check") then result_ok (ulid_of (string_bytes block)) else None
block_word other = None

-- the number of the generated day, which the words `generate NUMBER` name
abbrev pub number_word : List (String Global) → Option ℕ
number_word (call ∷ number ∷ []) = if bytes_eq (string_bytes call) (codes "generate") then result_ok (unsigned_of (string_bytes number)) else None
number_word other = None

-- the shelf that a word names, which is none where it is `none`
abbrev pub named_by : List ℕ → Option (List ℕ)
named_by word = if bytes_eq word (codes "none") then None else Some word

-- the shelf of a run
abbrev pub run_shelf : List (String Global) → Option (List ℕ)
run_shelf (call ∷ bucket ∷ shelf ∷ []) = named_by (string_bytes shelf)
run_shelf other = None

-- the shelf of a block that is to be checked
abbrev pub block_shelf : List (String Global) → Option (List ℕ)
block_shelf (call ∷ shelf ∷ block ∷ []) = named_by (string_bytes shelf)
block_shelf other = None

-- the shelf of a run, or of a block that is to be checked, where the words name one
abbrev pub shelf_word : List (String Global) → Option (List ℕ)
shelf_word words = if is_some (bucket_word words) then run_shelf words else (if is_some (block_word words) then block_shelf words else None)

-- the shelf of the words `replay BUCKET SHELF`
abbrev pub replay_shelf : List (String Global) → Option (List ℕ)
replay_shelf words = if is_some (replay_word words) then run_shelf words else None

-- what the words of a call name that does its tasks one after another, or checks a block
abbrev pub serial_names : List (String Global) → Names
serial_names words = names (bucket_word words) (shelf_word words) (block_word words)

-- what the words of a call name that does its tasks with threads
abbrev pub replay_names : List (String Global) → Names
replay_names words = names (replay_word words) (replay_shelf words) None
