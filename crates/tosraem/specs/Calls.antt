-- Which of the tool's calls the words ask for.
use Rattle.std.specs.Prelude.{Bool, false, String, List, [], ◌∷◌, codes}
use Rattle.std.specs.Str.{bytes_eq}
use Rattle.std.specs.String.{string_bytes}
use Rattle.std.specs.declared.alloc.Global.{Global}

-- The first word is `replay`, which asks for threads. All other words go to the call without threads.
abbrev pub names_replay : List (String Global) → Bool
names_replay [] = false
names_replay (call ∷ others) = bytes_eq (string_bytes call) (codes "replay")
