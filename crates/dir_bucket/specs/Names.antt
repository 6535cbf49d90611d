-- Names that stand for a file below a folder, each for another one.
use Rattle.std.specs.Prelude.{◌==◌, ℕ, Bool, true, false, not, ◌&&◌, ◌||◌, List, [], ◌∷◌}
use Rattle.wire_bytes.specs.Files.{slash}

abbrev pub dot : ℕ
dot = 46

-- a part of a name begins here that is empty, or begins with a dot
abbrev pub is_odd_start : List ℕ → Bool
is_odd_start [] = true
is_odd_start (byte ∷ rest) = (byte == slash) || (byte == dot)

-- such a part begins behind some slash, or there is a byte 0, which no file's name has
abbrev pub has_odd_part : List ℕ → Bool
has_odd_part [] = false
has_odd_part (byte ∷ rest) = ((byte == slash) && is_odd_start rest) || (byte == 0) || has_odd_part rest

-- No part of the name between slashes is empty or begins with a dot. So it stays below the folder, and no other plain name
-- stands for the same file.
abbrev pub is_plain : List ℕ → Bool
is_plain name = not (has_odd_part (slash ∷ name))
