-- Lines of a text.
use Rattle.std.specs.Prelude.{ℕ, List, [], ◌∷◌}

-- a newline, as one byte
abbrev pub line_feed : ℕ
line_feed = 10

-- a line ends with a newline
abbrev pub newline : List ℕ
newline = line_feed ∷ []
