-- The limit of files, and what stands in their names.
use Rattle.std.specs.Prelude.{ℕ}

-- the most bytes that a file of a block may have, which are 64 MiB
abbrev pub file_limit : ℕ
file_limit = 67_108_864

-- the byte between the parts of a name
abbrev pub slash : ℕ
slash = 47
