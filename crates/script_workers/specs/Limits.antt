-- The limits of a phase.
use Rattle.std.specs.Prelude.{ℕ}

-- how many workers one phase may need
abbrev pub most_workers : ℕ
most_workers = 64
