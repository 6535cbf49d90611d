-- The numbers of a record.
use Rattle.std.specs.Prelude.{ℕ}

-- what a record begins with: `THJOURN1`, seen as one number of eight bytes
abbrev pub magic : ℕ
magic = 0x54484A4F55524E31

-- how many bytes a record has at most, which are 256 MiB
abbrev pub most_bytes : ℕ
most_bytes = 268_435_456

-- how many bytes the least entry has: the setting of a clock
abbrev pub least_entry : ℕ
least_entry = 22
