-- The field in which a few samples are put together, from the last sign to the first.
use Rattle.std.specs.Prelude.{ℕ}

-- how much room a sample has
abbrev pub sample_room : ℕ
sample_room = 40

-- how many signs a time has at most: one of what is below zero, and nineteen digits
abbrev pub time_length : ℕ
time_length = 20

-- how many samples there are at most
abbrev pub most_at_once : ℕ
most_at_once = 12

-- how long the field is
abbrev pub field_length : ℕ
field_length = 480
