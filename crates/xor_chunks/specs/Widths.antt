-- How many bits the parts of a sample take.
use Rattle.std.specs.Prelude.{ℕ, ◌^◌}

-- the fields in which a change of a step may stand, of which the shortest that fits it is taken, and last one of 64 bits
abbrev pub narrow_field : ℕ
narrow_field = 14

abbrev pub middle_field : ℕ
middle_field = 17

abbrev pub wide_field : ℕ
wide_field = 20

-- a window's lead, as it is told
abbrev pub lead_field : ℕ
lead_field = 5

-- and its width
abbrev pub width_field : ℕ
width_field = 6

-- what tells a change in one of the first three fields, at most: four bits that say which, and the field
abbrev pub change_limit : ℕ
change_limit = 24

-- what stands in front of a value's bits, at most: two bits that say what follows, and a window's lead and width
abbrev pub head_limit : ℕ
head_limit = 13

-- both of them, which are peeked at before a sample is taken
abbrev pub peeked : ℕ
peeked = 37

-- a sample whose change stands in one of the first three fields, at most: both of them, and the value's 64 bits
abbrev pub sample_limit : ℕ
sample_limit = 101

-- in how many bytes such a sample has room, whichever bit of the first of them it begins with
abbrev pub sample_room : ℕ
sample_room = 16

-- before this time a step of less than as much has its end in 64 bits
abbrev pub soon_limit : ℕ
soon_limit = 2 ^ 62

-- the zero bits that fill the last byte of data, at most
abbrev pub filling : ℕ
filling = 7

-- the same of data as Prometheus stores it, which may end with a byte of zeros more
abbrev pub stored_filling : ℕ
stored_filling = 8
