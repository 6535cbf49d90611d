-- What reading a field gives at a position: its value and the position after it, or the refusal.
use Rattle.std.specs.Prelude.{ℕ, zero, suc, ◌+◌, ◌-◌, ◌*◌, ◌/◌, ◌%◌, ◌^◌, List, [], ◌∷◌, length, take, Result, Ok, Err, nat_lt, ◌==◌, if◌then◌else◌, ℤ, pos, negsuc, ◌-ℤ◌}
use Rattle.std.specs.Int.{Width, byte_len, from_be_bytes}
use Rattle.base.specs.Reading.{◌>>=◌}
use Rattle.wire_bytes.specs.declared.varint.WireRefusal.{WireRefusal}
use Rattle.wire_bytes.specs.declared.varint.WireRefusal.TheVariants.{Short, Overlong}
use Rattle.wire_bytes.specs.Position.{Position, left, further}

-- so many bytes
unfoldable pub bytes_at : ℕ → Position → Result (List ℕ × Position) WireRefusal
bytes_at count p = if nat_lt (length (left p)) count then Err Short else Ok (take count (left p), further count p)

-- a number of fixed width, its highest byte first
unfoldable pub number_at : Width → Position → Result (ℕ × Position) WireRefusal
number_at w p =
    if nat_lt (length (left p)) (byte_len w)
    then Err Short
    else Ok (from_be_bytes w (take (byte_len w) (left p)), further (byte_len w) p)

-- How many values a group of seven bits can have. The byte of a group that another follows is as much greater than the group.
abbrev pub group_base : ℕ
group_base = 128

-- how many groups a number of 64 bits has at most
abbrev pub group_count : ℕ
group_count = 10

-- how many of these stand below the highest, which is one bit
abbrev pub low_group_count : ℕ
low_group_count = 9

-- groups of seven bits, the lowest first, and how many they are: at most so many more than one, the last of which is one bit
unfoldable pub groups_of : ℕ → List ℕ → Result (ℕ × ℕ) WireRefusal
groups_of more [] = Err Short
groups_of zero (group ∷ groups) = if nat_lt group 2 then Ok (group, 1) else Err Overlong
groups_of (suc more) (group ∷ groups) =
    if nat_lt group group_base
    then Ok (group, 1)
    else (groups_of more groups >>= λ high. Ok (group - group_base + group_base * high.0, high.1 + 1))

-- a number of 64 bits in base 128
unfoldable pub uvarint_at : Position → Result (ℕ × Position) WireRefusal
uvarint_at p = do
  n ← groups_of low_group_count (left p)
  Ok (n.0, further n.1 p)

-- A field of so many bits: above the middle it stands for itself less 2 ^ width.
abbrev pub field_value : ℕ → ℕ → ℤ
field_value width field = if nat_lt (2 ^ (width - 1)) field then pos field -ℤ pos (2 ^ width) else pos field

-- numbers on either side of zero in turn: 0, -1, 1, -2, 2 and so on
abbrev pub zigzag : ℤ → ℕ
zigzag (pos n) = 2 * n
zigzag (negsuc n) = 2 * n + 1

-- the number that stands for another in that order
abbrev pub unzigzag : ℕ → ℤ
unzigzag n = if n % 2 == 0 then pos (n / 2) else negsuc (n / 2)

-- a signed number of 64 bits, by its place in that order
unfoldable pub varint_at : Position → Result (ℤ × Position) WireRefusal
varint_at p = do
  n ← uvarint_at p
  Ok (unzigzag n.0, n.1)
