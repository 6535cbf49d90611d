-- The bytes that a writer puts for a value.
use Rattle.std.specs.Prelude.{ℕ, zero, suc, ◌+◌, ◌/◌, ◌%◌, List, [], ◌∷◌, nat_lt, if◌then◌else◌, ℤ}
use Rattle.wire_bytes.specs.Fields.{zigzag, group_base, low_group_count}

-- a number in base 128 in as few groups as it takes, of at most so many more than one
unfoldable pub groups_text : ℕ → ℕ → List ℕ
groups_text zero n = n ∷ []
groups_text (suc more) n = if nat_lt n group_base then n ∷ [] else (group_base + n % group_base) ∷ groups_text more (n / group_base)

-- a number of 64 bits
abbrev pub uvarint_text : ℕ → List ℕ
uvarint_text n = groups_text low_group_count n

-- a signed number of 64 bits
unfoldable pub varint_text : ℤ → List ℕ
varint_text n = uvarint_text (zigzag n)
