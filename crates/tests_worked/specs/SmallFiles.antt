-- The files of a block of one series with one sample, byte by byte, and what they hold.
use Rattle.std.specs.Prelude.{ℕ, pos, List, [], ◌∷◌, ◌++◌, codes}
use Rattle.label_sets.specs.declared.series.Series.{Series}

-- {__name__="up"} 1000:3ff0000000000000
abbrev pub up : Series
up = record {
  labels = record { name = codes "__name__"; value = codes "up" } ∷ [];
  samples = record { time = pos 1000; pattern = 0x3ff0_0000_0000_0000 } ∷ [];
}

-- four bytes, and a small number in four bytes and in eight
abbrev bytes : ℕ → ℕ → ℕ → ℕ → List ℕ
bytes a b c d = a ∷ b ∷ c ∷ d ∷ []

abbrev four : ℕ → List ℕ
four number = bytes 0 0 0 number

abbrev eight : ℕ → List ℕ
eight number = four 0 ++ four number

-- zeros up to the next section
abbrev zeros : List ℕ
zeros = 0 ∷ 0 ∷ 0 ∷ []

-- ---- the segment

-- XOR data: that it is one sample, the sample's time in base 128, and its value
unfoldable pub content : List ℕ
content = 0 ∷ 1 ∷ 0xd0 ∷ 0x0f ∷ bytes 0x3f 0xf0 0 0 ++ four 0

-- the size of the data, their encoding, the data and their sum
unfoldable pub chunk : List ℕ
chunk = 12 ∷ 1 ∷ content ++ bytes 0xb1 0x83 0x43 0x01

unfoldable pub segment : List ℕ
segment = bytes 0x85 0xbd 0x40 0xdd ++ bytes 1 0 0 0 ++ chunk

-- ---- the index, section by section: each is the size of what it holds, that, and its sum

-- at 5: two symbols, which are the name and the value of the label
unfoldable pub symbols : List ℕ
symbols = four 16 ++ four 2 ++ 8 ∷ codes "__name__" ++ 2 ∷ codes "up" ++ bytes 0x10 0x7d 0x8b 0x61 ++ zeros

-- at 32: the series, of one label, symbols 0 and 1, and of one chunk, which lasts from 1000 to 1000 and stands at 8
unfoldable pub series : List ℕ
series = 8 ∷ 1 ∷ 0 ∷ 1 ∷ 1 ∷ 0xd0 ∷ 0x0f ∷ 0 ∷ 8 ∷ bytes 0xc4 0x2f 0xee 0x9e ++ zeros

-- at 48: the label index of the name, which has one value, symbol 1
unfoldable pub label_index : List ℕ
label_index = four 12 ++ four 1 ++ four 1 ++ four 1 ++ bytes 0x15 0x24 0x8f 0xba

-- at 68 and at 84: the postings list of all series, and that of the label. The series has the number 2.
unfoldable pub lists : List ℕ
lists = four 8 ++ four 1 ++ four 2 ++ bytes 0x55 0x02 0xad 0xd1 ++ four 8 ++ four 1 ++ four 2 ++ bytes 0x55 0x02 0xad 0xd1

-- at 100: that the label index of the name stands at 48
unfoldable pub label_offsets : List ℕ
label_offsets = four 15 ++ four 1 ++ 1 ∷ 8 ∷ codes "__name__" ++ 48 ∷ bytes 0x51 0xfd 0x8c 0xa7

-- at 123: that the list of all series stands at 68, and that of the label at 84
unfoldable pub table : List ℕ
table = four 22 ++ four 2 ++ 2 ∷ 0 ∷ 0 ∷ 68 ∷ 2 ∷ 8 ∷ codes "__name__" ++ 2 ∷ codes "up" ++ 84 ∷ bytes 0xda 0x8a 0x21 0x0e

-- at 153: where the symbols, the series, the label indices, their table, the postings lists and theirs begin
unfoldable pub contents : List ℕ
contents = eight 5 ++ eight 32 ++ eight 48 ++ eight 100 ++ eight 68 ++ eight 123 ++ bytes 0xd9 0xe2 0xfa 0xce

-- behind its four bytes and its version
unfoldable pub index : List ℕ
index = bytes 0xba 0xaa 0xd7 0x00 ++ 2 ∷ symbols ++ series ++ label_index ++ lists ++ label_offsets ++ table ++ contents
