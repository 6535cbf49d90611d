-- Bits on their way between bytes and a word: they stand at the word's top, and below them are zeros.
use Rattle.std.specs.Prelude.{◌≡◌, ℕ, ◌-◌, ◌/◌, ◌%◌, ◌^◌, ◌<◌, ◌≤◌, Bool, false, List, ◌++◌, replicate, take}
use Rattle.wire_bytes.specs.Bits.{bits_of, bits_in, number_of}

-- the first count bits of a word
abbrev pub top : ℕ → ℕ → List Bool
top word count = bits_of count (word / 2 ^ (64 - count))

-- how many bits wait at least in a word that has no room for one byte more, so that so many can be peeked at
abbrev pub peek_limit : ℕ
peek_limit = 56

-- fewer than 64 bits wait, and the rest of the word is clear
pub record IsBuffer (word count : ℕ) : Type 0 where
  pub part : count < 64
  pub clear : word % 2 ^ (64 - count) ≡ 0

-- the bits that wait, and those of the bytes after them
abbrev pub buffered : ℕ → ℕ → List ℕ → List Bool
buffered word count bytes = top word count ++ bits_in bytes

-- the number of the first count bits, where zero bits stand for those that lack
abbrev pub front : ℕ → List Bool → ℕ
front count bits = number_of (take count (bits ++ replicate count false))

-- At the word's top stand the first bits, as many as are shown, and zero bits for those that lack.
pub record Shows (word shown : ℕ) (bits : List Bool) : Type 0 where
  pub first : (n : ℕ) → n ≤ shown → word / 2 ^ (64 - n) ≡ front n bits
