-- Bits on their way from a word into bytes.
use Rattle.std.specs.Prelude.{ℕ, ◌+◌, ◌<◌, ◌≤◌, Bool, List, ◌++◌, vec_len, vec_capacity}
use Rattle.std.specs.Global.{Vec}
use Rattle.wire_bytes.specs.Bits.{bits_in}
use Rattle.wire_bytes.specs.Buffer.{top, IsBuffer}

-- the bits of the bytes, and those that wait
abbrev pub written_bits : List ℕ → ℕ → ℕ → List Bool
written_bits bytes word count = bits_in bytes ++ top word count

-- Bits that wait have room, so that they can be put behind the bytes without more memory.
pub record IsWriting (bytes : Vec ℕ) (word count : ℕ) : Type 0 where
  pub buffer : IsBuffer word count
  pub room : 0 < count → vec_len bytes + 8 ≤ vec_capacity bytes
