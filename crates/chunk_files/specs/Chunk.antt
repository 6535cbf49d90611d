-- Segments and the chunks in them, apart from reading and writing.
use Rattle.std.specs.Prelude.{◌≡◌, ℕ, ◌≤◌, List, [], ◌∷◌, ◌++◌, length, drop}
use Rattle.std.specs.Int.{w8, w32, to_be_bytes}
use Rattle.base.specs.Grammar.{HasFront}
use Rattle.wire_bytes.specs.FieldTexts.{IsFixed, IsUvarint}
use Rattle.wire_bytes.specs.Written.{uvarint_text}
use Rattle.wire_bytes.specs.Crc.{crc}
use Rattle.chunk_files.specs.Layout.{magic, version, header_size, greatest, xor}

-- a chunk: how many bytes of data it has, its encoding, that of XOR data, the data, and the sum of encoding and data
pub record IsChunk (text content : List ℕ) : Type 0 where
  pub size : List ℕ
  pub sum : List ℕ
  pub size_is : IsUvarint size (length content)
  pub sum_is : IsFixed w32 sum (crc (xor ∷ content))
  pub text_is : text ≡ size ++ (xor ∷ content) ++ sum

-- The bytes begin with a chunk of the data.
abbrev pub IsFront : List ℕ → List ℕ → Type 0
IsFront bytes content = (after : List ℕ) × HasFront IsChunk bytes content after

-- The bytes begin with the four of a segment and with its version.
pub record IsSegment (bytes : List ℕ) : Type 0 where
  pub after_magic : List ℕ
  pub after : List ℕ
  pub begins : HasFront (IsFixed w32) bytes magic after_magic
  pub numbered : HasFront (IsFixed w8) after_magic version after

-- At a place behind the segment's header stands a chunk of the data.
pub record IsPlace (segment : List ℕ) (offset : ℕ) (content : List ℕ) : Type 0 where
  pub begins : IsSegment segment
  pub behind : header_size ≤ offset
  pub stands : IsFront (drop offset segment) content

-- the header that the writer puts
abbrev pub header : List ℕ
header = to_be_bytes w32 magic ++ version ∷ 0 ∷ 0 ∷ 0 ∷ []

-- the one text of a chunk that the writer puts
abbrev pub frame_text : List ℕ → List ℕ
frame_text content = uvarint_text (length content) ++ (xor ∷ content) ++ to_be_bytes w32 (crc (xor ∷ content))

-- what a writer holds: a segment with its header, which has no more bytes than it may
pub record IsFilled (bytes : List ℕ) : Type 0 where
  pub begins : IsSegment bytes
  pub low : header_size ≤ length bytes
  pub high : length bytes ≤ greatest
