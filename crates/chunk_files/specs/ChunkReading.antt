-- What reading a chunk gives: its data, or the first refusal.
use Rattle.std.specs.Prelude.{ℕ, ◌+◌, List, drop, slice_index, Result, Ok, Err, ◌==◌, ◌||◌, nat_le, if◌then◌else◌}
use Rattle.std.specs.Int.{w8, w32}
use Rattle.base.specs.Reading.{◌>>=◌, ◌>>◌, unless, refused_as}
use Rattle.wire_bytes.specs.Position.{start}
use Rattle.wire_bytes.specs.Fields.{number_at, uvarint_at, bytes_at}
use Rattle.wire_bytes.specs.Crc.{crc}
use Rattle.wire_bytes.specs.declared.varint.WireRefusal.{WireRefusal}
use Rattle.chunk_files.specs.Layout.{magic, version, header_size, xor, histogram, float_histogram}
use Rattle.chunk_files.specs.declared.refusal.ChunkRefusal.{ChunkRefusal}
use Rattle.chunk_files.specs.declared.refusal.ChunkRefusal.TheVariants.{BadMagic, BadVersion, Short, BadSum, Histogram, UnknownEncoding}

-- a field that cannot be read
abbrev pub as_short : WireRefusal → ChunkRefusal
as_short _ = Short

-- how a segment begins
unfoldable pub header_at : List ℕ → Result (Unit {0}) ChunkRefusal
header_at segment = do
  first ← refused_as (λ _. BadMagic) (number_at w32 (start segment))
  unless (first.0 == magic) BadMagic
  next ← refused_as (λ _. BadVersion) (number_at w8 first.1)
  unless (next.0 == version) BadVersion

-- the data of an encoding
abbrev pub by_encoding : ℕ → List ℕ → Result (List ℕ) ChunkRefusal
by_encoding encoding bytes =
    if encoding == xor then Ok bytes
    else (if encoding == histogram || encoding == float_histogram then Err (Histogram encoding) else Err (UnknownEncoding encoding))

-- the chunk at the front: its sum is tested before its encoding
unfoldable pub chunk_at : List ℕ → Result (List ℕ) ChunkRefusal
chunk_at bytes = do
  size ← refused_as as_short (uvarint_at (start bytes))
  framed ← refused_as as_short (bytes_at (size.0 + 1) size.1)
  kept ← refused_as as_short (number_at w32 framed.1)
  unless (kept.0 == crc framed.0) (BadSum kept.0 (crc framed.0))
  by_encoding (slice_index framed.0 0) (drop 1 framed.0)

-- the chunk at a place, which lies behind the header
unfoldable pub segment_at : List ℕ → ℕ → Result (List ℕ) ChunkRefusal
segment_at segment offset = do
  header_at segment
  unless (nat_le header_size offset) Short
  chunk_at (drop offset segment)
