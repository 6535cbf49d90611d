-- The numbers of a segment file.
use Rattle.std.specs.Prelude.{ℕ}
use Rattle.wire_bytes.specs.Files.{file_limit}

-- what a segment begins with
abbrev pub magic : ℕ
magic = 0x85BD40DD

abbrev pub version : ℕ
version = 1

-- how many bytes a segment's header has
abbrev pub header_size : ℕ
header_size = 8

-- how many bytes a chunk has beside its length and its data: its encoding, and the sum
abbrev pub frame_size : ℕ
frame_size = 5

-- how many bytes a segment has at most
abbrev pub greatest : ℕ
greatest = file_limit

-- ---- encodings of a chunk's data

abbrev pub xor : ℕ
xor = 1

abbrev pub histogram : ℕ
histogram = 2

abbrev pub float_histogram : ℕ
float_histogram = 3
