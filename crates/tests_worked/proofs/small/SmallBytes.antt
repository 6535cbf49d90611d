-- The small files are bytes, and the data of their chunk stand for the one sample.
use Rattle.std.proofs.Common.{◌≡◌, ℕ, zero, suc, true, List, [], ◌∷◌, Ok, refl, lit<}
use Rattle.std.specs.Prelude.{nat_lt}
use Rattle.std.specs.List.{list_all}
use Rattle.std.proofs.lemmas.Bool.{and_parts, ltb-true}
use Rattle.base.specs.Grammar.{IsBytes}
use Rattle.wire_bytes.specs.Fields.{bytes_at, groups_of, number_at, uvarint_at, varint_at}
use Rattle.wire_bytes.specs.Written.{groups_text, varint_text}
use Rattle.wire_bytes.specs.Crc.{crc, remainder}
use Rattle.wire_bytes.specs.Bits.{bits_in, bits_of, filled, number_of}
use Rattle.xor_chunks.specs.Data.{count_at, data_at, first_at, rest_at, samples_at}
use Rattle.xor_chunks.specs.Grammar.{IsText}
use Rattle.xor_chunks.specs.Written.{written}
use Rattle.xor_chunks.proofs.TextsRead.{found}
use Rattle.chunk_files.specs.Chunk.{frame_text}
use Rattle.chunk_files.specs.ChunkReading.{chunk_at}
use Rattle.tests_worked.specs.SmallFiles as files

-- ---- bytes

pub are_bytes : (bytes : List ℕ) → list_all (λ byte. nat_lt byte 256) bytes ≡ true → IsBytes bytes
are_bytes [] all i = lit< tt
are_bytes (byte ∷ bytes) all zero = ltb-true byte 256 (and_parts (nat_lt byte 256) (list_all (λ b. nat_lt b 256) bytes) all).0
are_bytes (byte ∷ bytes) all (suc i) = are_bytes bytes (and_parts (nat_lt byte 256) (list_all (λ b. nat_lt b 256) bytes) all).1 i

pub content_bytes : IsBytes files.content
unfolding files.content
content_bytes = are_bytes files.content refl

pub segment_bytes : IsBytes files.segment
unfolding files.segment files.chunk files.content
segment_bytes = are_bytes files.segment refl

pub index_bytes : IsBytes files.index
unfolding files.index files.symbols files.series files.label_index files.lists files.label_offsets files.table files.contents
index_bytes = are_bytes files.index refl

-- ---- the data of the chunk

pub content_read : data_at 8 files.content ≡ Ok files.up.samples
unfolding files.content data_at count_at samples_at first_at rest_at number_at varint_at uvarint_at groups_of number_of
content_read = refl

filled_read : data_at 7 files.content ≡ Ok files.up.samples
unfolding files.content data_at count_at samples_at first_at rest_at number_at varint_at uvarint_at groups_of number_of
filled_read = refl

pub stands : IsText 8 files.content files.up.samples
stands = found 8 files.content (Ok files.up.samples) content_bytes content_read

pub stands_filled : IsText 7 files.content files.up.samples
stands_filled = found 7 files.content (Ok files.up.samples) content_bytes filled_read

pub bits_are : bits_in files.content ≡ filled (written files.up.samples)
unfolding files.content bits_of varint_text groups_text
bits_are = refl

-- ---- the chunk

pub chunk_is : files.chunk ≡ frame_text files.content
unfolding files.chunk files.content crc remainder groups_text
chunk_is = refl

pub chunk_read : chunk_at files.chunk ≡ Ok files.content
unfolding files.chunk files.content chunk_at bytes_at number_at uvarint_at groups_of crc remainder
chunk_read = refl
