-- What reading the table of contents gives, or the first refusal.
use Rattle.std.specs.Prelude.{ℕ, ◌-◌, List, length, Result, Ok, nat_le}
use Rattle.std.specs.Int.{w64}
use Rattle.base.specs.Reading.{◌>>=◌, ◌>>◌, unless}
use Rattle.wire_bytes.specs.Position.{Position}
use Rattle.wire_bytes.specs.Fields.{number_at}
use Rattle.index_parts.specs.declared.refusal.PartRefusal.{PartRefusal}
use Rattle.index_parts.specs.declared.refusal.PartRefusal.TheVariants.{Short}
use Rattle.index_parts.specs.declared.toc_reading.Toc.{Toc}
use Rattle.index_parts.specs.Placed.{at_place, field}
use Rattle.index_parts.specs.Framing.{summed_at}
use Rattle.index_parts.specs.Contents.{contents_size, references_size}

-- six references
unfoldable pub references_at : Position → Result Toc PartRefusal
references_at p = do
  symbols ← field (number_at w64) p
  series ← field (number_at w64) symbols.1
  label_indices ← field (number_at w64) series.1
  label_offsets ← field (number_at w64) label_indices.1
  postings ← field (number_at w64) label_offsets.1
  postings_table ← field (number_at w64) postings.1
  Ok (record {
    symbols = symbols.0;
    series = series.0;
    label_indices = label_indices.0;
    label_offsets = label_offsets.0;
    postings = postings.0;
    postings_table = postings_table.0;
  })

-- the last bytes; where there are fewer, the refusal's place is 0
unfoldable pub toc_at : List ℕ → Result Toc PartRefusal
toc_at index = do
  unless (nat_le contents_size (length index)) (Short 0)
  content ← summed_at (length index - contents_size) references_size (at_place index (length index - contents_size))
  references_at content
