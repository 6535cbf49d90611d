-- What a written block says of itself: what its plan says, with its counts and the sizes of its files.
use Rattle.std.specs.Prelude.{◌≡◌, ℕ, zero, suc, ◌+◌, ◌≤◌, pos, List, [], ◌∷◌, ◌++◌, length}
use lib.Chars.{codes}
use Rattle.index_parts.specs.IndexFile.{IsIndex}
use Rattle.index_writing.specs.WriteSteps.{greatest}
use Rattle.block_keys.specs.KeyText.{six_digits}
use Rattle.block_meta.specs.declared.file_size.FileSize.{FileSize}
use Rattle.block_meta.specs.MetaFields.{MetaFields, fields_of}
use Rattle.block_writing.specs.declared.counts.Counts.{Counts}
use Rattle.block_meta.specs.declared.block_files.BlockFiles.{BlockFiles}
use Rattle.block_writing.specs.Put.{PlanFields, Put, contents_of, fitted, IsPut}
use Rattle.block_writing.specs.Files.{AreFilesOf}

-- a segment of this number and the index, each with its size
abbrev pub segment_size : ℕ → List ℕ → FileSize
segment_size number segment = record { path = codes "chunks/" ++ six_digits number; bytes = fitted (length segment) }

abbrev pub index_size : List ℕ → FileSize
index_size index = record { path = codes "index"; bytes = fitted (length index) }

-- the sizes of segments, which are numbered from this number on
unfoldable pub sizes_from : ℕ → List (List ℕ) → List FileSize
sizes_from number [] = []
sizes_from number (segment ∷ segments) = segment_size number segment ∷ sizes_from (number + 1) segments

unfoldable pub sizes_of : List (List ℕ) → List ℕ → List FileSize
sizes_of segments index = sizes_from 1 segments ++ index_size index ∷ []

-- the names of so many segments, which are numbered from this number on
unfoldable pub names_from : ℕ → ℕ → List (List ℕ)
names_from number zero = []
names_from number (suc count) = six_digits number ∷ names_from (number + 1) count

unfoldable pub meta_with : PlanFields → Counts → List ℕ → List (List ℕ) → MetaFields
meta_with plan counts index segments = record {
  ulid = plan.ulid;
  min_time = plan.min_time;
  max_time = plan.max_time;
  series = counts.series;
  samples = counts.samples;
  chunks = counts.chunks;
  level = plan.level;
  sources = plan.sources;
  parents = plan.parents;
  labels = plan.labels;
  resolution = pos 0;
  source = plan.source;
  files = sizes_of segments index;
  segment_files = names_from 1 (length segments);
}

-- how much was put
abbrev pub counts_of : Put → Counts
counts_of put = record { series = fitted (length put.series); samples = put.samples; chunks = fitted (length (contents_of put.series)) }

-- The block is the one that was put, and its index is one of its series and not too large.
pub record IsWritten (put : Put) (block : BlockFiles) : Type 0 where
  pub lawful : IsPut put
  pub files : AreFilesOf put.series block.index block.segments
  pub indexed : IsIndex block.index files.listed
  pub small : length block.index ≤ greatest
  pub meta : fields_of block.meta ≡ meta_with put.plan (counts_of put) block.index block.segments
