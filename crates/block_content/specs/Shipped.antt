-- What is shipped of a checked block: its segments and its index as they are, and its meta with a part that tells of shipping.
use Rattle.std.specs.Prelude.{◌≡◌, ◌≢◌, ℕ, ◌<◌, pos, List, [], ◌∷◌, ◌++◌, length, map, slice_index}
use lib.Chars.{codes}
use Rattle.label_sets.specs.declared.label.Label.{Label}
use Rattle.block_keys.specs.Keys.{key_number}
use Rattle.block_keys.specs.KeyText.{name_of, six_digits}
use Rattle.block_keys.specs.declared.key.Key.TheVariants as key
use Rattle.block_keys.specs.declared.object.Object.{Object}
use Rattle.block_meta.specs.declared.file_size.FileSize.{FileSize}
use Rattle.block_meta.specs.declared.meta.Meta.{Meta}
use Rattle.block_meta.specs.MetaFields.{MetaFields}
use Rattle.block_meta.specs.Built.{segment_objects}
use Rattle.wire_bytes.specs.Files.{slash}

-- a file of a block as a meta lists it: its path below the block's folder, and its size
abbrev pub size_of : Object → FileSize
size_of object = record { path = name_of object.key; bytes = length object.bytes }

-- the name of a segment's file
abbrev pub segment_name : Object → List ℕ
segment_name object = six_digits (key_number object.key)

unfoldable pub sizes_of : ℕ → List (List ℕ) → List ℕ → List FileSize
sizes_of ulid segments index = map size_of (segment_objects ulid 1 segments ++ record { key = key.Index ulid; bytes = index } ∷ [])

unfoldable pub names_of : ℕ → List (List ℕ) → List (List ℕ)
names_of ulid segments = map segment_name (segment_objects ulid 1 segments)

-- The meta of a block of these segments and this index as it is shipped. Its counts, times, sources and parents stay. All else
-- is replaced: the labels are the external ones of the server, and the files are the block's other objects.
unfoldable pub shipped_meta : Meta → List (List ℕ) → List ℕ → List Label → MetaFields
shipped_meta meta segments index external = record {
  ulid = meta.ulid;
  min_time = meta.min_time;
  max_time = meta.max_time;
  series = meta.series;
  samples = meta.samples;
  chunks = meta.chunks;
  level = meta.level;
  sources = meta.sources;
  parents = meta.parents;
  labels = external;
  resolution = pos 0;
  source = codes "sidecar";
  files = sizes_of meta.ulid segments index;
  segment_files = names_of meta.ulid segments;
}

-- the text has a slash behind these bytes, none of which is one, and the rest stands behind it
pub record IsBehindSlash (text before rest : List ℕ) : Type 0 where
  pub text_is : text ≡ before ++ (slash ∷ rest)
  pub first : (i : ℕ) → i < length before → slice_index before i ≢ slash
