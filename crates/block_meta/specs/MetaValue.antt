-- A meta and a deletion mark as JSON values, as they are written: the keys of each object ascend by their bytes. Their texts
-- are these values with no space.
use Rattle.std.specs.Prelude.{ℕ, ℤ, List, [], ◌∷◌, codes}
use Rattle.ulid_core.specs.UlidText as ulid
use Rattle.serde_json.specs.Data.{Data, number, unsigned, string, array, object, Items, no_items, item, Members, no_members, member}
use Rattle.serde_json.specs.Find.{of_integer}
use Rattle.serde_json.specs.Written.{compact_text}
use Rattle.label_sets.specs.declared.label.Label.{Label}
use Rattle.block_meta.specs.declared.parent.Parent.{Parent}
use Rattle.block_meta.specs.declared.file_size.FileSize.{FileSize}
use Rattle.block_meta.specs.MetaFields.{MetaFields, MarkFields}

abbrev pub unsigned_value : ℕ → Data
unsigned_value n = number (unsigned n)

abbrev pub signed_value : ℤ → Data
signed_value z = number (of_integer z)

unfoldable pub ulid_value : ℕ → Data
ulid_value u = string (ulid.text_of u)

-- the members in order, each by the same function
unfoldable pub items_value : {A : Type 0} → (A → Data) → List A → Items
items_value one [] = no_items
items_value one (x ∷ xs) = item (one x) (items_value one xs)

unfoldable pub parent_value : Parent → Data
parent_value parent =
    object (member (codes "maxTime") (signed_value parent.max_time)
    (member (codes "minTime") (signed_value parent.min_time)
    (member (codes "ulid") (ulid_value parent.ulid) no_members)))

unfoldable pub file_value : FileSize → Data
file_value file =
    object (member (codes "rel_path") (string file.path)
    (member (codes "size_bytes") (unsigned_value file.bytes) no_members))

-- the names, which ascend in a label set, with their values
unfoldable pub label_members : List Label → Members
label_members [] = no_members
label_members (label ∷ labels) = member label.name (string label.value) (label_members labels)

unfoldable pub stats_value : ℕ → ℕ → ℕ → Data
stats_value series samples chunks =
    object (member (codes "numChunks") (unsigned_value chunks)
    (member (codes "numSamples") (unsigned_value samples)
    (member (codes "numSeries") (unsigned_value series) no_members)))

-- no parents are left out
unfoldable pub compaction_value : ℕ → List ℕ → List Parent → Data
compaction_value level sources [] =
    object (member (codes "level") (unsigned_value level)
    (member (codes "sources") (array (items_value ulid_value sources)) no_members))
compaction_value level sources (parent ∷ parents) =
    object (member (codes "level") (unsigned_value level)
    (member (codes "parents") (array (items_value parent_value (parent ∷ parents)))
    (member (codes "sources") (array (items_value ulid_value sources)) no_members)))

abbrev pub downsample_value : ℤ → Data
downsample_value resolution = object (member (codes "resolution") (signed_value resolution) no_members)

unfoldable pub thanos_value : MetaFields → Data
thanos_value meta =
    object (member (codes "downsample") (downsample_value meta.resolution)
    (member (codes "files") (array (items_value file_value meta.files))
    (member (codes "labels") (object (label_members meta.labels))
    (member (codes "segment_files") (array (items_value string meta.segment_files))
    (member (codes "source") (string meta.source)
    (member (codes "version") (unsigned_value 1) no_members))))))

unfoldable pub meta_value : MetaFields → Data
meta_value meta =
    object (member (codes "compaction") (compaction_value meta.level meta.sources meta.parents)
    (member (codes "maxTime") (signed_value meta.max_time)
    (member (codes "minTime") (signed_value meta.min_time)
    (member (codes "stats") (stats_value meta.series meta.samples meta.chunks)
    (member (codes "thanos") (thanos_value meta)
    (member (codes "ulid") (ulid_value meta.ulid)
    (member (codes "version") (unsigned_value 1) no_members)))))))

-- the one text in which a meta is written
unfoldable pub meta_text : MetaFields → List ℕ
meta_text meta = compact_text (meta_value meta)

unfoldable pub mark_value : MarkFields → Data
mark_value mark =
    object (member (codes "deletion_time") (unsigned_value mark.deletion_time)
    (member (codes "details") (string mark.details)
    (member (codes "id") (ulid_value mark.id)
    (member (codes "version") (unsigned_value 1) no_members))))

-- the one text in which a deletion mark is written
unfoldable pub mark_text : MarkFields → List ℕ
mark_text mark = compact_text (mark_value mark)
