-- Which texts are texts of a meta or of a deletion mark, apart from how they are read and written. A text is one JSON object.
-- A member that is not named here may stand in it too, and a member that is null counts as absent.
use Rattle.std.specs.Prelude.{◌≡◌, ◌≢◌, ◌⊎◌, ◌↔◌, ◌<◌, ℕ, ℤ, pos, List, [], ◌∷◌, Some, None, option_map, Contains, codes}
use Rattle.std.specs.Str.{IsUtf8}
use Rattle.std.specs.List.Sorted.{IsStrictlyIncreasing}
use Rattle.ulid_core.specs.UlidText.{IsUlidText}
use Rattle.label_sets.specs.declared.label.Label.{Label}
use Rattle.label_sets.specs.Labels.{IsLabelSet, value_of}
use Rattle.serde_json.specs.Data.{Data, Num, null, number, unsigned, string, array, object, Items, no_items, item, Members, no_members, member}
use Rattle.serde_json.specs.Read.{read}
use Rattle.serde_json.specs.Find.{get, get_member, as_i64, as_integer}
use Rattle.block_meta.specs.declared.parent.Parent.{Parent}
use Rattle.block_meta.specs.declared.file_size.FileSize.{FileSize}
use Rattle.block_meta.specs.Lawful.{AreLawfulTimes, deletion_limit, level_limit}
use Rattle.block_meta.specs.declared.stats.Stats.{Stats}
use Rattle.block_meta.specs.declared.compaction.Compaction.{Compaction}
use Rattle.block_meta.specs.declared.thanos.Thanos.{Thanos}
use Rattle.block_meta.specs.MetaFields.{MetaFields, MarkFields, stats_part, compaction_part, thanos_part, no_thanos}

-- ---- members

-- The value is the object's member of that name.
pub record IsMember (name : List ℕ) (within value : Data) : Type 0 where
  pub there : get name within ≡ Some value
  pub not_null : value ≢ null

-- The object has no such member.
abbrev pub Lacks : List ℕ → Data → Type 0
Lacks name within = (get name within ≡ None) ⊎ (get name within ≡ Some null)

-- The object's member of that name is a value of x.
abbrev pub Has : {A : Type 0} → (Data → A → Type 0) → List ℕ → Data → A → Type 0
Has Is name within x = (value : Data) × IsMember name within value × Is value x

-- The object's member of that name is a value of x, or there is none and x is the default.
abbrev pub HasOr : {A : Type 0} → A → (Data → A → Type 0) → List ℕ → Data → A → Type 0
HasOr default Is name within x = (Lacks name within × (x ≡ default)) ⊎ Has Is name within x

-- ---- kinds

abbrev pub IsText : Data → List ℕ → Type 0
IsText value text = value ≡ string text

abbrev pub IsUlid : Data → ℕ → Type 0
IsUlid value ulid = (text : List ℕ) × (value ≡ string text) × IsUlidText text ulid

-- a number from 0 on that fits 64 bits
abbrev pub IsUnsigned : Data → ℕ → Type 0
IsUnsigned value n = value ≡ number (unsigned n)

-- a number that fits 64 bits with a sign
abbrev pub IsSigned : Data → ℤ → Type 0
IsSigned value z = (n : Num) × (value ≡ number n) × (as_i64 n ≡ Some z)

-- a number of 64 bits, with or without a sign
abbrev pub IsWhole : Data → ℤ → Type 0
IsWhole value z = (n : Num) × (value ≡ number n) × (as_integer n ≡ Some z)

-- the only version
abbrev pub IsVersion : Data → Unit {0} → Type 0
IsVersion value _ = value ≡ number (unsigned 1)

abbrev pub IsObject : Data → Type 0
IsObject value = (members : Members) × (value ≡ object members)

-- the items are values of the list's members, in order
abbrev pub AreItems : {A : Type 0} → (Data → A → Type 0) → Items → List A → Type 0
AreItems Is no_items [] = Unit {0}
AreItems Is no_items (x ∷ xs) = ⊥
AreItems Is (item value values) [] = ⊥
AreItems Is (item value values) (x ∷ xs) = Is value x × AreItems Is values xs

abbrev pub IsList : {A : Type 0} → (Data → A → Type 0) → Data → List A → Type 0
IsList Is value xs = (items : Items) × (value ≡ array items) × AreItems Is items xs

-- ---- parts

-- The ULIDs ascend, each once; the listed ones may stand in any order, each any number of times.
pub record AreSources (value : Data) (sources : List ℕ) : Type 0 where
  pub listed : List ℕ
  pub are : IsList IsUlid value listed
  pub same : (ulid : ℕ) → Contains listed ulid ↔ Contains sources ulid
  pub ascend : IsStrictlyIncreasing sources

pub record IsParent (value : Data) (parent : Parent) : Type 0 where
  pub is_object : IsObject value
  pub ulid : Has IsUlid (codes "ulid") value parent.ulid
  pub min_time : Has IsSigned (codes "minTime") value parent.min_time
  pub max_time : Has IsSigned (codes "maxTime") value parent.max_time

pub record IsFile (value : Data) (file : FileSize) : Type 0 where
  pub is_object : IsObject value
  pub path : Has IsText (codes "rel_path") value file.path
  pub bytes : HasOr 0 IsUnsigned (codes "size_bytes") value file.bytes

-- no name comes twice
abbrev pub NamesDiffer : Members → Type 0
NamesDiffer no_members = Unit {0}
NamesDiffer (member name value others) = (get_member name others ≡ None) × NamesDiffer others

-- The object has under each name the text that is the label's value, and nothing else.
pub record AreLabels (value : Data) (labels : List Label) : Type 0 where
  pub members : Members
  pub is_object : value ≡ object members
  pub differ : NamesDiffer members
  pub lawful : IsLabelSet labels
  pub same : (name : List ℕ) → get_member name members ≡ option_map string (value_of labels name)

pub record AreStats (value : Data) (part : Stats) : Type 0 where
  pub is_object : IsObject value
  pub series : HasOr 0 IsUnsigned (codes "numSeries") value part.series
  pub samples : HasOr 0 IsUnsigned (codes "numSamples") value part.samples
  pub chunks : HasOr 0 IsUnsigned (codes "numChunks") value part.chunks

pub record IsCompaction (value : Data) (part : Compaction) : Type 0 where
  pub is_object : IsObject value
  pub level : Has IsUnsigned (codes "level") value part.level
  pub fits : part.level < level_limit
  pub sources : HasOr [] AreSources (codes "sources") value part.sources
  pub parents : HasOr [] (IsList IsParent) (codes "parents") value part.parents

-- a section with the resolution in it, each of which may be absent
pub record IsDownsample (value : Data) (time : ℤ) : Type 0 where
  pub is_object : IsObject value
  pub resolution : HasOr (pos 0) IsSigned (codes "resolution") value time

pub record IsThanos (value : Data) (part : Thanos) : Type 0 where
  pub is_object : IsObject value
  pub version : HasOr tt IsVersion (codes "version") value tt
  pub labels : HasOr [] AreLabels (codes "labels") value part.labels
  pub resolution : HasOr (pos 0) IsDownsample (codes "downsample") value part.resolution
  pub source : HasOr [] IsText (codes "source") value part.source
  pub segment_files : HasOr [] (IsList IsText) (codes "segment_files") value part.segment_files
  pub files : HasOr [] (IsList IsFile) (codes "files") value part.files

-- ---- the whole

pub record IsMeta (value : Data) (meta : MetaFields) : Type 0 where
  pub is_object : IsObject value
  pub version : Has IsVersion (codes "version") value tt
  pub ulid : Has IsUlid (codes "ulid") value meta.ulid
  pub min_time : Has IsWhole (codes "minTime") value meta.min_time
  pub max_time : Has IsWhole (codes "maxTime") value meta.max_time
  pub times : AreLawfulTimes meta.min_time meta.max_time
  pub stats : Has AreStats (codes "stats") value (stats_part meta)
  pub compaction : Has IsCompaction (codes "compaction") value (compaction_part meta)
  pub thanos : HasOr no_thanos IsThanos (codes "thanos") value (thanos_part meta)

-- The text is that of a meta with these fields.
pub record IsMetaText (text : List ℕ) (meta : MetaFields) : Type 0 where
  pub utf8 : IsUtf8 text
  pub value : Data
  pub reads : read text ≡ Some value
  pub is : IsMeta value meta

pub record IsMark (value : Data) (mark : MarkFields) : Type 0 where
  pub is_object : IsObject value
  pub version : Has IsVersion (codes "version") value tt
  pub id : Has IsUlid (codes "id") value mark.id
  pub deletion_time : Has IsUnsigned (codes "deletion_time") value mark.deletion_time
  pub early : mark.deletion_time < deletion_limit
  pub details : HasOr [] IsText (codes "details") value mark.details

-- The text is that of a deletion mark with these fields.
pub record IsMarkText (text : List ℕ) (mark : MarkFields) : Type 0 where
  pub utf8 : IsUtf8 text
  pub value : Data
  pub reads : read text ≡ Some value
  pub is : IsMark value mark
