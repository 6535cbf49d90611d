-- How a meta and a deletion mark are read: their fields in the order in which they are tested, so that the first refused
-- one decides. Members that have no field here are passed over.
use Rattle.std.specs.Prelude.{ℕ, ℤ, nat_lt, pos, List, [], Ok, codes}
use Rattle.std.specs.Option.{ok_or}
use Rattle.base.specs.Reading.{◌>>=◌, ◌>>◌, unless, refused_as}
use Rattle.serde_json.specs.Data.{Data, Members, no_members, member}
use Rattle.serde_json.specs.Find.{as_object}
use Rattle.label_sets.specs.declared.label.Label.{Label}
use Rattle.label_sets.specs.Labels.{added}
use Rattle.block_meta.specs.declared.refusal.MetaRefusal.TheVariants.{MissingField, WrongKind, BadTimes, BadLabels}
use Rattle.block_meta.specs.declared.parent.Parent.{Parent}
use Rattle.block_meta.specs.declared.file_size.FileSize.{FileSize}
use Rattle.block_meta.specs.declared.times.Times.{Times}
use Rattle.block_meta.specs.declared.stats.Stats.{Stats}
use Rattle.block_meta.specs.declared.compaction.Compaction.{Compaction}
use Rattle.block_meta.specs.declared.thanos.Thanos.{Thanos}
use Rattle.block_meta.specs.Lawful.{are_lawful_times, ascending, deletion_limit, level_limit}
use Rattle.block_meta.specs.Members.{Read, object_of, member_of, needed_of, section_of, of_kind, unsigned_of, signed_of, whole_of, text_of, ulid_of, version_of, count_of, list_of, or_absent}
use Rattle.block_meta.specs.MetaFields.{MetaFields, MarkFields, no_thanos}

-- the least and the greatest time
unfoldable pub times_of : Data → Read Times
times_of meta = do
  min ← needed_of (codes "minTime") meta >>= whole_of (codes "minTime")
  max ← needed_of (codes "maxTime") meta >>= whole_of (codes "maxTime")
  unless (are_lawful_times min max) BadTimes
  Ok (record { min = min; max = max })

unfoldable pub stats_members_of : Data → Read Stats
stats_members_of stats = do
  series ← count_of (codes "numSeries") stats
  samples ← count_of (codes "numSamples") stats
  chunks ← count_of (codes "numChunks") stats
  Ok (record { series = series; samples = samples; chunks = chunks })

-- how much the block holds
unfoldable pub stats_of : Data → Read Stats
stats_of meta = do
  found ← section_of (codes "stats") meta
  stats ← ok_or found (MissingField (codes "stats"))
  stats_members_of stats

-- a number from 0 on that fits 32 bits
unfoldable pub level_of : Data → Read ℕ
level_of compaction = do
  level ← needed_of (codes "level") compaction >>= unsigned_of (codes "level")
  unless (nat_lt level level_limit) (WrongKind (codes "level"))
  Ok level

-- ULIDs in any order, each any number of times
unfoldable pub sources_of : Data → Read (List ℕ)
sources_of compaction = do
  listed ← list_of ulid_of (codes "sources") compaction
  Ok (ascending listed)

unfoldable pub parent_of : List ℕ → Data → Read Parent
parent_of list value = do
  _ ← of_kind list (as_object value)
  ulid ← needed_of (codes "ulid") value >>= ulid_of (codes "ulid")
  min ← needed_of (codes "minTime") value >>= signed_of (codes "minTime")
  max ← needed_of (codes "maxTime") value >>= signed_of (codes "maxTime")
  Ok (record { ulid = ulid; min_time = min; max_time = max })

unfoldable pub compaction_members_of : Data → Read Compaction
compaction_members_of compaction = do
  level ← level_of compaction
  sources ← sources_of compaction
  parents ← list_of parent_of (codes "parents") compaction
  Ok (record { level = level; sources = sources; parents = parents })

-- where the block came from; the level is the member that a missing section lacks
unfoldable pub compaction_of : Data → Read Compaction
compaction_of meta = do
  found ← section_of (codes "compaction") meta
  compaction ← ok_or found (MissingField (codes "level"))
  compaction_members_of compaction

-- a set with one label more, whose value is text; neither name nor value is empty
unfoldable pub label_added : List Label → List ℕ → Data → Read (List Label)
label_added labels name value = do
  text ← text_of (codes "labels") value
  refused_as (λ _. BadLabels) (added labels name text)

-- a set with all these labels more
unfoldable pub labels_from : List Label → Members → Read (List Label)
labels_from labels no_members = Ok labels
labels_from labels (member name value values) = do
  more ← label_added labels name value
  labels_from more values

unfoldable pub labels_of : Data → Read (List Label)
labels_of thanos = or_absent [] (λ value. of_kind (codes "labels") (as_object value) >>= labels_from []) (member_of (codes "labels") thanos)

-- 0 where the section or its member is absent
unfoldable pub resolution_of : Data → Read ℤ
resolution_of thanos = do
  found ← section_of (codes "downsample") thanos
  or_absent (pos 0) (λ downsample. or_absent (pos 0) (signed_of (codes "resolution")) (member_of (codes "resolution") downsample)) found

-- the text of that name, empty where it is absent
unfoldable pub text_or_empty : List ℕ → Data → Read (List ℕ)
text_or_empty name within = or_absent [] (text_of name) (member_of name within)

unfoldable pub file_of : List ℕ → Data → Read FileSize
file_of list value = do
  _ ← of_kind list (as_object value)
  path ← needed_of (codes "rel_path") value >>= text_of (codes "rel_path")
  bytes ← count_of (codes "size_bytes") value
  Ok (record { path = path; bytes = bytes })

unfoldable pub thanos_members_of : Data → Read Thanos
thanos_members_of thanos = do
  or_absent tt version_of (member_of (codes "version") thanos)
  labels ← labels_of thanos
  resolution ← resolution_of thanos
  source ← text_or_empty (codes "source") thanos
  segment_files ← list_of text_of (codes "segment_files") thanos
  files ← list_of file_of (codes "files") thanos
  Ok (record { labels = labels; resolution = resolution; source = source; segment_files = segment_files; files = files })

unfoldable pub thanos_of : Data → Read Thanos
thanos_of meta = do
  found ← section_of (codes "thanos") meta
  or_absent no_thanos thanos_members_of found

-- the meta that a JSON object is
unfoldable pub meta_of : Data → Read MetaFields
meta_of meta = do
  needed_of (codes "version") meta >>= version_of
  ulid ← needed_of (codes "ulid") meta >>= ulid_of (codes "ulid")
  times ← times_of meta
  stats ← stats_of meta
  compaction ← compaction_of meta
  thanos ← thanos_of meta
  Ok (record { ulid = ulid; min_time = times.min; max_time = times.max; series = stats.series; samples = stats.samples; chunks = stats.chunks; level = compaction.level; sources = compaction.sources; parents = compaction.parents; labels = thanos.labels; resolution = thanos.resolution; source = thanos.source; files = thanos.files; segment_files = thanos.segment_files })

-- what a text is read as
unfoldable pub meta_of_text : List ℕ → Read MetaFields
meta_of_text text = object_of text >>= meta_of

-- seconds below 2^46
unfoldable pub deletion_time_of : Data → Read ℕ
deletion_time_of mark = do
  time ← needed_of (codes "deletion_time") mark >>= unsigned_of (codes "deletion_time")
  unless (nat_lt time deletion_limit) (WrongKind (codes "deletion_time"))
  Ok time

-- the deletion mark that a JSON object is
unfoldable pub mark_of : Data → Read MarkFields
mark_of mark = do
  needed_of (codes "version") mark >>= version_of
  id ← needed_of (codes "id") mark >>= ulid_of (codes "id")
  time ← deletion_time_of mark
  details ← text_or_empty (codes "details") mark
  Ok (record { id = id; deletion_time = time; details = details })

unfoldable pub mark_of_text : List ℕ → Read MarkFields
mark_of_text text = object_of text >>= mark_of
