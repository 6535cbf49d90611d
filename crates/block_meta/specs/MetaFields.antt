-- What a meta says, as plain data.
use Rattle.std.specs.Prelude.{ℕ, ℤ, pos, List, []}
use Rattle.label_sets.specs.declared.label.Label.{Label}
use Rattle.block_meta.specs.declared.parent.Parent.{Parent}
use Rattle.block_meta.specs.declared.file_size.FileSize.{FileSize}
use Rattle.block_meta.specs.declared.stats.Stats.{Stats}
use Rattle.block_meta.specs.declared.compaction.Compaction.{Compaction}
use Rattle.block_meta.specs.declared.thanos.Thanos.{Thanos}
use Rattle.block_meta.specs.declared.meta.Meta.{Meta}
use Rattle.block_meta.specs.declared.deletion_mark.DeletionMark.{DeletionMark}

pub record MetaFields : Type 0 where
  pub ulid : ℕ
  pub min_time : ℤ
  pub max_time : ℤ
  pub series : ℕ
  pub samples : ℕ
  pub chunks : ℕ
  pub level : ℕ
  pub sources : List ℕ
  pub parents : List Parent
  pub labels : List Label
  pub resolution : ℤ
  pub source : List ℕ
  pub files : List FileSize
  pub segment_files : List (List ℕ)

-- the fields of a meta, without the proofs that it carries
abbrev pub fields_of : Meta → MetaFields
fields_of meta = record { ulid = meta.ulid; min_time = meta.min_time; max_time = meta.max_time; series = meta.series; samples = meta.samples; chunks = meta.chunks; level = meta.level; sources = meta.sources; parents = meta.parents; labels = meta.labels; resolution = meta.resolution; source = meta.source; files = meta.files; segment_files = meta.segment_files }

-- the fields by the sections in which they stand

abbrev pub stats_part : MetaFields → Stats
stats_part meta = record { series = meta.series; samples = meta.samples; chunks = meta.chunks }

abbrev pub compaction_part : MetaFields → Compaction
compaction_part meta = record { level = meta.level; sources = meta.sources; parents = meta.parents }

abbrev pub thanos_part : MetaFields → Thanos
thanos_part meta = record { labels = meta.labels; resolution = meta.resolution; source = meta.source; segment_files = meta.segment_files; files = meta.files }

-- what a meta says where it has no such section
unfoldable pub no_thanos : Thanos
no_thanos = record { labels = []; resolution = pos 0; source = []; segment_files = []; files = [] }

pub record MarkFields : Type 0 where
  pub id : ℕ
  pub deletion_time : ℕ
  pub details : List ℕ

abbrev pub mark_fields_of : DeletionMark → MarkFields
mark_fields_of mark = record { id = mark.id; deletion_time = mark.deletion_time; details = mark.details }
