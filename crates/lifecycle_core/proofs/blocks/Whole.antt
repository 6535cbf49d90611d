-- What a block is that is shipped: its objects hold the series that the script gives, within their bounds, and its meta tells of them.
use Rattle.std.specs.Prelude.{◌≡◌, ◌≤◌, ◌≤ℤ◌, ◌<ℤ◌, ℕ, ℤ, pos, List, [], ◌∷◌, length, codes, find, option_map, Option, IfSome, Ok}
use Rattle.std.specs.List.{AllByRecursion, AllZip}
use Rattle.std.specs.Str.{bytes_eq}
use Rattle.base.specs.Grammar.{IsBytes}
use Rattle.block_keys.specs.declared.object.Object.{Object}
use Rattle.block_meta.specs.declared.file_size.FileSize.{FileSize}
use Rattle.block_meta.specs.MetaFields.{MetaFields}
use Rattle.block_meta.specs.MetaReading.{meta_of_text}
use Rattle.block_meta.specs.MetaValue.{meta_text}
use Rattle.block_meta.specs.Built.{objects_of}
use Rattle.block_content.specs.Content.{HoldsSeries, IsApart}
use Rattle.chunk_files.specs.Layout.{greatest}
use Rattle.index_parts.specs.IndexFile.{IsIndex}
use Rattle.index_parts.specs.declared.index_series.IndexSeries.{IndexSeries}
use Rattle.script_core.specs.declared.block.Block.{Block}
use Rattle.script_core.specs.declared.body.Body.{Body}
use Rattle.script_core.specs.declared.body.Body.TheVariants.{Inline, OnShelf}
use Rattle.lifecycle_core.specs.Held.{given}
use Rattle.lifecycle_core.specs.Setting.{FromShelf, Setting, holding, refusing}

-- the times of files that were read
abbrev pub SpansFiles : FromShelf → ℤ → ℤ → Type 0
SpansFiles (holding files series) low high = (low ≡ files.meta.min_time) × (high ≡ files.meta.max_time)
SpansFiles (refusing refusal) low high = ⊥

-- a block of this body has these times
abbrev pub Spans : Setting → ℕ → Body → ℤ → ℤ → Type 0
Spans setting ulid (Inline min_time max_time series) low high = (low ≡ min_time) × (high ≡ max_time)
Spans setting ulid OnShelf low high = SpansFiles (setting.shelf ulid) low high

-- the size of the index, where the files' sizes tell it
abbrev pub told_size : List FileSize → Option ℕ
told_size files = option_map (λ file. file.bytes) (find (λ file. bytes_eq file.path (codes "index")) files)

pub record IsWholeBlock (setting : Setting) (block : Block) (objects : List Object) : Type 0 where
  pub segments : List (List ℕ)
  pub index : List ℕ
  pub meta : MetaFields
  pub are : objects ≡ objects_of block.ulid segments index (meta_text meta)
  pub read : meta_of_text (meta_text meta) ≡ Ok meta
  pub own : meta.ulid ≡ block.ulid
  pub sources : meta.sources ≡ block.ulid ∷ []
  pub labels : meta.labels ≡ block.labels
  pub whole : meta.resolution ≡ pos 0
  pub times : Spans setting block.ulid block.body meta.min_time meta.max_time
  pub sized : IfSome (told_size meta.files) (λ size. size ≡ length index)
  pub bytes : IsBytes index × AllByRecursion IsBytes segments
  pub few : length segments ≤ 999_999
  pub short : AllByRecursion (λ segment. length segment ≤ greatest) segments
  pub indexed : List IndexSeries
  pub index_is : IsIndex index indexed
  pub apart : AllByRecursion IsApart indexed
  pub series_are : AllZip (HoldsSeries segments) indexed (given setting block)
  pub within : AllByRecursion (λ s. AllByRecursion (λ sample. (meta.min_time ≤ℤ sample.time) × (sample.time <ℤ meta.max_time)) s.samples) (given setting block)
