-- The blocks of a journal, with the files with which they were put, and what these hold.
use Rattle.std.specs.Prelude.{◌≡◌, ◌+◌, ◌<◌, ◌≤ℤ◌, ℕ, true, List, [], ◌∷◌, All, Contains, IsTrue, IsSome, Some, slice_get}
use Rattle.std.specs.List.{IsDistinct, list_any}
use Rattle.label_sets.specs.declared.series.Series.{Series}
use Rattle.label_sets.specs.Triples.{has_same_key}
use Rattle.lifecycle_core.specs.MergedLabels.{seen_as}
use Rattle.block_keys.specs.declared.key.Key.{Key}
use Rattle.block_keys.specs.declared.key.Key.TheVariants.{Index, Segment}
use Rattle.block_meta.specs.declared.block_files.BlockFiles.{BlockFiles}
use Rattle.block_content.specs.Content.{IsContent}
use Rattle.block_meta.specs.MetaFields.{MetaFields, fields_of}
use Rattle.world_core.specs.Standing.{has_landed}
use Rattle.world_core.specs.declared.op.Op.TheVariants.{Put}
use Rattle.world_core.specs.declared.entry.Entry.{Entry}
use Rattle.lifecycle_core.specs.Completed.{IsCompletedAt, IsUploadedBefore}
use Rattle.lifecycle_core.specs.Held.{declared, held}
use Rattle.lifecycle_core.specs.Setting.{Setting}

-- a put of these bytes under the key landed at an entry before that of a number
abbrev pub WasPutBefore : List Entry → Key → List ℕ → ℕ → Type 0
WasPutBefore journal key bytes number =
    (e : Entry) × Contains journal e × (e.op ≡ Put key bytes) × IsTrue (has_landed e.reply) × (e.seq < number)

-- The block was complete from the entry of a number on; before it these files were put, and no put has others.
pub record IsPutAs (journal : List Entry) (ulid seq : ℕ) (files : BlockFiles) : Type 0 where
  pub completed : IsCompletedAt journal ulid seq (fields_of files.meta)
  pub index : WasPutBefore journal (Index ulid) files.index seq
  pub segments : (place : ℕ) (bytes : List ℕ) → slice_get files.segments place ≡ Some bytes
      → WasPutBefore journal (Segment ulid (place + 1)) bytes seq
  pub one_index : (bytes : List ℕ) (number : ℕ) → WasPutBefore journal (Index ulid) bytes number → bytes ≡ files.index
  pub one_segment : (place : ℕ) (bytes : List ℕ) (number : ℕ) → WasPutBefore journal (Segment ulid (place + 1)) bytes number
      → slice_get files.segments place ≡ Some bytes

-- The block, which was complete from the entry of a number on, holds what its sources hold, and nothing else. One that was compacted
-- holds each sample once; an upload may give series that differ by replica labels alone.
pub record HoldsItsSources (setting : Setting) (journal : List Entry) (ulid seq : ℕ) : Type 0 where
  pub files : BlockFiles
  pub put : IsPutAs journal ulid seq files
  pub list : List Series
  pub content : IsContent files list
  pub taken : All (Contains (held setting files.meta.sources)) (seen_as files.meta.labels setting.script.rules.replicas list)
  pub complete : All (λ t. list_any (has_same_key t) (seen_as files.meta.labels setting.script.rules.replicas list) ≡ true)
      (held setting files.meta.sources)
  pub once : ¬ IsSome (declared setting.script ulid)
      → IsDistinct has_same_key (seen_as files.meta.labels setting.script.rules.replicas list)
  -- an upload is its own source, and holds all that it gives, with its repeats
  pub gives : IsSome (declared setting.script ulid) → (files.meta.sources ≡ ulid ∷ [])
      × (seen_as files.meta.labels setting.script.rules.replicas list ≡ held setting (ulid ∷ []))

-- a source of a block lies within the block's times
pub record LiesWithin (setting : Setting) (journal : List Entry) (seq : ℕ) (meta : MetaFields) (source : ℕ) : Type 0 where
  -- the source is a declared block that was complete when the block was, or before
  pub uploaded : IsUploadedBefore setting journal source (seq + 1)
  pub from : meta.min_time ≤ℤ uploaded.meta.min_time
  pub upto : uploaded.meta.max_time ≤ℤ meta.max_time
