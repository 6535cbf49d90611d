-- A complete block holds what its sources hold.
use Rattle.std.proofs.Common.{◌≡◌, ℕ, ◌≤◌, true, List, [], ◌∷◌, length, Contains, subst, sym, refl, ap, ◌∙◌}
use Rattle.std.specs.List.{All, AllByRecursion, IsDistinct, list_any}
use Rattle.std.specs.Prelude.{IfSome, IsSome}
use Rattle.label_sets.specs.Triples.{has_same_key}
use Rattle.chunk_files.specs.Layout.{greatest}
use Rattle.block_meta.specs.declared.block_files.BlockFiles.{BlockFiles}
use Rattle.block_content.specs.Content.{IsContent}
use Rattle.block_merging.specs.PutContent.{AreBytes}
use Rattle.label_sets.specs.declared.series.Series.{Series}
use Rattle.block_meta.specs.MetaFields.{MetaFields, fields_of}
use Rattle.world_core.specs.Standing.{IsHonest}
use Rattle.world_core.specs.Worlds.{IsOfBytes}
use Rattle.world_core.specs.declared.entry.Entry.{Entry}
use Rattle.script_core.specs.Lawful.{IsLawfulScript}
use Rattle.lifecycle_core.specs.Completed.{IsCompletedAt}
use Rattle.lifecycle_core.specs.Held.{declared, held}
use Rattle.lifecycle_core.specs.MergedLabels.{seen_as}
use Rattle.lifecycle_core.specs.PutBlocks.{HoldsItsSources, IsPutAs}
use Rattle.lifecycle_core.specs.Setting.{Setting}
use Rattle.lifecycle_core.proofs.blocks.FilesPut.{AreFilesPut}
use Rattle.lifecycle_core.proofs.blocks.HeldNew.{held_put}
use Rattle.lifecycle_core.proofs.blocks.HeldPuts.{put_of}
use Rattle.lifecycle_core.proofs.blocks.Known.{one_meta}
use Rattle.lifecycle_core.proofs.blocks.NewMetas.{meta_is_read}
use Rattle.lifecycle_core.proofs.blocks.Whole.{told_size}
use Rattle.lifecycle_core.proofs.deeds.Words.{AreDeeds}

-- The files of a complete block: they were put, they keep their bounds, and they hold what the block's sources hold.
pub record IsHeldWhole (setting : Setting) (journal : List Entry) (ulid seq : ℕ) (meta : MetaFields) : Type 0 where
  pub files : BlockFiles
  pub meta_is : fields_of files.meta ≡ meta
  pub put : IsPutAs journal ulid seq files
  pub bytes : AreBytes files
  pub sized : IfSome (told_size meta.files) (λ size. size ≡ length files.index)
  pub few : length files.segments ≤ 999_999
  pub short : AllByRecursion (λ segment. length segment ≤ greatest) files.segments
  pub list : List Series
  pub content : IsContent files list
  pub taken : All (Contains (held setting meta.sources)) (seen_as meta.labels setting.script.rules.replicas list)
  pub complete : All (λ t. list_any (has_same_key t) (seen_as meta.labels setting.script.rules.replicas list) ≡ true) (held setting meta.sources)
  -- a compacted block holds each sample once
  pub once : ¬ IsSome (declared setting.script ulid) → IsDistinct has_same_key (seen_as meta.labels setting.script.rules.replicas list)
  -- what a declared block holds is all that it gives, with its repeats
  pub gives : IsSome (declared setting.script ulid) → (meta.sources ≡ ulid ∷ []) × (seen_as meta.labels setting.script.rules.replicas list ≡ held setting (ulid ∷ []))

-- The files of a complete block were put.
pub record IsPutWhole (setting : Setting) (journal : List Entry) (ulid seq : ℕ) (meta : MetaFields) : Type 0 where
  pub files : BlockFiles
  pub meta_is : fields_of files.meta ≡ meta
  pub put : IsPutAs journal ulid seq files

put_as : (journal : List Entry) (ulid seq : ℕ) (files : BlockFiles) → IsCompletedAt journal ulid seq (fields_of files.meta) → AreFilesPut journal ulid seq files.segments files.index → IsPutAs journal ulid seq files
put_as journal ulid seq files c put =
    record { completed = c; index = put.index_put; segments = put.segments_put; one_index = put.one_index; one_segment = put.one_segment }

pub complete_put : (setting : Setting) (journal : List Entry) → IsLawfulScript setting.script → AreDeeds setting journal → IsHonest journal → (ulid seq : ℕ) (meta : MetaFields) → IsCompletedAt journal ulid seq meta → IsPutWhole setting journal ulid seq meta
complete_put setting journal lawful deeds honest ulid seq meta c =
    let p = put_of setting journal lawful deeds honest c.before c.after c.entry c.is ulid c.bytes (c.puts, c.landed) in
    let same : fields_of p.files.meta ≡ meta = one_meta c.bytes (fields_of p.files.meta) meta (meta_is_read ulid c.bytes (fields_of p.files.meta) p.read) c.text in
    record {
      files = p.files;
      meta_is = same;
      put = put_as journal ulid seq p.files (subst (IsCompletedAt journal ulid seq) (sym same) c) (subst (λ (n : ℕ). AreFilesPut journal ulid n p.files.segments p.files.index) c.number p.put);
    }

-- a declared block is its own source
pub declared_own : (setting : Setting) (journal : List Entry) → IsLawfulScript setting.script → AreDeeds setting journal → IsHonest journal → (ulid seq : ℕ) (meta : MetaFields) → IsSome (declared setting.script ulid) → IsCompletedAt journal ulid seq meta → meta.sources ≡ ulid ∷ []
declared_own setting journal lawful deeds honest ulid seq meta known c =
    let p = put_of setting journal lawful deeds honest c.before c.after c.entry c.is ulid c.bytes (c.puts, c.landed) in
    let same : fields_of p.files.meta ≡ meta = one_meta c.bytes (fields_of p.files.meta) meta (meta_is_read ulid c.bytes (fields_of p.files.meta) p.read) c.text in
    ap (λ (m : MetaFields). m.sources) (sym same) ∙ p.own known

pub complete_holds : (setting : Setting) (journal : List Entry) → IsLawfulScript setting.script → AreDeeds setting journal → IsOfBytes journal → IsHonest journal → (ulid seq : ℕ) (meta : MetaFields) → IsCompletedAt journal ulid seq meta
    → IsHeldWhole setting journal ulid seq meta
complete_holds setting journal lawful deeds of_bytes honest ulid seq meta c =
    let h = held_put setting journal lawful deeds of_bytes honest c.before c.after c.entry c.is ulid c.bytes (c.puts, c.landed) in
    let same : fields_of h.files.meta ≡ meta = one_meta c.bytes (fields_of h.files.meta) meta (meta_is_read ulid c.bytes (fields_of h.files.meta) h.read) c.text in
    subst (IsHeldWhole setting journal ulid seq) same (record {
      files = h.files;
      meta_is = refl;
      put = put_as journal ulid seq h.files (subst (IsCompletedAt journal ulid seq) (sym same) c) (subst (λ (n : ℕ). AreFilesPut journal ulid n h.files.segments h.files.index) c.number h.put);
      bytes = h.bytes;
      sized = h.sized;
      few = h.files.numbered;
      short = h.short;
      list = h.list;
      content = h.content;
      taken = h.taken;
      complete = h.complete;
      once = h.once;
      gives = h.gives;
    })

-- as the law says it
pub of_whole : (setting : Setting) (journal : List Entry) (ulid seq : ℕ) (meta : MetaFields) → IsHeldWhole setting journal ulid seq meta → HoldsItsSources setting journal ulid seq
of_whole setting journal ulid seq meta h = record {
  files = h.files;
  put = h.put;
  list = h.list;
  content = h.content;
  taken = subst (λ (m : MetaFields). All (Contains (held setting m.sources)) (seen_as m.labels setting.script.rules.replicas h.list)) (sym h.meta_is) h.taken;
  complete = subst (λ (m : MetaFields). All (λ t. list_any (has_same_key t) (seen_as m.labels setting.script.rules.replicas h.list) ≡ true) (held setting m.sources)) (sym h.meta_is) h.complete;
  once = λ new. subst (λ (m : MetaFields). IsDistinct has_same_key (seen_as m.labels setting.script.rules.replicas h.list)) (sym h.meta_is) (h.once new);
  gives = λ known. subst (λ (m : MetaFields). (m.sources ≡ ulid ∷ []) × (seen_as m.labels setting.script.rules.replicas h.list ≡ held setting (ulid ∷ []))) (sym h.meta_is) (h.gives known);
}
