-- What the blocks are that a view keeps.
use Rattle.std.proofs.Common.{ℕ, ◌<◌, List, Contains, arith}
use Rattle.std.proofs.lemmas.List.Elements.{All-contains}
use Rattle.block_meta.specs.MetaFields.{fields_of}
use Rattle.sync_filters.specs.declared.found.Found.{Found}
use Rattle.world_core.specs.Standing.{IsHonest}
use Rattle.world_core.specs.declared.entry.Entry.{Entry}
use Rattle.script_core.specs.Lawful.{IsLawfulScript}
use Rattle.lifecycle_core.specs.Completed.{IsCompletedAt, IsUploadedBefore}
use Rattle.lifecycle_core.specs.Holdings.{Use}
use Rattle.lifecycle_core.specs.PutBlocks.{LiesWithin}
use Rattle.lifecycle_core.specs.Setting.{Setting}
use Rattle.lifecycle_core.specs.SyncsAndCalls.{IsViewOf}
use Rattle.lifecycle_core.specs.Tasks.{sync_rules}
use Rattle.lifecycle_core.proofs.blocks.Known.{complete_is_known}
use Rattle.lifecycle_core.proofs.deeds.Words.{AreDeeds}
use Rattle.lifecycle_core.proofs.views.Seen.{IsCompleteFound, kept_is_complete}

module _ (setting : Setting) (journal : List Entry) (lawful : IsLawfulScript setting.script) (deeds : AreDeeds setting journal) (honest : IsHonest journal) (gateway : ℕ) (used : Use) (sync : List Entry)
    (gave : IsViewOf (sync_rules setting gateway) journal used sync) (f : Found) (among : Contains used.view.kept f) where
  complete : IsCompleteFound journal used.last f
  complete = All-contains (IsCompleteFound journal used.last) used.view.kept f (kept_is_complete setting journal lawful deeds honest (sync_rules setting gateway) used sync gave) among

  pub kept_is_whole : (seq : ℕ) × (seq < used.last) × IsCompletedAt journal f.ulid seq (fields_of f.meta)
  kept_is_whole = (complete.seq, complete.earlier, complete.completed)

  pub source_is_uploaded : (ulid : ℕ) → Contains f.meta.sources ulid → IsUploadedBefore setting journal ulid used.last
  source_is_uploaded ulid inside =
      let c = complete in
      let known = complete_is_known setting journal lawful deeds honest f.ulid c.seq (fields_of f.meta) c.completed in
      let l : LiesWithin setting journal c.seq (fields_of f.meta) ulid = All-contains (LiesWithin setting journal c.seq (fields_of f.meta)) f.meta.sources ulid known.sources inside in
      record {
        is_declared = l.uploaded.is_declared;
        seq = l.uploaded.seq;
        meta = l.uploaded.meta;
        completed = l.uploaded.completed;
        earlier = omega (arith, l.uploaded.earlier, c.earlier);
      }
