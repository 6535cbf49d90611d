-- What is found under the key of a block's meta, where it is an object with which the script's block is shipped; and that no such
-- object is under the key of a mark.
use Rattle.lifecycle_core.proofs.blocks.NewMetas.{named_again}
use Rattle.lifecycle_core.proofs.blocks.Objects.{object, object_is}
use Rattle.lifecycle_core.proofs.blocks.OneShipped.{ends_with_meta}
use Rattle.lifecycle_core.proofs.blocks.Whole.{IsWholeBlock, Spans}
use Rattle.base.proofs.Membership.{only_member}
use Rattle.std.proofs.lemmas.List.Elements.{Contains-append_cases}
use Rattle.std.proofs.Common.{◌≡◌, ℕ, List, [], ◌∷◌, Contains, Some, Ok, refl, sym, ◌∙◌, ap, subst, inl, inr}
use Rattle.block_keys.specs.declared.key.Key.TheVariants as key
use Rattle.block_keys.specs.declared.object.Object.{Object}
use Rattle.block_meta.specs.MetaFields.{MetaFields}
use Rattle.block_meta.specs.MetaReading.{meta_of_text}
use Rattle.block_meta.specs.MetaValue.{meta_text}
use Rattle.block_meta.specs.OfBlocks.{block_meta}
use Rattle.script_core.specs.declared.block.Block.{Block}
use Rattle.lifecycle_core.specs.Held.{declared}
use Rattle.lifecycle_core.specs.Setting.{Setting}
use Rattle.lifecycle_core.specs.Shipped.{IsShipped}
use Rattle.lifecycle_core.proofs.journals.Told.{IsReadable, IsShippedObject}

-- ---- metas

-- the meta of a block that the script declares, with what was shipped of it
pub record IsMetaOf (setting : Setting) (ulid : ℕ) (meta : MetaFields) : Type 0 where
  pub block : Block
  pub is : declared setting.script ulid ≡ Some block
  pub own : meta.ulid ≡ ulid
  pub sources : meta.sources ≡ ulid ∷ []
  pub labels : meta.labels ≡ block.labels
  pub times : Spans setting block.ulid block.body meta.min_time meta.max_time
  pub objects : List Object
  pub shipped : IsShipped setting block objects
  pub whole : IsWholeBlock setting block objects
  pub meta_is : meta ≡ whole.meta

-- the bytes are read as such a meta
abbrev pub IsReadAsMeta : Setting → ℕ → List ℕ → Type 0
IsReadAsMeta setting ulid bytes = (meta : MetaFields) × (meta_of_text bytes ≡ Ok meta) × IsMetaOf setting ulid meta

-- a shipped object under the key of a meta is read as the block's meta
pub meta_read_as : (setting : Setting) → IsReadable setting → (ulid : ℕ) (bytes : List ℕ) → IsShippedObject setting (key.Meta ulid) bytes → IsReadAsMeta setting ulid bytes
meta_read_as setting readable ulid bytes o =
    let w : IsWholeBlock setting o.block o.objects = readable.whole ulid o.block o.is o.objects o.shipped in
    let own = object_is o.block.ulid w.segments w.index (meta_text w.meta) (key.Meta ulid) bytes (subst (λ os. Contains os (object (key.Meta ulid) bytes)) w.are o.among) in
    let same : o.block.ulid ≡ ulid = sym own.0 in (
      w.meta,
      ap meta_of_text own.1 ∙ w.read,
      record {
        block = o.block;
        is = o.is;
        own = w.own ∙ same;
        sources = w.sources ∙ ap (λ u. u ∷ []) same;
        labels = w.labels;
        times = w.times;
        objects = o.objects;
        shipped = o.shipped;
        whole = w;
        meta_is = refl;
      },
    )

-- no shipped object is under the key of a mark
pub no_mark : (setting : Setting) (ulid : ℕ) (bytes : List ℕ) → IsShippedObject setting (key.Mark ulid) bytes → ⊥
no_mark setting ulid bytes o =
    let m = ends_with_meta setting o.block o.block.body o.objects o.shipped in
    elim (Contains-append_cases m.front (m.last ∷ []) (object (key.Mark ulid) bytes) (subst (λ os. Contains os (object (key.Mark ulid) bytes)) m.parts o.among)) [
      | inl first ↦ m.other (object (key.Mark ulid) bytes) first
      | inr later ↦ let same : m.last ≡ object (key.Mark ulid) bytes = only_member m.last (object (key.Mark ulid) bytes) later in cc (m.meta, ap (λ (x : Object). x.key) same)
    ]

pub meta_found : (setting : Setting) → IsReadable setting → (ulid : ℕ) (bytes : List ℕ) → IsShippedObject setting (key.Meta ulid) bytes
    → (meta : MetaFields) × (block_meta ulid bytes ≡ Some meta) × IsMetaOf setting ulid meta
meta_found setting readable ulid bytes o =
    let found = meta_read_as setting readable ulid bytes o in
    (found.0, named_again ulid (meta_of_text bytes) found.0 found.1 found.2.own, found.2)
