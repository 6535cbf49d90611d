-- A declared block is shipped in one way, or refused for one cause.
use Rattle.std.proofs.Common.{◌≡◌, ℕ, List, [], ◌∷◌, ◌++◌, Contains, Some, refl, sym, ◌∙◌, ap, subst}
use Rattle.block_keys.specs.Keys.{key_ulid}
use Rattle.block_keys.specs.declared.key.Key.TheVariants as key
use Rattle.block_keys.specs.declared.object.Object.{Object}
use Rattle.block_meta.specs.MetaFields.{fields_of}
use Rattle.block_meta.specs.MetaValue.{meta_text}
use Rattle.block_meta.specs.Built.{objects_of}
use Rattle.block_meta.specs.declared.block_files.BlockFiles.{BlockFiles}
use Rattle.block_content.specs.Shipped.{shipped_meta}
use Rattle.script_core.specs.declared.block.Block.{Block}
use Rattle.script_core.specs.declared.body.Body.{Body}
use Rattle.script_core.specs.declared.body.Body.TheVariants.{Inline, OnShelf}
use Rattle.lifecycle_core.specs.Setting.{Setting}
use Rattle.lifecycle_core.specs.Shipped.{AreBuilt, IsRefusedAs, cause_number}
use Rattle.lifecycle_core.proofs.blocks.InlineBlocks.{not_both, one_inline}
use Rattle.lifecycle_core.proofs.blocks.Objects.{IsOfSamples, before_meta, before_other, meta_last, object, object_is, object_ulid}

module _ (setting : Setting) (block : Block) where
  pub one_shipped : (body : Body) (objects others : List Object) → AreBuilt setting block body objects → AreBuilt setting block body others → objects ≡ others
  one_shipped (Inline low high series) objects others is so = one_inline block low high series objects others is so
  one_shipped OnShelf objects others is so =
      let files : is.files ≡ so.files = cc (is.read, so.read) in
      is.are ∙ ap (λ (f : BlockFiles). objects_of block.ulid f.segments f.index (meta_text (shipped_meta f.meta f.segments f.index block.labels))) files ∙ sym so.are

  pub not_refused : (body : Body) (objects : List Object) (cause : ℕ) → AreBuilt setting block body objects → IsRefusedAs setting block body cause → ⊥
  not_refused (Inline low high series) objects cause is none = not_both block low high series objects cause is none
  not_refused OnShelf objects cause is none = cc (is.read, none.read)

  pub one_cause : (body : Body) (cause other : ℕ) → IsRefusedAs setting block body cause → IsRefusedAs setting block body other → cause ≡ other
  one_cause (Inline low high series) cause other is so = is.is ∙ sym so.is
  one_cause OnShelf cause other is so =
      let refusal : is.refusal ≡ so.refusal = cc (is.read, so.read) in
      let number : Some cause ≡ Some other = sym is.numbered ∙ ap cause_number refusal ∙ so.numbered in
      cc (number)

-- The objects end with the block's meta, behind its segments and its index. All of them are the block's.
pub record EndsWithMeta (ulid : ℕ) (objects : List Object) : Type 0 where
  pub front : List Object
  pub last : Object
  pub parts : objects ≡ front ++ last ∷ []
  pub other : (o : Object) → Contains front o → IsOfSamples o.key
  pub meta : last.key ≡ key.Meta ulid
  pub under : (o : Object) → Contains objects o → key_ulid o.key ≡ ulid

module _ (ulid : ℕ) (segments : List (List ℕ)) (index text : List ℕ) where
  objects_end : (objects : List Object) → objects ≡ objects_of ulid segments index text → EndsWithMeta ulid objects
  objects_end objects are = record {
    front = before_meta ulid segments index;
    last = object (key.Meta ulid) text;
    parts = are ∙ meta_last ulid segments index text;
    other = before_other ulid segments index;
    meta = refl;
    under = λ o among. object_ulid ulid segments index text o.key o.bytes
        (object_is ulid segments index text o.key o.bytes (subst (λ os. Contains os o) are among));
  }

module _ (setting : Setting) (block : Block) where
  pub ends_with_meta : (body : Body) (objects : List Object) → AreBuilt setting block body objects → EndsWithMeta block.ulid objects
  ends_with_meta (Inline low high series) objects is = objects_end block.ulid is.files.segments is.files.index (meta_text (fields_of is.files.meta)) objects is.are
  ends_with_meta OnShelf objects is =
      objects_end block.ulid is.files.segments is.files.index (meta_text (shipped_meta is.files.meta is.files.segments is.files.index block.labels)) objects is.are
