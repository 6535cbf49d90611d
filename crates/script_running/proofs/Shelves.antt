-- What is at hand of a block that a script takes from the shelf, and what comes of it.
use Rattle.base.proofs.Lists.{find_holds}
use Rattle.std.proofs.Common.{◌≡◌, ◌⊎◌, ◌==◌, ℕ, List, Option, None, Some, Result, Ok, Err, inl, inr, refl, sym, ◌∙◌, ap, subst}
use Rattle.std.specs.Prelude.{IfErr, IfOk, IfSome}
use Rattle.block_keys.specs.Blocks.{IsBlock}
use Rattle.block_keys.specs.declared.object.Object.{Object}
use Rattle.block_meta.specs.Bounds.{HasFittingNumbers}
use Rattle.block_meta.specs.MetaFields.{fields_of}
use Rattle.block_meta.specs.MetaValue.{meta_text}
use Rattle.block_meta.specs.Built.{objects_of}
use Rattle.block_meta.specs.declared.block_files.BlockFiles.{BlockFiles}
use Rattle.block_merging.specs.PutContent.{AreBytes}
use Rattle.block_content.proofs.ContentLaws.{content_again}
use Rattle.block_content.specs.Checking.{HasPassed, Passes}
use Rattle.block_content.specs.ContentReading.{content_at}
use Rattle.block_content.specs.Shipped.{shipped_meta}
use Rattle.block_content.specs.declared.check_refusal.CheckRefusal.{CheckRefusal}
use Rattle.block_meta.specs.declared.build_refusal.BuildRefusal.{BuildRefusal}
use Rattle.block_meta.specs.declared.build_refusal.BuildRefusal.TheVariants as build
use Rattle.script_core.specs.declared.block.Block.{Block}
use Rattle.script_core.specs.declared.body.Body.{Body}
use Rattle.script_core.specs.declared.body.Body.TheVariants.{OnShelf}
use Rattle.script_core.specs.declared.script.Script.{Script}
use Rattle.lifecycle_core.specs.Held.{declared}
use Rattle.lifecycle_core.specs.Setting.{Setting, refusing}
use Rattle.lifecycle_core.specs.Shipped.{AreBuilt, AreShort, IsRefused, IsRefusedAs, IsShipped, cause_number, too_large_cause}
use Rattle.script_running.specs.Shelves.{AreAllAtHand, AreObjects, IsAtHand, IsHeld, Knows, WhereRefused, found_in, from_built, from_found, list_in, numbered_by, read_as, series_in, setting_by}
use Rattle.script_running.specs.declared.shelf.ShelfBlock.{ShelfBlock}
use Rattle.script_running.specs.declared.shelf.ShelfFound.{ShelfFound}
use Rattle.script_running.specs.declared.shelf.ShelfFound.TheVariants.{Objects, Refused}
use Rattle.script_running.specs.declared.unshipped.Unshipped.{Unshipped}
use Rattle.script_running.specs.declared.unshipped.Unshipped.TheVariants as unshipped

-- what a check passes holds what its files are read as
pub passes_so : (ulid series samples : ℕ) (files : BlockFiles) → HasPassed ulid files series samples → AreBytes files → Passes ulid files (series_in files)
passes_so ulid series samples files h bytes =
    let read : content_at files ≡ Ok h.list = content_again files bytes.index bytes.segments h.list h.passes.content in
    subst (Passes ulid files) (sym (ap list_in read)) h.passes

pub objects_held : (block : Block) (objects : List Object) (files : BlockFiles) (series samples : ℕ) → HasPassed block.ulid files series samples → AreBytes files → AreShort files → HasFittingNumbers (fields_of files.meta)
    → objects ≡ objects_of files.meta.ulid files.segments files.index (meta_text (shipped_meta files.meta files.segments files.index block.labels)) → IsBlock files.meta.ulid objects → AreObjects block objects files
objects_held block objects files series samples passed bytes short numbers are own =
    let ulid : files.meta.ulid ≡ block.ulid = passed.passes.own.ulid_is in
    record {
      passes = passes_so block.ulid series samples files passed bytes;
      bytes = bytes;
      short = short;
      numbers = numbers;
      are = are ∙ ap (λ u. objects_of u files.segments files.index (meta_text (shipped_meta files.meta files.segments files.index block.labels))) ulid;
      own = subst (λ u. IsBlock u objects) ulid own;
    }

-- of a block that the script declares
pub knows : (script : Script) (shelf : List ShelfBlock) (ulid : ℕ) (block : Block) → declared script ulid ≡ Some block → AreAllAtHand script shelf → Knows (setting_by script shelf) shelf block
knows script shelf ulid block is all = record {
  told = refl;
  hand = find_holds (IsAtHand shelf) (λ (b : Block). b.ulid == ulid) script.blocks block all is;
}

module _ (setting : Setting) (block : Block) where
  shipped_by : (found : Option ShelfFound) → IfSome found (IsHeld block) → setting.shelf block.ulid ≡ read_as block.ulid found → IfOk (from_found found) (λ objects. AreBuilt setting block OnShelf objects × IsBlock block.ulid objects)
  shipped_by None hand told = tt
  shipped_by (Some (Objects objects files)) hand told = (
    record {
      files = files.value;
      series = series_in files.value;
      read = told;
      passes = hand.passes;
      bytes = hand.bytes;
      short = hand.short;
      numbers = hand.numbers;
      are = hand.are;
    },
    hand.own,
  )
  shipped_by (Some (Refused number refusal)) hand told = tt

  numbered : (refusal : CheckRefusal) (number : Option ℕ) → number ≡ cause_number refusal → setting.shelf block.ulid ≡ refusing refusal → WhereRefused (IsRefusedAs setting block OnShelf) (numbered_by number)
  numbered refusal None is told = tt
  numbered refusal (Some number) is told = record { refusal = refusal; read = told; numbered = sym is }

  refused_by : (found : Option ShelfFound) → IfSome found (IsHeld block) → setting.shelf block.ulid ≡ read_as block.ulid found → IfErr (from_found found) (WhereRefused (IsRefusedAs setting block OnShelf))
  refused_by None hand told = record { refusal = _; read = told; numbered = refl }
  refused_by (Some (Objects objects files)) hand told = tt
  refused_by (Some (Refused number refusal)) hand told = numbered refusal.value number hand told

  module _ (shelf : List ShelfBlock) (body : block.body ≡ OnShelf) (k : Knows setting shelf block) where
    hand : IfSome (found_in shelf block.ulid) (IsHeld block)
    hand = k.hand body

    abbrev Comes : Result (List Object) Unshipped → Type 0
    Comes result = (result ≡ from_found (found_in shelf block.ulid)) ⊎ (result ≡ Err unshipped.NoMemory)

    both : (result : Result (List Object) Unshipped) → Comes result → IfOk result (λ objects. AreBuilt setting block OnShelf objects × IsBlock block.ulid objects)
    both result (inl same) = subst (λ r. IfOk r (λ objects. AreBuilt setting block OnShelf objects × IsBlock block.ulid objects)) (sym same) (shipped_by (found_in shelf block.ulid) hand k.told)
    both result (inr none) = subst (λ r. IfOk r (λ objects. AreBuilt setting block OnShelf objects × IsBlock block.ulid objects)) (sym none) tt

    firsts : (result : Result (List Object) Unshipped) → IfOk result (λ objects. AreBuilt setting block OnShelf objects × IsBlock block.ulid objects) → IfOk result (λ objects. IsShipped setting block objects)
    firsts (Ok objects) is = subst (λ (b : Body). AreBuilt setting block b objects) (sym body) is.0
    firsts (Err why) is = tt

    seconds : (result : Result (List Object) Unshipped) → IfOk result (λ objects. AreBuilt setting block OnShelf objects × IsBlock block.ulid objects) → IfOk result (λ objects. IsBlock block.ulid objects)
    seconds (Ok objects) is = is.1
    seconds (Err why) is = tt

    pub shelf_ships : (result : Result (List Object) Unshipped) → Comes result → IfOk result (λ objects. IsShipped setting block objects)
    shelf_ships result comes = firsts result (both result comes)

    pub shelf_blocks : (result : Result (List Object) Unshipped) → Comes result → IfOk result (λ objects. IsBlock block.ulid objects)
    shelf_blocks result comes = seconds result (both result comes)

    refuses : (result : Result (List Object) Unshipped) → Comes result → IfErr result (WhereRefused (IsRefusedAs setting block OnShelf))
    refuses result (inl same) = subst (λ r. IfErr r (WhereRefused (IsRefusedAs setting block OnShelf))) (sym same) (refused_by (found_in shelf block.ulid) hand k.told)
    refuses result (inr none) = subst (λ r. IfErr r (WhereRefused (IsRefusedAs setting block OnShelf))) (sym none) tt

    pub shelf_refuses : (result : Result (List Object) Unshipped) → Comes result → IfErr result (WhereRefused (IsRefused setting block))
    shelf_refuses result comes = subst (λ (b : Body). IfErr result (WhereRefused (IsRefusedAs setting block b))) (sym body) (refuses result comes)

-- ---- what was to be built

pub built_holds : (P : List Object → Type 0) (built : Result (List Object) BuildRefusal) (result : Result (List Object) Unshipped) → result ≡ from_built built → IfOk built P → IfOk result P
built_holds P (Ok objects) result is holds = subst (λ r. IfOk r P) (sym is) holds
built_holds P (Err build.TooLarge) result is holds = subst (λ r. IfOk r P) (sym is) tt
built_holds P (Err build.NoMemory) result is holds = subst (λ r. IfOk r P) (sym is) tt

pub built_refuses : (Says : ℕ → Type 0) (built : Result (List Object) BuildRefusal) (result : Result (List Object) Unshipped) → result ≡ from_built built → (built ≡ Err build.TooLarge → Says too_large_cause) → IfErr result (WhereRefused Says)
built_refuses Says (Ok objects) result is large = subst (λ r. IfErr r (WhereRefused Says)) (sym is) tt
built_refuses Says (Err build.TooLarge) result is large = subst (λ r. IfErr r (WhereRefused Says)) (sym is) (large refl)
built_refuses Says (Err build.NoMemory) result is large = subst (λ r. IfErr r (WhereRefused Says)) (sym is) tt
