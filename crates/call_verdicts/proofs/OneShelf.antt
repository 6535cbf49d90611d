-- A shelf's files fix what is read of them: two settings of one script that are of one shelf are one.
use Rattle.std.proofs.Common.{◌≡◌, ◌==◌, ◌⊎◌, inl, inr, ℕ, suc, ◌+◌, Bool, true, false, List, [], ◌∷◌, Contains, Some, refl, sym, ◌∙◌, ap, subst, arith}
use Rattle.std.specs.Prelude.{slice_get}
use Rattle.base.specs.Grammar.{IsBytes}
use Rattle.std.specs.List.{AllByRecursion}
use Rattle.std.proofs.lemmas.Bool.Decides.{nat_tests}
use Rattle.std.proofs.lemmas.List.Elements.{All-contains}
use Rattle.base.proofs.Binds.{err_is, ok_is}
use Rattle.base.proofs.Membership.{contains_first, contains_later, member_cases, no_member}
use Rattle.block_keys.specs.KeyText.{key_text}
use Rattle.block_keys.specs.declared.key.Key.TheVariants.{Index, Segment}
use Rattle.label_sets.specs.declared.series.Series.{Series}
use Rattle.block_meta.specs.declared.block_files.BlockFiles.{BlockFiles}
use Rattle.block_content.specs.Checking.{RefusesBlock}
use Rattle.block_content.specs.declared.check_refusal.CheckRefusal.{CheckRefusal}
use Rattle.block_content.proofs.CheckLaws.{check_again, check_refuses}
use Rattle.block_content.proofs.SameFiles.{same_files}
use Rattle.block_loading.specs.Loading.{IsLoaded, PassesOnShelf, RefusesLoad, RefusesOnShelf}
use Rattle.block_loading.specs.LoadReading.{BlockParts, parts_of}
use Rattle.block_loading.specs.declared.load_refusal.LoadRefusal.{LoadRefusal}
use Rattle.block_loading.specs.declared.load_refusal.LoadRefusal.TheVariants as load
use Rattle.block_loading.proofs.LoadLaws.{load_again, load_refuses}
use Rattle.bucket_core.specs.Contents.{Contents}
use Rattle.script_core.specs.declared.block.Block.{Block}
use Rattle.script_core.specs.declared.body.Body.{Body}
use Rattle.script_core.specs.declared.body.Body.TheVariants.{Inline, OnShelf}
use Rattle.script_core.specs.declared.script.Script.{Script}
use Rattle.report_lines.specs.lifecycle_core.specs.Setting.{FromShelf, Setting, holding, refusing}
use Rattle.call_verdicts.specs.ShelfReads.{HoldsBytes, IsOfShelf, IsReadOf, TakesNone}

-- ---- one block

all_bytes : (segments : List (List ℕ)) → ((place : ℕ) (bytes : List ℕ) → slice_get segments place ≡ Some bytes → IsBytes bytes) → AllByRecursion IsBytes segments
all_bytes [] each = tt
all_bytes (segment ∷ segments) each = (each 0 segment refl, all_bytes segments (λ place bytes at. each (suc place) bytes at))

module _ (told : Contents) (ulid : ℕ) (holds : HoldsBytes told) where
  index_bytes : (files : BlockFiles) → IsLoaded told ulid files → IsBytes files.index
  index_bytes files is = holds (key_text (Index ulid)) files.index is.index_is.file.stands

  segment_bytes : (files : BlockFiles) → IsLoaded told ulid files → AllByRecursion IsBytes files.segments
  segment_bytes files is = all_bytes files.segments (λ place bytes at. holds (key_text (Segment ulid (place + 1))) bytes (is.segments_are.files place bytes at).stands)

  -- the shelf has one list of files for it
  one_load : (files other : BlockFiles) → IsLoaded told ulid files → IsLoaded told ulid other → files ≡ other
  one_load files other one two =
      let same : parts_of files ≡ parts_of other = ok_is {E = LoadRefusal} _ _ (sym (load_again told ulid files one) ∙ load_again told ulid other two) in
      same_files files other (ap (λ (p : BlockParts). p.meta) same) (ap (λ (p : BlockParts). p.index) same) (ap (λ (p : BlockParts). p.segments) same)

  loaded_apart : (files : BlockFiles) (refusal : CheckRefusal) → IsLoaded told ulid files → RefusesLoad told ulid refusal → ⊥
  loaded_apart files refusal one two = let both = sym (load_again told ulid files one) ∙ load_refuses told ulid refusal two in absurd cc

  passes_once : (files other : BlockFiles) (list more : List Series) → PassesOnShelf told ulid files list → PassesOnShelf told ulid other more → ◌≡◌ {A = FromShelf} (holding files list) (holding other more)
  passes_once files other list more one two =
      let same = one_load files other one.loaded two.loaded in
      let index = index_bytes other two.loaded in
      let segments = segment_bytes other two.loaded in
      let passes = subst (λ (f : BlockFiles). PassesOnShelf told ulid f list) same one in
      let lists : list ≡ more = ok_is {E = CheckRefusal} _ _ (sym (check_again other index segments ulid list passes.passes) ∙ check_again other index segments ulid more two.passes) in
      ap (λ (f : BlockFiles). holding f list) same ∙ ap (λ (l : List Series). holding other l) lists

  passes_apart : (files : BlockFiles) (list : List Series) (refusal : CheckRefusal) → PassesOnShelf told ulid files list → RefusesOnShelf told ulid refusal → ⊥
  passes_apart files list refusal one (inl refused) = loaded_apart files refusal one.loaded refused
  passes_apart files list refusal one (inr (other, loaded, refused)) =
      let same = one_load files other one.loaded loaded in
      let passes = subst (λ (f : BlockFiles). PassesOnShelf told ulid f list) same one in
      let index = index_bytes other loaded in
      let segments = segment_bytes other loaded in
      let both = sym (check_again other index segments ulid list passes.passes) ∙ check_refuses other index segments ulid refusal refused in absurd cc

  refuses_once : (one other : CheckRefusal) → RefusesOnShelf told ulid one → RefusesOnShelf told ulid other → one ≡ other
  refuses_once one other (inl a) (inl b) =
      let both : ◌≡◌ {A = LoadRefusal} (load.Refused one) (load.Refused other) = err_is {A = BlockParts} _ _ (sym (load_refuses told ulid one a) ∙ load_refuses told ulid other b) in cc both
  refuses_once one other (inl a) (inr (files, loaded, b)) = absurd (loaded_apart files one loaded a)
  refuses_once one other (inr (files, loaded, a)) (inl b) = absurd (loaded_apart files other loaded b)
  refuses_once one other (inr (files, loaded, a)) (inr (more, also, b)) =
      let same = one_load files more loaded also in
      let refused = subst (λ (f : BlockFiles). RefusesBlock ulid f one) same a in
      let index = index_bytes more also in
      let segments = segment_bytes more also in
      err_is {A = List Series} one other (sym (check_refuses more index segments ulid one refused) ∙ check_refuses more index segments ulid other b)

  one_reading : (one other : FromShelf) → IsReadOf told ulid one → IsReadOf told ulid other → one ≡ other
  one_reading (holding files list) (holding other more) a b = passes_once files other list more a b
  one_reading (holding files list) (refusing refusal) a b = absurd (passes_apart files list refusal a b)
  one_reading (refusing refusal) (holding files list) a b = absurd (passes_apart files list refusal b a)
  one_reading (refusing one) (refusing other) a b = ap refusing (refuses_once one other a b)

-- ---- all blocks

-- the script takes a block with the ULID from the shelf, or none
record Takes (blocks : List Block) (ulid : ℕ) : Type 0 where
  block : Block
  among : Contains blocks block
  on : block.body ≡ OnShelf
  is : block.ulid ≡ ulid

none_more : (block : Block) (blocks : List Block) (ulid : ℕ) → (block.body ≡ OnShelf → block.ulid ≡ ulid → ⊥) → TakesNone blocks ulid → TakesNone (block ∷ blocks) ulid
none_more block blocks ulid other none b among on is = elim (member_cases block b blocks among) [
  | inl same ↦ other (ap (λ (x : Block). x.body) same ∙ on) (ap (λ (x : Block). x.ulid) same ∙ is)
  | inr later ↦ none b later on is
]

takes_more : (block : Block) (blocks : List Block) (ulid : ℕ) → Takes blocks ulid → Takes (block ∷ blocks) ulid
takes_more block blocks ulid t = record { block = t.block; among = contains_later block t.block blocks t.among; on = t.on; is = t.is }

takes_by : (block : Block) (blocks : List Block) (ulid : ℕ) (body : Body) (b : Bool) → block.body ≡ body → (block.ulid == ulid) ≡ b → Takes blocks ulid ⊎ TakesNone blocks ulid → Takes (block ∷ blocks) ulid ⊎ TakesNone (block ∷ blocks) ulid
takes_by block blocks ulid body b is hit (inl t) = inl (takes_more block blocks ulid t)
takes_by block blocks ulid OnShelf true is hit (inr none) = inl (record { block = block; among = contains_first block blocks; on = is; is = grind (arith, nat_tests, hit) })
takes_by block blocks ulid OnShelf false is hit (inr none) = inr (none_more block blocks ulid (λ on same. absurd (grind (arith, nat_tests, hit, same))) none)
takes_by block blocks ulid (Inline min_time max_time series) b is hit (inr none) = inr (none_more block blocks ulid (λ on same. absurd (cc (is, on))) none)

takes_or_none : (blocks : List Block) (ulid : ℕ) → Takes blocks ulid ⊎ TakesNone blocks ulid
takes_or_none [] ulid = inr (λ b among on is. no_member b among)
takes_or_none (block ∷ blocks) ulid = takes_by block blocks ulid block.body (block.ulid == ulid) refl refl (takes_or_none blocks ulid)

module _ (told : Contents) (holds : HoldsBytes told) (script : Script) (one other : ℕ → FromShelf) where
  abbrev setting : (ℕ → FromShelf) → Setting
  setting shelf = record { script = script; shelf = shelf }

  read_once : (ulid : ℕ) → IsOfShelf (setting one) told → IsOfShelf (setting other) told → Takes script.blocks ulid ⊎ TakesNone script.blocks ulid → one ulid ≡ other ulid
  read_once ulid a b (inl t) =
      subst (λ (u : ℕ). one u ≡ other u) t.is
      (one_reading told t.block.ulid holds (one t.block.ulid) (other t.block.ulid)
      (All-contains (λ (block : Block). block.body ≡ OnShelf → IsReadOf told block.ulid (one block.ulid)) script.blocks t.block a.taken t.among t.on)
      (All-contains (λ (block : Block). block.body ≡ OnShelf → IsReadOf told block.ulid (other block.ulid)) script.blocks t.block b.taken t.among t.on))
  read_once ulid a b (inr none) = a.others ulid none ∙ sym (b.others ulid none)

  one_setting : IsOfShelf (setting one) told → IsOfShelf (setting other) told → setting one ≡ setting other
  one_setting a b = ap setting (λ i ulid. read_once ulid a b (takes_or_none script.blocks ulid) i)

-- two settings of one script
pub settings_are_one : (told : Contents) (one other : Setting) → HoldsBytes told → one.script ≡ other.script → IsOfShelf one told → IsOfShelf other told → one ≡ other
settings_are_one told one other holds same a b =
    let moved : IsOfShelf (record { script = other.script; shelf = one.shelf }) told = subst (λ (s : Script). IsOfShelf (record { script = s; shelf = one.shelf }) told) same a in
    ap (λ (s : Script). record { script = s; shelf = one.shelf }) same ∙ one_setting told holds other.script one.shelf other.shelf moved b
