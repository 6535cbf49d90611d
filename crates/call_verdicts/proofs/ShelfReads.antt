-- What was read of the shelf for the blocks of a script, block after block, and what a run knows by it.
use Rattle.std.proofs.Common.{◌≡◌, ◌≢◌, ◌==◌, inl, inr, ℕ, ◌≤◌, Bool, true, false, List, [], ◌∷◌, ◌++◌, length, take, drop, map, cond, nat_eq, Contains, Option, None, Some, Result, Ok, Err, refl, sym, ◌∙◌, ap, subst, arith, append_assoc}
use Rattle.std.specs.Prelude.{ℤ, IfErr, IfOk, IfSome, MatchResult, find, filter, is_some, option_map}
use Rattle.std.specs.List.{AllByRecursion, IsDistinct}
use Rattle.std.proofs.lemmas.Bool.Decides.{nat_tests}
use Rattle.std.proofs.lemmas.List.{append-nil, map-append, take-append-drop}
use Rattle.std.proofs.lemmas.List.Elements.{All-append, All-cons, All-contains, All-contains_itself, All-nil, All-weaker, recursion_from_All, Contains-append_left, Contains-append_right, filter-append}
use Rattle.std.proofs.lemmas.Map.Keys.{IsDistinct-head, IsDistinct-tail}
use Rattle.label_sets.specs.declared.series.Series.{Series}
use Rattle.base.proofs.Lists.{find_holds, find_passes, take_none}
use Rattle.base.proofs.Membership.{contains_first, each_member, into_map, member_cases, no_member}
use Rattle.block_keys.specs.declared.object.Object.{Object}
use Rattle.block_meta.specs.declared.block_files.BlockFiles.{BlockFiles}
use Rattle.block_content.specs.Checked.{checked_files}
use Rattle.block_content.specs.declared.check_refusal.CheckRefusal.{CheckRefusal}
use Rattle.block_content.specs.declared.checked.Checked.{Checked as CheckedBlock}
use Rattle.bucket_core.specs.Files.{file_limit}
use Rattle.block_loading.specs.declared.load_refusal.LoadRefusal.{LoadRefusal}
use Rattle.block_loading.specs.declared.load_refusal.LoadRefusal.TheVariants as load
use Rattle.block_loading.specs.Loading.{AreWithinLimit, IsLoaded, PassesOnShelf, RefusesOnShelf, names_after, names_read}
use Rattle.block_loading.proofs.Asked.{asks_then}
use Rattle.bucket_core.specs.Asking.{Asks}
use Rattle.bucket_core.specs.Contents.{Contents, nothing}
use Rattle.bucket_core.specs.Told.{ShelfTold, SiteTold, next_shelf}
use Rattle.script_core.specs.Lawful.{IsLawfulScript}
use Rattle.script_core.specs.Reading.{script_of}
use Rattle.script_core.specs.declared.block.Block.{Block}
use Rattle.script_core.specs.declared.body.Body.{Body}
use Rattle.script_core.specs.declared.body.Body.TheVariants.{Inline, OnShelf}
use Rattle.script_core.specs.declared.script.Script.{Script}
use Rattle.report_lines.specs.lifecycle_core.specs.Setting.{holding, refusing}
use Rattle.report_lines.specs.lifecycle_core.specs.Shipped.{AreShort}
use Rattle.report_lines.specs.script_running.specs.Shelves.{AreAllAtHand, AreObjects, IsAtHand, IsHeld, found_in, read_as, series_in, setting_by}
use Rattle.report_lines.specs.script_running.specs.declared.shelf.ShelfBlock.{ShelfBlock}
use Rattle.report_lines.specs.script_running.specs.declared.shelf.ShelfFound.{ShelfFound}
use Rattle.report_lines.specs.script_running.specs.declared.shelf.ShelfFound.TheVariants.{Objects, Refused}
use Rattle.call_verdicts.specs.Asked.{names_asked, AreNamesOf, WasAsked, WasRead, WasReadFor, is_on_shelf, shelf_ulids}
use Rattle.call_verdicts.specs.Checks.{HasFailed, files_held, files_in, files_of}
use Rattle.call_verdicts.specs.Kept.{IsShelfBack, told_of}
use Rattle.call_verdicts.specs.ShelfReads.{AreRead, AsksFor, IsBrokenOff, IsFoundOf, IsOfShelf, IsReadBy, IsReadNext, IsReadOf, TakesNone, WhyUnread}
use Rattle.call_verdicts.specs.Verdicts.{IfShort, IsScriptRead}
use Rattle.call_verdicts.specs.declared.verdict.Verdict.{Verdict}
use Rattle.call_verdicts.proofs.FilesTold.{files_back}
use Rattle.call_verdicts.proofs.Unfailed.{short_of}
use Rattle.call_verdicts.proofs.Verdicts.{if_told}

-- ---- names

pub none_named : (ulids : List ℕ) → AreNamesOf ulids []
unfolding names_after
none_named [] = refl
none_named (ulid ∷ ulids) = (0, [], refl, none_named ulids)

one_more : (ulids : List ℕ) (names : List (List ℕ)) (ulid count : ℕ) → AreNamesOf ulids names → AreNamesOf (ulids ++ ulid ∷ []) (names ++ names_read ulid count)
one_more [] names ulid count are = (count, [], subst (λ (ns : List (List ℕ)). ns ++ names_read ulid count ≡ names_read ulid count ++ []) (sym are) (sym (append-nil (names_read ulid count))), refl)
one_more (first ∷ ulids) names ulid count (own, later, parts, rest) =
    (own, later ++ names_read ulid count, ap (λ (ns : List (List ℕ)). ns ++ names_read ulid count) parts ∙ append_assoc (names_read first own) later (names_read ulid count), one_more ulids later ulid count rest)

next_ulids : (front : List Block) (block : Block) → shelf_ulids (front ++ block ∷ []) ≡ shelf_ulids front ++ shelf_ulids (block ∷ [])
next_ulids front block =
    ap (map (λ (b : Block). b.ulid)) (filter-append (λ (b : Block). is_on_shelf b.body) front (block ∷ []))
    ∙ map-append (λ (b : Block). b.ulid) (filter (λ (b : Block). is_on_shelf b.body) front) (filter (λ (b : Block). is_on_shelf b.body) (block ∷ []))

own_ulid : (block : Block) → block.body ≡ OnShelf → shelf_ulids (block ∷ []) ≡ block.ulid ∷ []
own_ulid block is = rw is refl

no_ulid_by : (block : Block) (body : Body) → block.body ≡ body → body ≢ OnShelf → shelf_ulids (block ∷ []) ≡ []
no_ulid_by block (Inline min_time max_time series) is other = rw is refl
no_ulid_by block OnShelf is other = absurd (other refl)

no_ulid : (block : Block) → block.body ≢ OnShelf → shelf_ulids (block ∷ []) ≡ []
no_ulid block other = no_ulid_by block block.body refl other

module _ {F : Type 0} (tells : F → ShelfTold) where
  since : (old new : F) (front names : List (List ℕ)) → WasAsked (names_asked tells) front old → Asks (tells old).asked (tells new).asked names → WasAsked (names_asked tells) (front ++ names) new
  since old new front names (opened, fresh, first) later = (opened, fresh, asks_then tells opened old new front names first later)

  -- one block more was read
  pub read_more : (front : List Block) (block : Block) (old new : F) → WasRead tells (shelf_ulids front) old → AsksFor tells old new block → WasRead tells (shelf_ulids (front ++ block ∷ [])) new
  read_more front block old new (names, are, was) (inl (other, none)) =
      let same : shelf_ulids (front ++ block ∷ []) ≡ shelf_ulids front =
      next_ulids front block ∙ ap (λ (l : List ℕ). shelf_ulids front ++ l) (no_ulid block other) ∙ append-nil (shelf_ulids front) in
      subst (λ (us : List ℕ). WasRead tells us new) (sym same)
      (names, are, subst (λ (ns : List (List ℕ)). WasAsked (names_asked tells) ns new) (append-nil names) (since old new names [] was none))
  read_more front block old new (names, are, was) (inr (is, count, asks)) =
      let same : shelf_ulids (front ++ block ∷ []) ≡ shelf_ulids front ++ block.ulid ∷ [] =
      next_ulids front block ∙ ap (λ (l : List ℕ). shelf_ulids front ++ l) (own_ulid block is) in
      subst (λ (us : List ℕ). WasRead tells us new) (sym same)
      (names ++ names_read block.ulid count, one_more (shelf_ulids front) names block.ulid count are, since old new names (names_read block.ulid count) was asks)

  -- nothing was read yet
  pub read_none : (ulids : List ℕ) (shelf : F) → WasAsked (names_asked tells) [] shelf → WasRead tells ulids shelf
  read_none ulids shelf was = ([], none_named ulids, was)

  -- what was read of some first blocks is of all, of which none more were read
  all_named : (ulids more : List ℕ) (names : List (List ℕ)) → AreNamesOf ulids names → AreNamesOf (ulids ++ more) names
  all_named [] more names are = subst (AreNamesOf more) (sym are) (none_named more)
  all_named (u ∷ ulids) more names (count, later, parts, rest) = (count, later, parts, all_named ulids more later rest)

  all_ulids : (front back : List Block) → shelf_ulids (front ++ back) ≡ shelf_ulids front ++ shelf_ulids back
  all_ulids front back =
      ap (map (λ (b : Block). b.ulid)) (filter-append (λ (b : Block). is_on_shelf b.body) front back)
      ∙ map-append (λ (b : Block). b.ulid) (filter (λ (b : Block). is_on_shelf b.body) front) (filter (λ (b : Block). is_on_shelf b.body) back)

  pub read_front : (blocks : List Block) (place : ℕ) (shelf : F) → WasRead tells (shelf_ulids (take place blocks)) shelf → WasRead tells (shelf_ulids blocks) shelf
  read_front blocks place shelf (names, are, was) =
      let parts : shelf_ulids blocks ≡ shelf_ulids (take place blocks) ++ shelf_ulids (drop place blocks) =
      ap shelf_ulids (sym (take-append-drop place blocks)) ∙ all_ulids (take place blocks) (drop place blocks) in
      (names, subst (λ (us : List ℕ). AreNamesOf us names) (sym parts) (all_named (shelf_ulids (take place blocks)) (shelf_ulids (drop place blocks)) names are), was)

  -- what was read of some first blocks of a part is of the whole part
  pub read_begun : (front part : List Block) (place : ℕ) (shelf : F) → WasRead tells (shelf_ulids (front ++ take place part)) shelf → WasRead tells (shelf_ulids (front ++ part)) shelf
  read_begun front part place shelf (names, are, was) =
      let some = front ++ take place part in
      let parts : shelf_ulids (front ++ part) ≡ shelf_ulids some ++ shelf_ulids (drop place part) =
      ap (λ (bs : List Block). shelf_ulids (front ++ bs)) (sym (take-append-drop place part)) ∙ ap shelf_ulids (sym (append_assoc front (take place part) (drop place part))) ∙ all_ulids some (drop place part) in
      (names, subst (λ (us : List ℕ). AreNamesOf us names) (sym parts) (all_named (shelf_ulids some) (shelf_ulids (drop place part)) names are), was)

  -- by a text that spells the script
  pub read_for : (text left : Option (List ℕ)) (script : Script) (shelf : F) → IsScriptRead text left script → WasRead tells (shelf_ulids script.blocks) shelf → WasReadFor tells text shelf
  read_for None left script shelf read was = (script, tt, was)
  read_for (Some bytes) left script shelf (own, whole, is) was = (script, ap script_of (sym whole.0) ∙ is, was)

-- ---- one block more is at hand

pick : {A : Type 0} (b : Bool) (x : A) (o other : Option A) (y : A) → (o ≡ Some y → other ≡ Some y) → cond b (Some x) o ≡ Some y → cond b (Some x) other ≡ Some y
pick true x o other y more is = is
pick false x o other y more is = more is

pick_some : {A : Type 0} (b : Bool) (x : A) (o : Option A) → (y : A) × (o ≡ Some y) → (y : A) × (cond b (Some x) o ≡ Some y)
pick_some true x o some = (x, refl)
pick_some false x o some = some

module _ (p : ShelfBlock → Bool) where
  find_more : (xs more : List ShelfBlock) (y : ShelfBlock) → find p xs ≡ Some y → find p (xs ++ more) ≡ Some y
  find_more [] more y is = absurd cc
  find_more (x ∷ xs) more y is = pick (p x) x (find p xs) (find p (xs ++ more)) y (find_more xs more y) is

  find_last : (xs : List ShelfBlock) (one : ShelfBlock) → p one ≡ true → (y : ShelfBlock) × (find p (xs ++ one ∷ []) ≡ Some y)
  find_last [] one is = (one, rw is refl)
  find_last (x ∷ xs) one is = pick_some (p x) x (find p (xs ++ one ∷ [])) (find_last xs one is)

abbrev HasUlid : ℕ → ShelfBlock → Bool
HasUlid ulid block = block.ulid == ulid

abbrev IsThere : List ShelfBlock → Block → Type 0
IsThere read block = block.body ≡ OnShelf → (found : ShelfFound) × (found_in read block.ulid ≡ Some found)

option_from : (o : Option ShelfBlock) (found : ShelfFound) → option_map (λ (b : ShelfBlock). b.found) o ≡ Some found → (one : ShelfBlock) × (o ≡ Some one) × (one.found ≡ found)
option_from None found is = absurd cc
option_from (Some one) found is = (one, refl, cc (is))

there_more : (read more : List ShelfBlock) (block : Block) → IsThere read block → IsThere (read ++ more) block
there_more read more block there is =
    let t = there is in
    let o = option_from (find (HasUlid block.ulid) read) t.0 t.1 in
    (t.0, ap (option_map (λ (b : ShelfBlock). b.found)) (find_more (HasUlid block.ulid) read more o.0 o.1) ∙ ap (λ (f : ShelfFound). Some f) o.2)

there_last : (read : List ShelfBlock) (one : ShelfBlock) (block : Block) → one.ulid ≡ block.ulid → IsThere (read ++ one ∷ []) block
there_last read one block same is =
    let hit : (one.ulid == block.ulid) ≡ true = grind (arith, nat_tests, same) in
    let y = find_last (HasUlid block.ulid) read one hit in
    (y.0.found, ap (option_map (λ (b : ShelfBlock). b.found)) y.1)

abbrev IsOneOf : Option Contents → List Block → ShelfBlock → Type 0
IsOneOf told blocks one = (block : Block) × Contains blocks block × IsFoundOf told block one × (block.body ≡ OnShelf)

pub none_read : (told : Option Contents) (blocks : List Block) → AreRead told (take 0 blocks) []
none_read told blocks = subst (λ (bs : List Block). AreRead told bs []) (sym (take_none blocks)) (record { each = All-nil (IsOneOf told []); whole = All-nil (IsThere []) })

pub one_read : (told : Option Contents) (front : List Block) (block : Block) (old new : List ShelfBlock) → AreRead told front old → IsReadNext told block old new → AreRead told (front ++ block ∷ []) new
one_read told front block old new are (inl (other, same)) =
    subst (AreRead told (front ++ block ∷ [])) (sym same) (record {
      each = All-weaker (IsOneOf told front) (IsOneOf told (front ++ block ∷ [])) (λ one is. (is.0, Contains-append_left front (block ∷ []) is.0 is.1, is.2, is.3)) old are.each;
      whole = All-append (IsThere old) front (block ∷ []) are.whole (All-cons (IsThere old) block [] (λ is. absurd (other is)) (All-nil (IsThere old)));
    })
one_read told front block old new are (inr (is, one, same, found)) =
    subst (AreRead told (front ++ block ∷ [])) (sym same) (record {
      each = All-append (IsOneOf told (front ++ block ∷ [])) old (one ∷ [])
          (All-weaker (IsOneOf told front) (IsOneOf told (front ++ block ∷ [])) (λ x own. (own.0, Contains-append_left front (block ∷ []) own.0 own.1, own.2, own.3)) old are.each)
          (All-cons (IsOneOf told (front ++ block ∷ [])) one [] (block, Contains-append_right front (block ∷ []) block (contains_first block []), found, is) (All-nil (IsOneOf told (front ++ block ∷ []))));
      whole = All-append (IsThere (old ++ one ∷ [])) front (block ∷ []) (All-weaker (IsThere old) (IsThere (old ++ one ∷ [])) (λ b there. there_more old (one ∷ []) b there) front are.whole)
          (All-cons (IsThere (old ++ one ∷ [])) block [] (there_last old one block found.ulid) (All-nil (IsThere (old ++ one ∷ []))));
    })

-- ---- all blocks

abbrev ulids_of : List Block → List ℕ
ulids_of blocks = map (λ (b : Block). b.ulid) blocks

apart : (x : Block) (xs : List Block) (c : Block) → AllByRecursion (λ y. nat_eq x.ulid y ≡ false) (ulids_of xs) → Contains xs c → x.ulid ≡ c.ulid → ⊥
apart x xs c all has same =
    let other : nat_eq x.ulid c.ulid ≡ false = each_member (λ y. nat_eq x.ulid y ≡ false) (ulids_of xs) c.ulid all (into_map (λ (b : Block). b.ulid) xs c has) in
    absurd (grind (arith, nat_tests, other, same))

-- no two blocks of a script have one ULID
same_block : (blocks : List Block) (b c : Block) → IsDistinct nat_eq (ulids_of blocks) → Contains blocks b → Contains blocks c → b.ulid ≡ c.ulid → b ≡ c
same_block [] b c distinct one other same = absurd (no_member b one)
same_block (x ∷ xs) b c distinct one other same = elim (member_cases x b xs one) [
  | inl first ↦ elim (member_cases x c xs other) [
    | inl second ↦ sym first ∙ second
    | inr later ↦ absurd (apart x xs c (IsDistinct-head nat_eq x.ulid (ulids_of xs) distinct) later (ap (λ (z : Block). z.ulid) first ∙ same))
  ]
  | inr before ↦ elim (member_cases x c xs other) [
    | inl second ↦ absurd (apart x xs b (IsDistinct-head nat_eq x.ulid (ulids_of xs) distinct) before (ap (λ (z : Block). z.ulid) second ∙ sym same))
    | inr later ↦ same_block xs b c (IsDistinct-tail nat_eq x.ulid (ulids_of xs) distinct) before later same
  ]
]

module _ (told : Option Contents) (script : Script) (read : List ShelfBlock) (lawful : IsLawfulScript script) (are : AreRead told script.blocks read) where
  -- what was read for a block of the script is of that block
  own_found : (block : Block) → Contains script.blocks block → (found : ShelfFound) → found_in read block.ulid ≡ Some found → IsHeld block found × IfSome told (λ files. IsReadOf files block.ulid (read_as block.ulid (Some found)))
  own_found block among found is =
      let o = option_from (find (HasUlid block.ulid) read) found is in
      let own : IsOneOf told script.blocks o.0 = find_holds (IsOneOf told script.blocks) (HasUlid block.ulid) read o.0 are.each o.1 in
      let hit : (o.0.ulid == block.ulid) ≡ true = find_passes (HasUlid block.ulid) read o.0 o.1 in
      let ulid : o.0.ulid ≡ block.ulid = grind (arith, nat_tests, hit) in
      let same : own.0 ≡ block = same_block script.blocks own.0 block lawful.blocks.once own.1 among (sym own.2.ulid ∙ ulid) in (
        subst (IsHeld block) o.2 (subst (λ (b : Block). IsHeld b o.0.found) same own.2.held),
        subst (λ (f : ShelfFound). IfSome told (λ files. IsReadOf files block.ulid (read_as block.ulid (Some f)))) o.2
            (subst (λ (b : Block). IfSome told (λ files. IsReadOf files b.ulid (read_as b.ulid (Some o.0.found)))) same own.2.of),
      )

  hand_by : (block : Block) → Contains script.blocks block → (o : Option ShelfFound) → found_in read block.ulid ≡ o → IfSome o (IsHeld block)
  hand_by block among None is = tt
  hand_by block among (Some found) is = (own_found block among found is).0

  pub all_at_hand : AreAllAtHand script read
  all_at_hand = All-weaker (Contains script.blocks) (IsAtHand read) (λ block among is. hand_by block among (found_in read block.ulid) refl) script.blocks (All-contains_itself script.blocks)

-- for a block that the script does not take from the shelf nothing was read
none_found : (told : Option Contents) (blocks : List Block) (read : List ShelfBlock) (ulid : ℕ) → AreRead told blocks read → TakesNone blocks ulid → (o : Option ShelfFound) → found_in read ulid ≡ o → found_in read ulid ≡ None
none_found told blocks read ulid are none None is = is
none_found told blocks read ulid are none (Some found) is =
    let o = option_from (find (HasUlid ulid) read) found is in
    let own : IsOneOf told blocks o.0 = find_holds (IsOneOf told blocks) (HasUlid ulid) read o.0 are.each o.1 in
    let hit : (o.0.ulid == ulid) ≡ true = find_passes (HasUlid ulid) read o.0 o.1 in
    let same : o.0.ulid ≡ ulid = grind (arith, nat_tests, hit) in
    absurd (none own.0 own.1 own.3 (sym own.2.ulid ∙ same))

pub all_told : (told : Option Contents) (script : Script) (read : List ShelfBlock) → IsLawfulScript script → AreRead told script.blocks read → IfSome told (IsOfShelf (setting_by script read))
all_told None script read lawful are = tt
all_told (Some files) script read lawful are = record {
  taken = All-weaker (Contains script.blocks) (λ (block : Block). block.body ≡ OnShelf → IsReadOf files block.ulid (read_as block.ulid (found_in read block.ulid)))
      (λ block among is.
      let t = All-contains (IsThere read) script.blocks block are.whole among is in
      subst (λ (o : Option ShelfFound). IsReadOf files block.ulid (read_as block.ulid o)) (sym t.1) (own_found (Some files) script read lawful are block among t.0 t.1).1)
      script.blocks (All-contains_itself script.blocks);
  others = λ ulid none. ap (read_as ulid) (none_found (Some files) script.blocks read ulid are none (found_in read ulid) refl);
}

-- ---- without a shelf

pub none_at_hand : (script : Script) → AreAllAtHand script []
none_at_hand script = All-weaker (Contains script.blocks) (IsAtHand []) (λ block among is. tt) script.blocks (All-contains_itself script.blocks)

pub none_told : (script : Script) → IsOfShelf (setting_by script []) nothing
none_told script = record {
  taken = All-weaker (Contains script.blocks) (λ (block : Block). block.body ≡ OnShelf → IsReadOf nothing block.ulid (read_as block.ulid None)) (λ block among is. inl (refl, refl)) script.blocks (All-contains_itself script.blocks);
  others = λ ulid none. refl;
}

-- ---- the shelf of a call

pub told_of_call : {F : Type 0} (tells : F → ShelfTold) (site : SiteTold) (word : Option (List ℕ)) (shelf after : Option F) (script : Script) (read : Result (List ShelfBlock) Verdict) → is_some shelf ≡ is_some word
    → IsShelfBack (told_of (next_shelf site) word) tells shelf → option_map (files_held tells) after ≡ option_map (files_held tells) shelf → IfOk read (λ blocks. IfSome (files_in tells shelf) (IsOfShelf (setting_by script blocks)))
    → IfOk read (λ blocks. IfSome (files_of tells site word after) (IsOfShelf (setting_by script blocks)))
told_of_call tells site word shelf after script (Ok blocks) named back same holds =
    if_told (IsOfShelf (setting_by script blocks)) (files_of tells site word after) (files_in tells shelf) (files_back tells site word shelf after named back same) holds
told_of_call tells site word shelf after script (Err v) named back same holds = tt

-- ---- results

pub ok_is : {X : Type 0} (r : Result X Verdict) (x : X) (P : X → Type 0) → r ≡ Ok x → IfOk r P → P x
ok_is r x P is holds = subst (λ o. IfOk o P) is holds

pub err_is : {X : Type 0} (r : Result X Verdict) (v : Verdict) (P : Verdict → Type 0) → r ≡ Err v → IfErr r P → P v
err_is r v P is holds = subst (λ o. IfErr o P) is holds

pub broken_since : {X : Type 0} (first before after : ℕ) (r : Result X Verdict) (v : Verdict) → before ≡ first → r ≡ Err v → IfErr r (WhyUnread before after) → WhyUnread first after v
broken_since first before after r v same is broken = subst (λ n. WhyUnread n after v) same (err_is r v (WhyUnread before after) is broken)

pub hand_read : (script : Script) (told : Option Contents) (r : Result (List ShelfBlock) Verdict) → IsLawfulScript script → IfOk r (λ read. AreRead told script.blocks read) → IfOk r (λ read. AreAllAtHand script read)
hand_read script told (Ok read) lawful are = all_at_hand told script read lawful are
hand_read script told (Err v) lawful are = tt

pub told_read : (script : Script) (told : Option Contents) (r : Result (List ShelfBlock) Verdict) → IsLawfulScript script → IfOk r (λ read. AreRead told script.blocks read) → IfOk r (λ read. IfSome told (IsOfShelf (setting_by script read)))
told_read script told (Ok read) lawful are = all_told told script read lawful are
told_read script told (Err v) lawful are = tt

why_off : {F : Type 0} (tells : F → ShelfTold) (old new : F) (v : Verdict) → WhyUnread (tells old).faults (tells new).faults v → IsBrokenOff (HasFailed tells (Some old) (Some new)) v
why_off tells old new v (inl (is, rose)) = inl (is, rose)
why_off tells old new v (inr (is, same)) = inr is

off_read : {F X : Type 0} (tells : F → ShelfTold) (old new : F) (r : Result X Verdict) → IfErr r (WhyUnread (tells old).faults (tells new).faults) → IfErr r (IsBrokenOff (HasFailed tells (Some old) (Some new)))
off_read tells old new (Ok x) broken = tt
off_read tells old new (Err v) broken = why_off tells old new v broken

pub broken_read : {F X : Type 0} (tells : F → ShelfTold) (shelf : Option F) (old new : F) (r : Result X Verdict) → shelf ≡ Some old → IfErr r (WhyUnread (tells old).faults (tells new).faults) → IfErr r (IsBrokenOff (HasFailed tells shelf (Some new)))
broken_read {F} {X} tells shelf old new r is broken = subst (λ (o : Option F). IfErr r (IsBrokenOff (HasFailed tells o (Some new)))) (sym is) (off_read tells old new r broken)

calm_off : (before after : ℕ) (v : Verdict) → WhyUnread before after v → before ≡ 0 → IfShort v (after ≡ 0)
calm_off before after v (inl (is, rose)) none = subst (λ (w : Verdict). IfShort w (after ≡ 0)) (sym is) tt
calm_off before after v (inr (is, same)) none = short_of v (after ≡ 0) (same ∙ none)

calm_so : {X : Type 0} (before after : ℕ) (r : Result X Verdict) → IfOk r (λ x. after ≡ before) → IfErr r (WhyUnread before after) → before ≡ 0 → MatchResult r (λ x. after ≡ 0) (λ v. IfShort v (after ≡ 0))
calm_so before after (Ok x) calm broken none = calm ∙ none
calm_so before after (Err v) calm broken none = calm_off before after v broken none

pub calm_read : {F X : Type 0} (tells : F → ShelfTold) (shelf : Option F) (old new : F) (r : Result X Verdict) → shelf ≡ Some old → IfOk r (λ x. (tells new).faults ≡ (tells old).faults) → IfErr r (WhyUnread (tells old).faults (tells new).faults)
    → IfSome shelf (λ s. (tells s).faults ≡ 0) → MatchResult r (λ x. (tells new).faults ≡ 0) (λ v. IfShort v ((tells new).faults ≡ 0))
calm_read {F} {X} tells shelf old new r is calm broken none = calm_so (tells old).faults (tells new).faults r calm broken (subst (λ (o : Option F). IfSome o (λ s. (tells s).faults ≡ 0)) is none)

-- ---- one block of the shelf

pub are_short : (files : BlockFiles) → AreWithinLimit files → AreShort files
are_short files within = record { index = within.index_is; segments = recursion_from_All (λ (segment : List ℕ). length segment ≤ file_limit) files.segments within.segments_are }

module _ (told : Contents) (block : Block) where
  of_objects : (objects : List Object) (files : BlockFiles) (checked : Result CheckedBlock LoadRefusal) → AreObjects block objects files → IsReadBy checked (holding files (series_in files))
      → IfOk checked (λ own. IsLoaded told block.ulid (checked_files own)) → PassesOnShelf told block.ulid files (series_in files)
  of_objects objects files (Ok own) held by loaded =
      let same : checked_files own ≡ files = cc (by) in
      record { loaded = subst (IsLoaded told block.ulid) same loaded; passes = held.passes }
  of_objects objects files (Err (load.Refused refusal)) held by loaded = absurd (cc (by))
  of_objects objects files (Err load.ShelfFault) held by loaded = absurd by
  of_objects objects files (Err load.NoMemory) held by loaded = absurd by

  of_refusal : (refusal : CheckRefusal) (checked : Result CheckedBlock LoadRefusal) → IsReadBy checked (refusing refusal) → ((other : CheckRefusal) → checked ≡ Err (load.Refused other) → RefusesOnShelf told block.ulid other) → RefusesOnShelf told block.ulid refusal
  of_refusal refusal (Ok own) by refused = absurd (cc (by))
  of_refusal refusal (Err (load.Refused other)) by refused =
      let same : other ≡ refusal = cc (by) in
      subst (RefusesOnShelf told block.ulid) same (refused other refl)
  of_refusal refusal (Err load.ShelfFault) by refused = absurd by
  of_refusal refusal (Err load.NoMemory) by refused = absurd by

  of_found : (found : ShelfFound) (checked : Result CheckedBlock LoadRefusal) → IsHeld block found → IsReadBy checked (read_as block.ulid (Some found)) → IfOk checked (λ own. IsLoaded told block.ulid (checked_files own))
      → ((other : CheckRefusal) → checked ≡ Err (load.Refused other) → RefusesOnShelf told block.ulid other) → IsReadOf told block.ulid (read_as block.ulid (Some found))
  of_found (Objects objects files) checked held by loaded refused = of_objects objects files.value checked held by loaded
  of_found (Refused number refusal) checked held by loaded refused = of_refusal refusal.value checked by refused

pub if_any : {X : Type 0} (o : Option X) (P : X → Type 0) → ((x : X) → o ≡ Some x → P x) → IfSome o P
if_any None P holds = tt
if_any (Some x) P holds = holds x refl

pub found_of : (told : Option Contents) (block : Block) (checked : Result CheckedBlock LoadRefusal) (result : Result ShelfBlock Verdict) → IfOk result (λ read. read.ulid ≡ block.ulid) → IfOk result (λ read. IsHeld block read.found)
    → IfOk result (λ read. IsReadBy checked (read_as block.ulid (Some read.found))) → ((files : Contents) → told ≡ Some files → IfOk checked (λ own. IsLoaded files block.ulid (checked_files own)))
    → ((files : Contents) → told ≡ Some files → (other : CheckRefusal) → checked ≡ Err (load.Refused other) → RefusesOnShelf files block.ulid other) → IfOk result (IsFoundOf told block)
found_of told block checked (Ok read) ulid held by loaded refused = record {
  ulid = ulid;
  held = held;
  of = if_any told (λ files. IsReadOf files block.ulid (read_as block.ulid (Some read.found))) (λ files is. of_found files block read.found checked held by (loaded files is) (refused files is));
}
found_of told block checked (Err v) ulid held by loaded refused = tt

-- ---- the next block

abbrev is_inline : Body → Type 0
is_inline (Inline min_time max_time series) = Unit {0}
is_inline OnShelf = ⊥

pub inline_apart : (body : Body) (min_time max_time : ℤ) (series : List Series) → body ≡ Inline min_time max_time series → body ≢ OnShelf
inline_apart body min_time max_time series is on = subst is_inline on (subst is_inline (sym is) tt)
