-- What pages of a block's names, and deletes of its objects, lead to.
use Rattle.std.proofs.Common.{◌≡◌, ℕ, suc, ◌+◌, ◌*◌, ◌-◌, ◌^◌, ◌<◌, ◌≤◌, Bool, List, [], ◌∷◌, ◌++◌, length, refl, sym, ◌∙◌, ap, subst, Option, Some, None, Result, arith, length-append, drop}
use Rattle.std.proofs.lemmas.List.Elements.{filter_map-append}
use Rattle.base.specs.declared.memory.NoMemory.{NoMemory}
use Rattle.block_keys.specs.declared.key.Key.{Key}
use Rattle.block_keys.specs.declared.key.Key.TheVariants as key
use Rattle.std.specs.Prelude.{IsSomeAnd}
use Rattle.world_core.specs.Operations.{IsAnswer, entry_of}
use Rattle.world_core.specs.Plans.{Runs, ends, after_delete}
use Rattle.world_core.specs.Walks.{last_listed}
use Rattle.world_core.specs.declared.op.Op.{Op}
use Rattle.world_core.specs.declared.reply.Reply.TheVariants as reply
use Rattle.world_core.specs.declared.seen.Seen.{Seen}
use Rattle.world_core.specs.declared.entry.Entry.{Entry}
use Rattle.world_core.specs.declared.act.Act.{Act}
use Rattle.cleaner.specs.Objects.{data_named, data_keys, objects_of}
use Rattle.cleaner.specs.Pages.{page_of}
use Rattle.cleaner.specs.Cleanings.{deleting, deletion, walking}
use Rattle.world_core.specs.Leads.{after_entry}
use Rattle.cleaner.specs.CleanStates.{AreListed, CanCount, Onward, Leads, blocks_left, goes_after, goes_by_objects, goes_to, first_delete, asked_at, asked_clean}
use Rattle.cleaner.specs.declared.walk.Page.{Page}
use Rattle.cleaner.specs.declared.walk.Page.TheVariants as page_is
use Rattle.cleaner.specs.declared.clean.Stage.TheVariants.{Walking, Deleting}
use Rattle.cleaner.specs.declared.walk.Walk.{Walk}
use Rattle.cleaner.specs.declared.clean.Clean.{Clean}
use Rattle.cleaner.specs.declared.clean.CleanEnd.{CleanEnd}
use Rattle.cleaner.specs.declared.clean.CleanEnd.TheVariants.{Fault, Damaged, TooMany}
use Rattle.world_core.proofs.PageNames.{length-found}
use Rattle.world_core.proofs.LeadSteps.{ended}
use Rattle.cleaner.proofs.Steps.{leads_as}
use Rattle.cleaner.proofs.Walked.{followed, page_follows, page_came, page_failed, WalksOn, walks_on}

-- ---- the walk over a block's names

-- it begins
pub walk_begins : (ulid : ℕ) (c : Clean) (walk : Walk) (doomed : List Key) (entries : List Entry) (end : Option CleanEnd) → walk.listed ≡ 0 → walk.last ≡ None → doomed ≡ []
    → ((names : List (List ℕ)) (more : ℕ) → CanCount c 0 × AreListed walk (data_keys ulid) doomed names more → Runs (walking c.rules ulid (blocks_left c) (suc more) names) entries end)
    → goes_to c (deletion c.rules ulid (blocks_left c)) entries end
walk_begins ulid c walk doomed entries end listed last none run = λ can.
    run [] 999_999 (can, record { many = sym listed; ends = sym last; reads = sym none; few = omega arith; enough = omega arith })

module _ (c : Clean) (ulid seat : ℕ) (o : Op) (seen : Seen) where
  pub objects_came : (page : List (List ℕ)) (r : Result (Act CleanEnd) NoMemory) (new : Clean) → seen.reply ≡ reply.Names page
      → Leads (goes_by_objects seen.seq ulid c page) r new → Leads (goes_after (Walking ulid) c (entry_of seat o seen)) r new
  objects_came page r new is leads =
      leads_as (goes_by_objects seen.seq ulid c page) (goes_after (Walking ulid) c (entry_of seat o seen)) r new
      (λ entries end run. λ names more objects. page_came c.rules.page_limit seen.seq names page (λ all. deleting (objects_of ulid all) (blocks_left c)) (walking c.rules ulid (blocks_left c) more) seen.reply entries end is (run names more objects)) leads

  pub objects_failed : (landed : Bool) → seen.reply ≡ reply.Failed landed → goes_after (Walking ulid) c (entry_of seat o seen) [] (Some (Fault seen.seq))
  objects_failed landed is = λ names more objects. page_failed c.rules.page_limit seen.seq names (λ all. deleting (objects_of ulid all) (blocks_left c)) (walking c.rules ulid (blocks_left c) more) seen.reply landed is

-- ---- its names

data_keys-append : (ulid : ℕ) (before more : List (List ℕ)) → data_keys ulid (before ++ more) ≡ data_keys ulid before ++ data_keys ulid more
data_keys-append ulid before more = filter_map-append (data_named ulid) before more

few_keys : (ulid : ℕ) (names : List (List ℕ)) → length (data_keys ulid names) ≤ length names
few_keys ulid names = length-found (data_named ulid) names

all_doomed : (ulid : ℕ) (before : List Key) (page names : List (List ℕ)) (doomed : List Key) → doomed ≡ before ++ data_keys ulid page → data_keys ulid names ≡ before → doomed ≡ data_keys ulid (names ++ page)
all_doomed ulid before page names doomed added listed = added ∙ ap (λ l. l ++ data_keys ulid page) (sym listed) ∙ sym (data_keys-append ulid names page)

module _ (c : Clean) (ulid seq : ℕ) (page : List (List ℕ)) where
  by_kind : (kind : Page) (entries : List Entry) (end : Option CleanEnd) → kind ≡ page_of c.rules.page_limit c.walk.listed c.walk.last page
      → ((names : List (List ℕ)) (more : ℕ) → CanCount c 0 × AreListed c.walk (data_keys ulid) c.doomed.items names more → Runs (followed kind seq (deleting (objects_of ulid (names ++ page)) (blocks_left c)) (walking c.rules ulid (blocks_left c) more (names ++ page))) entries end)
      → goes_by_objects seq ulid c page entries end
  by_kind kind entries end is run = λ names more objects.
      page_follows (data_keys ulid) c.doomed.items c.rules.page_limit seq c.walk names page more (λ all. deleting (objects_of ulid all) (blocks_left c)) (walking c.rules ulid (blocks_left c) more) kind entries end objects.1 is (run names more objects)

  pub objects_unordered : page_is.Unordered ≡ page_of c.rules.page_limit c.walk.listed c.walk.last page → goes_by_objects seq ulid c page [] (Some (Damaged seq))
  objects_unordered is = by_kind page_is.Unordered [] (Some (Damaged seq)) is (λ names more objects. ended (Damaged seq))

  pub objects_too_many : page_is.TooMany ≡ page_of c.rules.page_limit c.walk.listed c.walk.last page → goes_by_objects seq ulid c page [] (Some TooMany)
  objects_too_many is = by_kind page_is.TooMany [] (Some TooMany) is (λ names more objects. ended TooMany)

  -- the last page
  pub objects_last : (doomed : List Key) (entries : List Entry) (end : Option CleanEnd) → page_is.Last ≡ page_of c.rules.page_limit c.walk.listed c.walk.last page
      → doomed ≡ c.doomed.items ++ data_keys ulid page
      → (CanCount c 0 → Runs (deleting (key.Meta ulid ∷ doomed ++ key.Mark ulid ∷ []) (blocks_left c)) entries end) → goes_by_objects seq ulid c page entries end
  objects_last doomed entries end is added run = by_kind page_is.Last entries end is (λ names more objects.
      subst (λ l. Runs (deleting (key.Meta ulid ∷ l ++ key.Mark ulid ∷ []) (blocks_left c)) entries end)
      (all_doomed ulid c.doomed.items page names doomed added objects.1.reads) (run objects.0))

  -- any other page
  pub objects_full : (walk : Walk) (doomed : List Key) (entries : List Entry) (end : Option CleanEnd) → page_is.Full ≡ page_of c.rules.page_limit c.walk.listed c.walk.last page
      → doomed ≡ c.doomed.items ++ data_keys ulid page → walk.listed ≡ c.walk.listed + length page → walk.listed < 1_000_000 → 0 < length page → walk.last ≡ last_listed page
      → ((names : List (List ℕ)) (more : ℕ) → CanCount c 0 × AreListed walk (data_keys ulid) doomed names more → Runs (walking c.rules ulid (blocks_left c) (suc more) names) entries end)
      → goes_by_objects seq ulid c page entries end
  objects_full walk doomed entries end is added counted few some last run = by_kind page_is.Full entries end is (λ names more objects.
      let all : data_keys ulid (names ++ page) ≡ doomed = sym (all_doomed ulid c.doomed.items page names doomed added objects.1.reads) in
      let on : WalksOn walk (data_keys ulid) doomed (names ++ page) more = walks_on (data_keys ulid) c.doomed.items doomed c.walk walk names page more objects.1 all counted few some last in
      subst (λ n. Runs (walking c.rules ulid (blocks_left c) n (names ++ page)) entries end) (sym on.is) (run (names ++ page) on.one_less (objects.0, on.listed)))

  pub objects_last_falls : (doomed : List Key) → doomed ≡ c.doomed.items ++ data_keys ulid page → length page < 2 ^ 32
      → 2 ^ 34 * length c.waiting.items + length doomed + 4 ≤ 2 ^ 34 * length c.waiting.items + 2 * (1_000_000 - c.walk.listed) + length c.doomed.items + 2 ^ 33
  objects_last_falls doomed added short =
      let all : length doomed ≡ length c.doomed.items + length (data_keys ulid page) = ap length added ∙ length-append c.doomed.items (data_keys ulid page) in
      let few : length (data_keys ulid page) ≤ length page = few_keys ulid page in
      omega (arith, all, few, short)

  pub objects_full_falls : (doomed : List Key) (listed : ℕ) → doomed ≡ c.doomed.items ++ data_keys ulid page → 0 < length page → listed ≡ c.walk.listed + length page → listed < 1_000_000
      → 2 ^ 34 * length c.waiting.items + 2 * (1_000_000 - listed) + length doomed + 2 ^ 33 + 1
      ≤ 2 ^ 34 * length c.waiting.items + 2 * (1_000_000 - c.walk.listed) + length c.doomed.items + 2 ^ 33
  objects_full_falls doomed listed added some counted fewer =
      let all : length doomed ≡ length c.doomed.items + length (data_keys ulid page) = ap length added ∙ length-append c.doomed.items (data_keys ulid page) in
      let few : length (data_keys ulid page) ≤ length page = few_keys ulid page in
      omega (arith, all, few, counted, some, fewer)

-- ---- the deletes

pub no_object : (c : Clean) (entries : List Entry) (end : Option CleanEnd) → c.doomed.items ≡ [] → goes_to c (blocks_left c) entries end → goes_to c (deleting c.doomed.items (blocks_left c)) entries end
no_object c entries end none run = λ can. subst (λ l. Runs (deleting l (blocks_left c)) entries end) (sym none) (run can)

pub objects_begin : (c : Clean) (ulid : ℕ) (doomed : List Key) (entries : List Entry) (end : Option CleanEnd) → doomed ≡ key.Meta ulid ∷ c.doomed.items ++ key.Mark ulid ∷ []
    → (CanCount c 0 → Runs (deleting doomed (blocks_left c)) entries end) → goes_to c (deleting (key.Meta ulid ∷ c.doomed.items ++ key.Mark ulid ∷ []) (blocks_left c)) entries end
objects_begin c ulid doomed entries end is run = λ can. subst (λ l. Runs (deleting l (blocks_left c)) entries end) is (run can)

-- the object whose delete is waited for, and those after it
waited : (objects : List Key) (o : Op) → first_delete objects ≡ Some o → (object : Key) × (objects ≡ object ∷ drop 1 objects)
waited [] o is = absurd (cc (is))
waited (object ∷ objects) o is = (object, refl)

module _ (c : Clean) (seat : ℕ) (o : Op) (seen : Seen) where
  abbrev After_delete : Onward
  After_delete = goes_after Deleting c (entry_of seat o seen)

  after_first : (objects : List Key) (entries : List Entry) (end : Option CleanEnd) → (object : Key) × (objects ≡ object ∷ drop 1 objects)
      → Runs (after_delete seen.reply (deleting (drop 1 objects) (blocks_left c)) (ends (Fault seen.seq))) entries end
      → Runs (after_entry (deleting objects (blocks_left c)) (entry_of seat o seen)) entries end
  after_first objects entries end (object, is) run =
      subst (λ l. Runs (after_entry (deleting l (blocks_left c)) (entry_of seat o seen)) entries end) (sym is) run

  pub delete_failed : (landed : Bool) (p : Op) → first_delete c.doomed.items ≡ Some p → seen.reply ≡ reply.Failed landed → After_delete [] (Some (Fault seen.seq))
  delete_failed landed p asks is = λ names more can. after_first c.doomed.items [] (Some (Fault seen.seq)) (waited c.doomed.items p asks)
      (subst (λ r. Runs (after_delete r (deleting (drop 1 c.doomed.items) (blocks_left c)) (ends (Fault seen.seq))) [] (Some (Fault seen.seq))) (sym is) (ended (Fault seen.seq)))

  pub deleted : (doomed : List Key) (r : Result (Act CleanEnd) NoMemory) (new : Clean) (p : Op) → first_delete c.doomed.items ≡ Some p → seen.reply ≡ reply.Deleted → doomed ≡ drop 1 c.doomed.items
      → Leads (λ entries end. CanCount c 0 → Runs (deleting doomed (blocks_left c)) entries end) r new → Leads After_delete r new
  deleted doomed r new p asks is rest leads =
      leads_as _ After_delete r new
      (λ entries end run. λ names more can. after_first c.doomed.items entries end (waited c.doomed.items p asks)
      (subst (λ q. Runs (after_delete q (deleting (drop 1 c.doomed.items) (blocks_left c)) (ends (Fault seen.seq))) entries end) (sym is)
      (subst (λ l. Runs (deleting l (blocks_left c)) entries end) rest (run can)))) leads

-- one object less
fewer : (objects rest : List Key) (p : Op) → first_delete objects ≡ Some p → rest ≡ drop 1 objects → length rest + 1 ≤ length objects
fewer [] rest p asks is = absurd (cc (asks))
fewer (object ∷ objects) rest p asks is = omega (arith, ap length is)

pub delete_falls : (c : Clean) (rest : List Key) (p : Op) → first_delete c.doomed.items ≡ Some p → rest ≡ drop 1 c.doomed.items
    → 2 ^ 34 * length c.waiting.items + length rest + 2 ≤ 2 ^ 34 * length c.waiting.items + length c.doomed.items + 1
delete_falls c rest p asks is = let less : length rest + 1 ≤ length c.doomed.items = fewer c.doomed.items rest p asks is in omega (arith, less)

-- the delete that is waited for
some_of : (o : Option Op) (P : Op → Type 0) → IsSomeAnd o P → (p : Op) × (o ≡ Some p)
some_of None P some = absurd some
some_of (Some p) P some = (p, refl)

pub waits_for : (c : Clean) (seen : Seen) → c.stage ≡ Deleting → IsSomeAnd (asked_clean c) (λ p. IsAnswer p seen) → (p : Op) × (first_delete c.doomed.items ≡ Some p)
waits_for c seen is some = some_of (first_delete c.doomed.items) (λ p. IsAnswer p seen) (subst (λ stage. IsSomeAnd (asked_at stage c) (λ p. IsAnswer p seen)) is some)
