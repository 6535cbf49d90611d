-- What a page of names leads to.
use Rattle.std.proofs.Common.{◌≡◌, ℕ, zero, suc, ◌+◌, ◌-◌, ◌*◌, ◌^◌, ◌<◌, ◌≤◌, Bool, true, false, List, [], ◌++◌, length, refl, sym, ◌∙◌, ap, subst, Option, Some, None, Result, min, arith, length-append}
use Rattle.std.specs.Prelude.{nat_lt, nat_le, map}
use Rattle.std.proofs.lemmas.Bool.{lt-leb, le-leb}
use Rattle.base.specs.declared.memory.NoMemory.{NoMemory}
use Rattle.base.specs.Order.{are_in_order_after, comes_after}
use Rattle.label_sets.specs.Labels.{compare_texts}
use Rattle.world_core.specs.Operations.{entry_of}
use Rattle.world_core.specs.Plans.{Plan, choose}
use Rattle.world_core.specs.Walks.{after_page, last_listed, ulids_in}
use Rattle.world_core.specs.declared.op.Op.{Op}
use Rattle.world_core.specs.declared.reply.Reply.{Reply}
use Rattle.world_core.specs.declared.reply.Reply.TheVariants as reply
use Rattle.world_core.specs.declared.seen.Seen.{Seen}
use Rattle.world_core.specs.declared.entry.Entry.{Entry}
use Rattle.world_core.specs.declared.act.Act.{Act}
use Rattle.sync_filters.specs.declared.found.Found.{Found}
use Rattle.meta_fetcher.specs.Sightings.{sighting_of}
use Rattle.meta_fetcher.specs.Syncs.{Synced, Course, walk_ends, reading, listing}
use Rattle.meta_fetcher.specs.SyncStates.{AreListed, IsAfter, Goes, Onward, course_of, sightings_of, goes_by_names, goes_after, Leads}
use Rattle.meta_fetcher.specs.declared.rules.SyncRules.{SyncRules}
use Rattle.meta_fetcher.specs.declared.sync.Stage.TheVariants.{Opening, Listing}
use Rattle.meta_fetcher.specs.declared.sync.Sync.{Sync}
use Rattle.meta_fetcher.specs.declared.sync.SyncEnd.{SyncEnd}
use Rattle.meta_fetcher.specs.declared.sync.SyncEnd.TheVariants.{TooMany, Damaged, Fault}
use Rattle.world_core.proofs.PageNames.{length-ulids_in, last_listed-more, all_wait}
use Rattle.meta_fetcher.proofs.Steps.{ended, leads_as}

-- a run of the one that a test chooses
goes_if : (rules : SyncRules) (course : Option Course) (b : Bool) (one other : Plan Synced) (entries : List Entry) (end : Option SyncEnd) → b ≡ true → Goes rules course one entries end
    → Goes rules course (choose b one other) entries end
goes_if rules course b one other entries end is run = subst (λ c. Goes rules course (choose c one other) entries end) (sym is) run

goes_else : (rules : SyncRules) (course : Option Course) (b : Bool) (one other : Plan Synced) (entries : List Entry) (end : Option SyncEnd) → b ≡ false → Goes rules course other entries end
    → Goes rules course (choose b one other) entries end
goes_else rules course b one other entries end is run = subst (λ c. Goes rules course (choose c one other) entries end) (sym is) run

-- what follows a page that came at that entry
abbrev After : SyncRules → List (List ℕ) → ℕ → ℕ → Reply → Plan Synced
After rules names more seq r = after_page walk_ends rules.page_limit names seq r (λ all. reading [] (ulids_in all)) (listing rules more)

-- ---- the page that came

-- what follows its names follows the page
pub page_follows : (rules : SyncRules) (course : Option Course) (names page : List (List ℕ)) (more seq : ℕ) (given : Reply) (entries : List Entry) (end : Option SyncEnd) → given ≡ reply.Names page
    → Goes rules course (After rules names more seq (reply.Names page)) entries end → Goes rules course (After rules names more seq given) entries end
page_follows rules course names page more seq given entries end is run = subst (λ r. Goes rules course (After rules names more seq r) entries end) (sym is) run

-- its names do not ascend
pub page_damaged : (rules : SyncRules) (course : Option Course) (last : Option (List ℕ)) (names page : List (List ℕ)) (more seq : ℕ) (given : Reply) → given ≡ reply.Names page → last_listed names ≡ last
    → are_in_order_after (comes_after compare_texts) last page ≡ false → Goes rules course (After rules names more seq given) [] (Some (Damaged seq))
page_damaged rules course last names page more seq given is listed down =
    page_follows rules course names page more seq given [] (Some (Damaged seq)) is
    (goes_else rules course (are_in_order_after (comes_after compare_texts) (last_listed names) page) _ _ [] (Some (Damaged seq)) (ap (λ l. are_in_order_after (comes_after compare_texts) l page) listed ∙ down) (ended rules course _ (Damaged seq) refl))

-- the call failed
pub page_failed : (rules : SyncRules) (course : Option Course) (names : List (List ℕ)) (more seq : ℕ) (landed : Bool) (given : Reply) → given ≡ reply.Failed landed
    → Goes rules course (After rules names more seq given) [] (Some (Fault seq))
page_failed rules course names more seq landed given is =
    subst (λ r. Goes rules course (After rules names more seq r) [] (Some (Fault seq))) (sym is) (ended rules course _ (Fault seq) refl)

module _ (s : Sync) (seat : ℕ) (o : Op) (seen : Seen) where
  abbrev Begun : Option Course
  Begun = Some (record { first = seen.seq; begin = seen.moment; end = seen.moment })

  abbrev Now : Option Course
  Now = Some (record { first = s.first; begin = s.begin; end = seen.moment })

  -- what follows its names, where they ascend
  abbrev ByNames : Option Course → List (List ℕ) → Onward
  ByNames course page entries end = (last : Option (List ℕ)) (names : List (List ℕ)) (more seq : ℕ) → IsAfter last s names more → are_in_order_after (comes_after compare_texts) last page ≡ true
      → Goes s.rules course (After s.rules names more seq (reply.Names page)) entries end

  pub first_page : (page : List (List ℕ)) (r : Result (Act SyncEnd) NoMemory) (new : Sync) → seen.reply ≡ reply.Names page → are_in_order_after (comes_after compare_texts) None page ≡ true
      → Leads (ByNames Begun page) r new → Leads (goes_after Opening s (entry_of seat o seen)) r new
  first_page page r new is up leads =
      leads_as (ByNames Begun page) (goes_after Opening s (entry_of seat o seen)) r new
      (λ entries end run. λ names more listed. page_follows s.rules Begun names page more seen.seq seen.reply entries end is (run None names more seen.seq listed up)) leads

  pub next_page : (page : List (List ℕ)) (r : Result (Act SyncEnd) NoMemory) (new : Sync) → seen.reply ≡ reply.Names page → are_in_order_after (comes_after compare_texts) (Some s.after) page ≡ true
      → Leads (ByNames Now page) r new → Leads (goes_after Listing s (entry_of seat o seen)) r new
  next_page page r new is up leads =
      leads_as (ByNames Now page) (goes_after Listing s (entry_of seat o seen)) r new
      (λ entries end run. λ names more listed. page_follows s.rules Now names page more seen.seq seen.reply entries end is (run (Some s.after) names more seen.seq listed up)) leads

  pub first_damaged : (page : List (List ℕ)) → seen.reply ≡ reply.Names page → are_in_order_after (comes_after compare_texts) None page ≡ false → goes_after Opening s (entry_of seat o seen) [] (Some (Damaged seen.seq))
  first_damaged page is down = λ names more listed. page_damaged s.rules Begun None names page more seen.seq seen.reply is listed.ends down

  pub next_damaged : (page : List (List ℕ)) → seen.reply ≡ reply.Names page → are_in_order_after (comes_after compare_texts) (Some s.after) page ≡ false → goes_after Listing s (entry_of seat o seen) [] (Some (Damaged seen.seq))
  next_damaged page is down = λ names more listed. page_damaged s.rules Now (Some s.after) names page more seen.seq seen.reply is listed.ends down

  pub first_failed : (landed : Bool) → seen.reply ≡ reply.Failed landed → goes_after Opening s (entry_of seat o seen) [] (Some (Fault seen.seq))
  first_failed landed is = λ names more listed. page_failed s.rules Begun names more seen.seq landed seen.reply is

  pub next_failed : (landed : Bool) → seen.reply ≡ reply.Failed landed → goes_after Listing s (entry_of seat o seen) [] (Some (Fault seen.seq))
  next_failed landed is = λ names more listed. page_failed s.rules Now names more seen.seq landed seen.reply is

-- ---- its names

-- the last page
pub last_page : (s : Sync) (page : List (List ℕ)) (waiting : List ℕ) (entries : List Entry) (end : Option SyncEnd)
    → waiting ≡ s.waiting.items ++ ulids_in page → nat_lt (length page) s.rules.page_limit ≡ true
    → Goes s.rules (Some (course_of s)) (reading (sightings_of s) waiting) entries end → goes_by_names s page entries end
last_page s page waiting entries end added short run = λ last names more seq listed up.
    let course : Option Course = Some (course_of s) in
    goes_if s.rules course (are_in_order_after (comes_after compare_texts) (last_listed names) page) _ _ entries end (ap (λ l. are_in_order_after (comes_after compare_texts) l page) listed.ends ∙ up)
    (goes_if s.rules course (nat_lt (length page) s.rules.page_limit) _ _ entries end short
    (subst (λ l. Goes s.rules course (reading [] l) entries end) (all_wait s.waiting.items page names waiting added listed.blocks)
    (subst (λ (f : List Found). Goes s.rules course (reading (map sighting_of f) waiting) entries end) listed.unread run)))

more_pages : (s : Sync) (course : Option Course) (all : List (List ℕ)) (last : List ℕ) (waiting : List ℕ) (count more : ℕ) (entries : List Entry) (end : Option SyncEnd)
    → length all ≡ count → count < 1_000_000 → last_listed all ≡ Some last → ulids_in all ≡ waiting → s.found.items ≡ [] → 1_000_000 ≤ length all + more
    → ((names : List (List ℕ)) (left : ℕ) → AreListed count waiting s.found.items (Some last) names left → Goes s.rules course (listing s.rules (suc left) names) entries end)
    → Goes s.rules course (listing s.rules more all) entries end
more_pages s course all last waiting count zero entries end many few is blocks unread enough run = absurd (omega (arith, many, few, enough))
more_pages s course all last waiting count (suc left) entries end many few is blocks unread enough run =
    run all left (record { many = many; ends = is; blocks = blocks; unread = unread; enough = enough })

-- any other page
pub full_page : (s : Sync) (page : List (List ℕ)) (waiting : List ℕ) (count : ℕ) (last : List ℕ) (entries : List Entry) (end : Option SyncEnd)
    → waiting ≡ s.waiting.items ++ ulids_in page → nat_lt (length page) s.rules.page_limit ≡ false → 0 < length page → count ≡ s.listed + length page → count < 1_000_000 → last_listed page ≡ Some last
    → ((names : List (List ℕ)) (left : ℕ) → AreListed count waiting s.found.items (Some last) names left → Goes s.rules (Some (course_of s)) (listing s.rules (suc left) names) entries end)
    → goes_by_names s page entries end
full_page s page waiting count last entries end added full some counted few is run = λ before names more seq listed up.
    let course : Option Course = Some (course_of s) in
    let both : length (names ++ page) ≡ length names + length page = length-append names page in
    let many : length (names ++ page) ≡ count = both ∙ ap (λ n. n + length page) listed.many ∙ sym counted in
    goes_if s.rules course (are_in_order_after (comes_after compare_texts) (last_listed names) page) _ _ entries end (ap (λ l. are_in_order_after (comes_after compare_texts) l page) listed.ends ∙ up)
    (goes_else s.rules course (nat_lt (length page) s.rules.page_limit) _ _ entries end full
    (goes_else s.rules course (nat_le 1_000_000 (length (names ++ page))) _ _ entries end (lt-leb 1_000_000 (length (names ++ page)) (omega (arith, many, few)))
    (more_pages s course (names ++ page) last waiting count more entries end many few (last_listed-more names page last is)
    (sym (all_wait s.waiting.items page names waiting added listed.blocks)) listed.unread (let enough = listed.enough in omega (arith, enough, both, some)) run)))

-- too many names were listed
pub too_many_names : (s : Sync) (page : List (List ℕ)) (count : ℕ) → nat_lt (length page) s.rules.page_limit ≡ false → count ≡ min (s.listed + length page) 18446744073709551615 → 1_000_000 ≤ count
    → goes_by_names s page [] (Some TooMany)
too_many_names s page count full counted many = λ last names more seq listed up.
    let course : Option Course = Some (course_of s) in
    let all : length (names ++ page) ≡ s.listed + length page = length-append names page ∙ ap (λ n. n + length page) listed.many in
    goes_if s.rules course (are_in_order_after (comes_after compare_texts) (last_listed names) page) _ _ [] (Some TooMany) (ap (λ l. are_in_order_after (comes_after compare_texts) l page) listed.ends ∙ up)
    (goes_else s.rules course (nat_lt (length page) s.rules.page_limit) _ _ [] (Some TooMany) full
    (goes_if s.rules course (nat_le 1_000_000 (length (names ++ page))) _ _ [] (Some TooMany) (le-leb 1_000_000 (length (names ++ page)) (omega (arith, all, counted, many)))
    (ended s.rules course _ TooMany refl)))

-- ---- the measure

-- the reads are fewer than what was left before the last page
pub last_page_falls : (s : Sync) (page : List (List ℕ)) (waiting : List ℕ) → waiting ≡ s.waiting.items ++ ulids_in page → length page < 2 ^ 32
    → 2 * length waiting + 1 ≤ 2 * length s.waiting.items + 3 * (1_000_000 - s.listed) + 2 ^ 34
last_page_falls s page waiting added short =
    let all : length waiting ≡ length s.waiting.items + length (ulids_in page) = ap length added ∙ length-append s.waiting.items (ulids_in page) in
    let few : length (ulids_in page) ≤ length page = length-ulids_in page in
    omega (arith, all, few, short)

pub full_page_falls : (s : Sync) (page : List (List ℕ)) (waiting : List ℕ) (count : ℕ) → waiting ≡ s.waiting.items ++ ulids_in page → 0 < length page
    → count ≡ s.listed + length page → count < 1_000_000
    → 2 * length waiting + 3 * (1_000_000 - count) + 2 ^ 34 < 2 * length s.waiting.items + 3 * (1_000_000 - s.listed) + 2 ^ 34
full_page_falls s page waiting count added some counted fewer =
    let all : length waiting ≡ length s.waiting.items + length (ulids_in page) = ap length added ∙ length-append s.waiting.items (ulids_in page) in
    let few : length (ulids_in page) ≤ length page = length-ulids_in page in
    omega (arith, all, few, counted, some, fewer)
