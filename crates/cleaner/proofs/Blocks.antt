-- What pages of the names of blocks, and reads of their marks and metas, lead to.
use Rattle.std.proofs.Common.{◌≡◌, ℕ, suc, ◌+◌, ◌*◌, ◌-◌, ◌^◌, ◌<◌, ◌≤◌, Bool, true, List, [], ◌∷◌, ◌++◌, length, min, sym, ◌∙◌, ap, subst, Option, Some, None, Result, arith, length-append}
use Rattle.base.specs.declared.memory.NoMemory.{NoMemory}
use Rattle.block_meta.specs.MetaFields.{MarkFields}
use Rattle.world_core.specs.Operations.{entry_of}
use Rattle.world_core.specs.Plans.{Plan, Runs, ends, choose, after_get}
use Rattle.world_core.specs.Walks.{last_listed, ulids_in}
use Rattle.world_core.specs.declared.op.Op.{Op}
use Rattle.world_core.specs.declared.reply.Reply.{Reply}
use Rattle.world_core.specs.declared.reply.Reply.TheVariants as reply
use Rattle.world_core.specs.declared.seen.Seen.{Seen}
use Rattle.world_core.specs.declared.entry.Entry.{Entry}
use Rattle.world_core.specs.declared.act.Act.{Act}
use Rattle.cleaner.specs.Marks.{is_old_mark, is_old_block}
use Rattle.block_meta.specs.OfBlocks.{block_mark}
use Rattle.cleaner.specs.Pages.{page_of}
use Rattle.cleaner.specs.Cleanings.{Counts, if_mark, reads_meta, deletion, looking, none_deleted, one_block_more, listing}
use Rattle.cleaner.specs.CleanStates.{AreListed, Onward, Leads, counts_of, blocks_left, blocks_after_partial, may_at, goes_after, goes_by_blocks, goes_to}
use Rattle.cleaner.specs.declared.walk.Page.{Page}
use Rattle.cleaner.specs.declared.walk.Page.TheVariants as page_is
use Rattle.cleaner.specs.declared.clean.Stage.TheVariants.{Listing, Marking, Reading}
use Rattle.cleaner.specs.declared.walk.Walk.{Walk}
use Rattle.cleaner.specs.declared.clean.Clean.{Clean}
use Rattle.cleaner.specs.declared.clean.CleanEnd.{CleanEnd}
use Rattle.cleaner.specs.declared.clean.CleanEnd.TheVariants.{Done, Fault, Damaged, TooMany}
use Rattle.world_core.proofs.PageNames.{length-ulids_in, all_wait}
use Rattle.world_core.proofs.LeadSteps.{ended}
use Rattle.cleaner.proofs.Steps.{leads_as}
use Rattle.cleaner.proofs.Walked.{followed, page_follows, page_came, page_failed, WalksOn, walks_on}

-- ---- the page that came

module _ (c : Clean) (seat : ℕ) (o : Op) (seen : Seen) where
  pub blocks_came : (page : List (List ℕ)) (r : Result (Act CleanEnd) NoMemory) (new : Clean) → seen.reply ≡ reply.Names page
      → Leads (goes_by_blocks seen.seq c page) r new → Leads (goes_after Listing c (entry_of seat o seen)) r new
  blocks_came page r new is leads =
      leads_as (goes_by_blocks seen.seq c page) (goes_after Listing c (entry_of seat o seen)) r new
      (λ entries end run. λ names more blocks. page_came c.rules.page_limit seen.seq names page (λ all. looking c.rules none_deleted (ulids_in all)) (listing c.rules more) seen.reply entries end is (run names more blocks)) leads

  pub blocks_failed : (landed : Bool) → seen.reply ≡ reply.Failed landed → goes_after Listing c (entry_of seat o seen) [] (Some (Fault seen.seq))
  blocks_failed landed is = λ names more blocks. page_failed c.rules.page_limit seen.seq names (λ all. looking c.rules none_deleted (ulids_in all)) (listing c.rules more) seen.reply landed is

-- ---- its names

module _ (c : Clean) (seq : ℕ) (page : List (List ℕ)) where
  by_kind : (kind : Page) (entries : List Entry) (end : Option CleanEnd) → kind ≡ page_of c.rules.page_limit c.walk.listed c.walk.last page
      → ((names : List (List ℕ)) (more : ℕ) → (counts_of c ≡ none_deleted) × AreListed c.walk ulids_in c.waiting.items names more → Runs (followed kind seq (looking c.rules none_deleted (ulids_in (names ++ page))) (listing c.rules more (names ++ page))) entries end)
      → goes_by_blocks seq c page entries end
  by_kind kind entries end is run = λ names more blocks.
      page_follows ulids_in c.waiting.items c.rules.page_limit seq c.walk names page more (λ all. looking c.rules none_deleted (ulids_in all)) (listing c.rules more) kind entries end blocks.1 is (run names more blocks)

  pub blocks_unordered : page_is.Unordered ≡ page_of c.rules.page_limit c.walk.listed c.walk.last page → goes_by_blocks seq c page [] (Some (Damaged seq))
  blocks_unordered is = by_kind page_is.Unordered [] (Some (Damaged seq)) is (λ names more blocks. ended (Damaged seq))

  pub blocks_too_many : page_is.TooMany ≡ page_of c.rules.page_limit c.walk.listed c.walk.last page → goes_by_blocks seq c page [] (Some TooMany)
  blocks_too_many is = by_kind page_is.TooMany [] (Some TooMany) is (λ names more blocks. ended TooMany)

  -- the last page
  pub blocks_last : (waiting : List ℕ) (entries : List Entry) (end : Option CleanEnd) → page_is.Last ≡ page_of c.rules.page_limit c.walk.listed c.walk.last page
      → length page < 2 ^ 32 → waiting ≡ c.waiting.items ++ ulids_in page
      → (c.blocks + c.partials + length waiting + 0 ≤ 2 ^ 63 → Runs (looking c.rules (counts_of c) waiting) entries end) → goes_by_blocks seq c page entries end
  blocks_last waiting entries end is short added run = by_kind page_is.Last entries end is (λ names more blocks.
      let no_blocks : c.blocks ≡ 0 = ap (λ (n : Counts). n.blocks) blocks.0 in
      let no_partials : c.partials ≡ 0 = ap (λ (n : Counts). n.partials) blocks.0 in
      let all : waiting ≡ ulids_in (names ++ page) = all_wait c.waiting.items page names waiting added blocks.1.reads in
      let many : length waiting ≤ length (names ++ page) = subst (λ l. length l ≤ length (names ++ page)) (sym all) (length-ulids_in (names ++ page)) in
      let both : length (names ++ page) ≡ length names + length page = length-append names page in
      let few : length names < 1_000_000 = blocks.1.few in
      subst (λ n. Runs (looking c.rules n (ulids_in (names ++ page))) entries end) blocks.0
      (subst (λ l. Runs (looking c.rules (counts_of c) l) entries end) all (run (omega (arith, no_blocks, no_partials, many, both, few, short)))))

  -- any other page
  pub blocks_full : (walk : Walk) (waiting : List ℕ) (entries : List Entry) (end : Option CleanEnd) → page_is.Full ≡ page_of c.rules.page_limit c.walk.listed c.walk.last page
      → waiting ≡ c.waiting.items ++ ulids_in page → walk.listed ≡ c.walk.listed + length page → walk.listed < 1_000_000 → 0 < length page → walk.last ≡ last_listed page
      → ((names : List (List ℕ)) (more : ℕ) → (counts_of c ≡ none_deleted) × AreListed walk ulids_in waiting names more → Runs (listing c.rules (suc more) names) entries end)
      → goes_by_blocks seq c page entries end
  blocks_full walk waiting entries end is added counted few some last run = by_kind page_is.Full entries end is (λ names more blocks.
      let all : ulids_in (names ++ page) ≡ waiting = sym (all_wait c.waiting.items page names waiting added blocks.1.reads) in
      let on : WalksOn walk ulids_in waiting (names ++ page) more = walks_on ulids_in c.waiting.items waiting c.walk walk names page more blocks.1 all counted few some last in
      subst (λ n. Runs (listing c.rules n (names ++ page)) entries end) (sym on.is) (run (names ++ page) on.one_less (blocks.0, on.listed)))

  -- the looks are fewer than what was left before the last page
  pub blocks_last_falls : (waiting : List ℕ) → waiting ≡ c.waiting.items ++ ulids_in page → length page < 2 ^ 32
      → 2 ^ 34 * length waiting + 1 ≤ 2 ^ 34 * length c.waiting.items + (2 ^ 34 + 1) * (1_000_000 - c.walk.listed) + 2 ^ 34 * 2 ^ 32 + 1
  blocks_last_falls waiting added short =
      let all : length waiting ≡ length c.waiting.items + length (ulids_in page) = ap length added ∙ length-append c.waiting.items (ulids_in page) in
      let few : length (ulids_in page) ≤ length page = length-ulids_in page in
      omega (arith, all, few, short)

  pub blocks_full_falls : (waiting : List ℕ) (listed : ℕ) → waiting ≡ c.waiting.items ++ ulids_in page → 0 < length page → listed ≡ c.walk.listed + length page → listed < 1_000_000
      → 2 ^ 34 * length waiting + (2 ^ 34 + 1) * (1_000_000 - listed) + 2 ^ 34 * 2 ^ 32 + 1 + 1
      ≤ 2 ^ 34 * length c.waiting.items + (2 ^ 34 + 1) * (1_000_000 - c.walk.listed) + 2 ^ 34 * 2 ^ 32 + 1
  blocks_full_falls waiting listed added some counted fewer =
      let all : length waiting ≡ length c.waiting.items + length (ulids_in page) = ap length added ∙ length-append c.waiting.items (ulids_in page) in
      let few : length (ulids_in page) ≤ length page = length-ulids_in page in
      omega (arith, all, few, counted, some, fewer)

-- ---- the next block

pub next_block : (c : Clean) (ulid : ℕ) (waiting : List ℕ) (entries : List Entry) (end : Option CleanEnd) → c.waiting.items ≡ ulid ∷ waiting
    → (c.blocks + c.partials + length waiting + 1 ≤ 2 ^ 63 → Runs (looking c.rules (counts_of c) (ulid ∷ waiting)) entries end) → goes_to c (blocks_left c) entries end
next_block c ulid waiting entries end is run = λ can.
    let one_more : length c.waiting.items ≡ length (ulid ∷ waiting) = ap length is in
    subst (λ l. Runs (looking c.rules (counts_of c) l) entries end) (sym is) (run (omega (arith, can, one_more)))

pub no_block : (c : Clean) → c.waiting.items ≡ [] → goes_to c (blocks_left c) [] (Some (Done c.blocks c.partials))
no_block c none = λ can. subst (λ l. Runs (looking c.rules (counts_of c) l) [] (Some (Done c.blocks c.partials))) (sym none) (ended (Done c.blocks c.partials))

-- ---- replies to gets

module _ (found : List ℕ → Plan CleanEnd) (absent : Plan CleanEnd) (seq : ℕ) (given : Reply) where
  get_failed : (landed : Bool) → given ≡ reply.Failed landed → Runs (after_get given found absent (ends (Fault seq))) [] (Some (Fault seq))
  get_failed landed is = subst (λ r. Runs (after_get r found absent (ends (Fault seq))) [] (Some (Fault seq))) (sym is) (ended (Fault seq))

  get_absent : (entries : List Entry) (end : Option CleanEnd) → given ≡ reply.Absent → Runs absent entries end → Runs (after_get given found absent (ends (Fault seq))) entries end
  get_absent entries end is run = subst (λ r. Runs (after_get r found absent (ends (Fault seq))) entries end) (sym is) run

  get_found : (bytes : List ℕ) (entries : List Entry) (end : Option CleanEnd) → given ≡ reply.Found bytes → Runs (found bytes) entries end → Runs (after_get given found absent (ends (Fault seq))) entries end
  get_found bytes entries end is run = subst (λ r. Runs (after_get r found absent (ends (Fault seq))) entries end) (sym is) run

runs_if : (b : Bool) (one other : Plan CleanEnd) (entries : List Entry) (end : Option CleanEnd) → b ≡ true → Runs one entries end → Runs (choose b one other) entries end
runs_if b one other entries end is run = subst (λ t. Runs (choose t one other) entries end) (sym is) run

runs_marked : (seq : ℕ) (o : Option MarkFields) (next : MarkFields → Plan CleanEnd) (mark : MarkFields) (entries : List Entry) (end : Option CleanEnd) → o ≡ Some mark → Runs (next mark) entries end → Runs (if_mark seq o next) entries end
runs_marked seq o next mark entries end is run = subst (λ m. Runs (if_mark seq m next) entries end) (sym is) run

runs_no_mark : (seq : ℕ) (o : Option MarkFields) (next : MarkFields → Plan CleanEnd) → o ≡ None → Runs (if_mark seq o next) [] (Some (Damaged seq))
runs_no_mark seq o next is = subst (λ m. Runs (if_mark seq m next) [] (Some (Damaged seq))) (sym is) (ended (Damaged seq))

-- ---- the read of a mark

module _ (c : Clean) (ulid seat : ℕ) (o : Op) (seen : Seen) where
  abbrev After_mark : Onward
  After_mark = goes_after (Marking ulid) c (entry_of seat o seen)

  abbrev By_mark : MarkFields → Plan CleanEnd
  By_mark mark = choose (is_old_mark mark seen.moment c.rules.delete) (deletion c.rules ulid (looking c.rules (one_block_more (counts_of c)) c.waiting.items)) (blocks_left c)

  abbrev Marked : List ℕ → Plan CleanEnd
  Marked bytes = if_mark seen.seq (block_mark ulid bytes) By_mark

  abbrev Unmarked : Plan CleanEnd
  Unmarked = reads_meta c.rules ulid (blocks_left c) (deletion c.rules ulid (blocks_after_partial c))

  pub mark_failed : (landed : Bool) → seen.reply ≡ reply.Failed landed → After_mark [] (Some (Fault seen.seq))
  mark_failed landed is = λ names more can. get_failed Marked Unmarked seen.seq seen.reply landed is

  pub mark_refused : (bytes : List ℕ) → seen.reply ≡ reply.Found bytes → block_mark ulid bytes ≡ None → After_mark [] (Some (Damaged seen.seq))
  mark_refused bytes is none = λ names more can. get_found Marked Unmarked seen.seq seen.reply bytes [] (Some (Damaged seen.seq)) is (runs_no_mark seen.seq (block_mark ulid bytes) By_mark none)

  pub mark_absent : (r : Result (Act CleanEnd) NoMemory) (new : Clean) → seen.reply ≡ reply.Absent → Leads (may_at (Reading ulid) c) r new → Leads After_mark r new
  mark_absent r new is leads =
      leads_as (may_at (Reading ulid) c) After_mark r new
      (λ entries end run. λ names more can. get_absent Marked Unmarked seen.seq seen.reply entries end is (run names more can)) leads

  pub mark_old : (bytes : List ℕ) (mark : MarkFields) (blocks : ℕ) (r : Result (Act CleanEnd) NoMemory) (new : Clean) → seen.reply ≡ reply.Found bytes → block_mark ulid bytes ≡ Some mark
      → is_old_mark mark seen.moment c.rules.delete ≡ true → blocks ≡ min (c.blocks + 1) 18446744073709551615
      → Leads (λ entries end. blocks + c.partials + length c.waiting.items + 0 ≤ 2 ^ 63 → Runs (deletion c.rules ulid (looking c.rules (record { blocks = blocks; partials = c.partials }) c.waiting.items)) entries end) r new → Leads After_mark r new
  mark_old bytes mark blocks r new is read old counted leads =
      leads_as _ After_mark r new
      (λ entries end run. λ names more can.
      let one_more : blocks ≡ c.blocks + 1 = omega (arith, counted, can) in
      get_found Marked Unmarked seen.seq seen.reply bytes entries end is
      (runs_marked seen.seq (block_mark ulid bytes) By_mark mark entries end read
      (runs_if (is_old_mark mark seen.moment c.rules.delete) _ _ entries end old
      (subst (λ n. Runs (deletion c.rules ulid (looking c.rules (record { blocks = n; partials = c.partials }) c.waiting.items)) entries end) one_more (run (omega (arith, can, one_more))))))) leads

-- ---- the read of a meta

module _ (c : Clean) (ulid seat : ℕ) (o : Op) (seen : Seen) where
  abbrev After_meta : Onward
  After_meta = goes_after (Reading ulid) c (entry_of seat o seen)

  abbrev Kept : List ℕ → Plan CleanEnd
  Kept bytes = blocks_left c

  abbrev No_meta : Plan CleanEnd
  No_meta = choose (is_old_block ulid seen.moment c.rules.partial) (deletion c.rules ulid (blocks_after_partial c)) (blocks_left c)

  pub meta_failed : (landed : Bool) → seen.reply ≡ reply.Failed landed → After_meta [] (Some (Fault seen.seq))
  meta_failed landed is = λ names more can. get_failed Kept No_meta seen.seq seen.reply landed is

  pub meta_found : (bytes : List ℕ) (r : Result (Act CleanEnd) NoMemory) (new : Clean) → seen.reply ≡ reply.Found bytes → Leads (goes_to c (blocks_left c)) r new → Leads After_meta r new
  meta_found bytes r new is leads =
      leads_as (goes_to c (blocks_left c)) After_meta r new (λ entries end run. λ names more can. get_found Kept No_meta seen.seq seen.reply bytes entries end is (run (omega (arith, can)))) leads

  pub partial_old : (partials : ℕ) (r : Result (Act CleanEnd) NoMemory) (new : Clean) → seen.reply ≡ reply.Absent → is_old_block ulid seen.moment c.rules.partial ≡ true → partials ≡ min (c.partials + 1) 18446744073709551615
      → Leads (λ entries end. c.blocks + partials + length c.waiting.items + 0 ≤ 2 ^ 63 → Runs (deletion c.rules ulid (looking c.rules (record { blocks = c.blocks; partials = partials }) c.waiting.items)) entries end) r new → Leads After_meta r new
  partial_old partials r new is old counted leads =
      leads_as _ After_meta r new
      (λ entries end run. λ names more can.
      let one_more : partials ≡ c.partials + 1 = omega (arith, counted, can) in
      get_absent Kept No_meta seen.seq seen.reply entries end is
      (runs_if (is_old_block ulid seen.moment c.rules.partial) _ _ entries end old
      (subst (λ n. Runs (deletion c.rules ulid (looking c.rules (record { blocks = c.blocks; partials = n }) c.waiting.items)) entries end) one_more (run (omega (arith, can, one_more)))))) leads

-- a call whose result and whose state are those
pub leads_joined : (follows : Onward) (r came : Result (Act CleanEnd) NoMemory) (new left : Clean) → r ≡ came → new ≡ left → Leads follows came left → Leads follows r new
leads_joined follows r came new left result self leads = subst (λ p. Leads follows p new) (sym result) (subst (λ s. Leads follows came s) (sym self) leads)
