-- Laws of the plan of a sync: what all its ends are, and for what it asks.
use Rattle.std.proofs.Common.{◌≡◌, ℕ, zero, suc, Bool, true, false, List, [], ◌∷◌, ◌++◌, length, Option, Some, None, refl, subst}
use Rattle.std.specs.Prelude.{nat_le, nat_lt, unwrap_or, fold}
use Rattle.std.specs.List.{AllByRecursion}
use Rattle.base.specs.Order.{are_in_order_after, comes_after}
use Rattle.label_sets.specs.Labels.{compare_texts}
use Rattle.block_keys.specs.declared.key.Key.TheVariants as key
use Rattle.block_meta.specs.MetaFields.{MetaFields, MarkFields}
use Rattle.moment_core.specs.declared.moment.Moment.{Moment}
use Rattle.world_core.specs.Limits.{most_listed}
use Rattle.world_core.specs.Plans.{Plan, ends, Runs, after_get}
use Rattle.world_core.specs.Walks.{after_page, last_listed, ulids_in}
use Rattle.world_core.specs.declared.entry.Entry.{Entry}
use Rattle.world_core.specs.declared.op.Op.{Op}
use Rattle.world_core.specs.declared.op.Op.TheVariants as op
use Rattle.world_core.specs.declared.reply.Reply.{Reply}
use Rattle.world_core.specs.declared.reply.Reply.TheVariants as reply
use Rattle.world_core.proofs.PlanLaws.{EndsAre, end_is, AsksFor, asked_are, each_op}
use Rattle.world_core.proofs.PlanParts.{noted_end, noted_run}
use Rattle.world_core.proofs.PlanWords.{chosen, gets_ask, pages_ask}
use Rattle.meta_fetcher.specs.Sightings.{Sighting}
use Rattle.block_meta.specs.OfBlocks.{block_meta, block_mark}
use Rattle.meta_fetcher.specs.Syncs.{Synced, sighted, fault, damaged, too_many, Course, with_entry, if_mark, if_meta, reads_meta, reading, walk_ends, listing, sync, IsEnd, SyncRun}
use Rattle.meta_fetcher.specs.declared.rules.SyncRules.{SyncRules}
use Rattle.meta_fetcher.specs.declared.sync.SyncEnd.{SyncEnd}

-- ---- ends

-- what a block's mark and its meta gave
abbrev pub sighting_at : ℕ → Option MarkFields → Moment → Moment → MetaFields → Sighting
sighting_at ulid mark mark_read meta_read meta = record { ulid = ulid; mark = mark; mark_read = mark_read; meta = meta; meta_read = meta_read }

-- The entry, of which something is given, asks for that and is answered so, after entries of which J holds.
pub record Comes (Given : Entry → Type 0) (J : Type 0) (asked : Op) (r : Reply) (e : Entry) : Type 0 where
  pub before : J
  pub given : Given e
  pub asks : e.op ≡ asked
  pub shows : e.reply ≡ r

-- what a reply tells of a block's mark
abbrev pub TellsMark : ℕ → Option MarkFields → Reply → Type 0
TellsMark ulid None r = r ≡ reply.Absent
TellsMark ulid (Some mark) r = (bytes : List ℕ) × (r ≡ reply.Found bytes) × (block_mark ulid bytes ≡ Some mark)

-- The last of the entries, of which something is given, read the block's mark.
pub record IsMarkRead (Given : Entry → Type 0) (made : List Entry) (ulid : ℕ) (mark : Option MarkFields) (read : Moment) : Type 0 where
  pub front : List Entry
  pub entry : Entry
  pub last : made ≡ front ++ entry ∷ []
  pub given : Given entry
  pub asks : entry.op ≡ op.Get (key.Mark ulid)
  pub tells : TellsMark ulid mark entry.reply
  pub moment : entry.moment ≡ read

-- J is kept along the reads: of the entries until now, the sightings, and the blocks that are still to be read. What it comes to is such.
pub record KeptByReads (Given : Entry → Type 0) (Is : List Entry → Synced → Type 0) (J : List Entry → List Sighting → List ℕ → Type 0) : Type 0 where
  pub over : (made : List Entry) (sightings : List Sighting) → J made sightings [] → Is made (sighted sightings)
  pub mark_failed : (made : List Entry) (sightings : List Sighting) (ulid : ℕ) (ulids : List ℕ) (e : Entry) (landed : Bool)
      → Comes Given (J made sightings (ulid ∷ ulids)) (op.Get (key.Mark ulid)) (reply.Failed landed) e → Is (made ++ e ∷ []) (fault e.seq)
  pub no_mark : (made : List Entry) (sightings : List Sighting) (ulid : ℕ) (ulids : List ℕ) (e : Entry) (bytes : List ℕ)
      → Comes Given (J made sightings (ulid ∷ ulids)) (op.Get (key.Mark ulid)) (reply.Found bytes) e → block_mark ulid bytes ≡ None → Is (made ++ e ∷ []) (damaged e.seq)
  pub marked : (made : List Entry) (sightings : List Sighting) (ulid : ℕ) (ulids : List ℕ) (e : Entry) (bytes : List ℕ) (mark : MarkFields)
      → Comes Given (J made sightings (ulid ∷ ulids)) (op.Get (key.Mark ulid)) (reply.Found bytes) e → block_mark ulid bytes ≡ Some mark → J (made ++ e ∷ []) sightings (ulid ∷ ulids)
  pub unmarked : (made : List Entry) (sightings : List Sighting) (ulid : ℕ) (ulids : List ℕ) (e : Entry)
      → Comes Given (J made sightings (ulid ∷ ulids)) (op.Get (key.Mark ulid)) reply.Absent e → J (made ++ e ∷ []) sightings (ulid ∷ ulids)
  pub meta_failed : (made : List Entry) (sightings : List Sighting) (ulid : ℕ) (ulids : List ℕ) (e : Entry) (landed : Bool)
      → Comes Given (J made sightings (ulid ∷ ulids)) (op.Get (key.Meta ulid)) (reply.Failed landed) e → Is (made ++ e ∷ []) (fault e.seq)
  pub unread : (made : List Entry) (sightings : List Sighting) (ulid : ℕ) (ulids : List ℕ) (e : Entry) (bytes : List ℕ)
      → Comes Given (J made sightings (ulid ∷ ulids)) (op.Get (key.Meta ulid)) (reply.Found bytes) e → block_meta ulid bytes ≡ None → Is (made ++ e ∷ []) (damaged e.seq)
  pub seen : (made : List Entry) (sightings : List Sighting) (ulid : ℕ) (ulids : List ℕ) (e : Entry) (bytes : List ℕ) (mark : Option MarkFields) (mark_read : Moment) (meta : MetaFields)
      → IsMarkRead Given made ulid mark mark_read → Comes Given (J made sightings (ulid ∷ ulids)) (op.Get (key.Meta ulid)) (reply.Found bytes) e → block_meta ulid bytes ≡ Some meta
      → J (made ++ e ∷ []) (sightings ++ sighting_at ulid mark mark_read e.moment meta ∷ []) ulids
  pub missed : (made : List Entry) (sightings : List Sighting) (ulid : ℕ) (ulids : List ℕ) (e : Entry)
      → Comes Given (J made sightings (ulid ∷ ulids)) (op.Get (key.Meta ulid)) reply.Absent e → J (made ++ e ∷ []) sightings ulids

module _ (Given : Entry → Type 0) (Is : List Entry → Synced → Type 0) (J : List Entry → List Sighting → List ℕ → Type 0) (kept : KeptByReads Given Is J) where
  abbrev Rest : List ℕ → Type 0
  Rest ulids = (made : List Entry) (sightings : List Sighting) → J made sightings ulids → EndsAre Given Is made (reading sightings ulids)

  meta_found : (ulids : List ℕ) → Rest ulids → (made : List Entry) (sightings : List Sighting) (ulid : ℕ) (mark : Option MarkFields) (mark_read : Moment) → IsMarkRead Given made ulid mark mark_read
      → (e : Entry) (bytes : List ℕ) (o : Option MetaFields) → block_meta ulid bytes ≡ o
      → Comes Given (J made sightings (ulid ∷ ulids)) (op.Get (key.Meta ulid)) (reply.Found bytes) e
      → EndsAre Given Is (made ++ e ∷ []) (if_meta e.seq o (λ meta. reading (sightings ++ sighting_at ulid mark mark_read e.moment meta ∷ []) ulids))
  meta_found ulids rest made sightings ulid mark mark_read looked e bytes None read came = kept.unread made sightings ulid ulids e bytes came read
  meta_found ulids rest made sightings ulid mark mark_read looked e bytes (Some meta) read came =
      rest (made ++ e ∷ []) (sightings ++ sighting_at ulid mark mark_read e.moment meta ∷ []) (kept.seen made sightings ulid ulids e bytes mark mark_read meta looked came read)

  after_meta : (ulids : List ℕ) → Rest ulids → (made : List Entry) (sightings : List Sighting) (ulid : ℕ) (mark : Option MarkFields) (mark_read : Moment) → IsMarkRead Given made ulid mark mark_read → (e : Entry) (r : Reply)
      → Comes Given (J made sightings (ulid ∷ ulids)) (op.Get (key.Meta ulid)) r e
      → EndsAre Given Is (made ++ e ∷ []) (after_get r (λ bytes. if_meta e.seq (block_meta ulid bytes) (λ meta. reading (sightings ++ sighting_at ulid mark mark_read e.moment meta ∷ []) ulids)) (reading sightings ulids) (ends (fault e.seq)))
  after_meta ulids rest made sightings ulid mark mark_read looked e (reply.Found bytes) came = meta_found ulids rest made sightings ulid mark mark_read looked e bytes (block_meta ulid bytes) refl came
  after_meta ulids rest made sightings ulid mark mark_read looked e reply.Absent came = rest (made ++ e ∷ []) sightings (kept.missed made sightings ulid ulids e came)
  after_meta ulids rest made sightings ulid mark mark_read looked e (reply.Failed landed) came = kept.meta_failed made sightings ulid ulids e landed came
  after_meta ulids rest made sightings ulid mark mark_read looked e reply.Clocked came = tt
  after_meta ulids rest made sightings ulid mark mark_read looked e reply.Stored came = tt
  after_meta ulids rest made sightings ulid mark mark_read looked e reply.Deleted came = tt
  after_meta ulids rest made sightings ulid mark mark_read looked e (reply.Names names) came = tt

  -- the read of the meta after that of the mark
  then_meta : (ulids : List ℕ) → Rest ulids → (made : List Entry) (sightings : List Sighting) (ulid : ℕ) (mark : Option MarkFields) (mark_read : Moment) → IsMarkRead Given made ulid mark mark_read → J made sightings (ulid ∷ ulids)
      → EndsAre Given Is made (reads_meta ulid (λ meta meta_read. reading (sightings ++ sighting_at ulid mark mark_read meta_read meta ∷ []) ulids) (reading sightings ulids))
  then_meta ulids rest made sightings ulid mark mark_read looked j = λ next is given.
      after_meta ulids rest made sightings ulid mark mark_read looked next next.reply (record { before = j; given = given; asks = is; shows = refl })

  mark_found : (ulids : List ℕ) → Rest ulids → (made : List Entry) (sightings : List Sighting) (ulid : ℕ) (e : Entry) (bytes : List ℕ) (o : Option MarkFields) → block_mark ulid bytes ≡ o
      → Comes Given (J made sightings (ulid ∷ ulids)) (op.Get (key.Mark ulid)) (reply.Found bytes) e
      → EndsAre Given Is (made ++ e ∷ []) (if_mark e.seq o (λ mark.
      reads_meta ulid (λ meta meta_read. reading (sightings ++ sighting_at ulid (Some mark) e.moment meta_read meta ∷ []) ulids) (reading sightings ulids)))
  mark_found ulids rest made sightings ulid e bytes None read came = kept.no_mark made sightings ulid ulids e bytes came read
  mark_found ulids rest made sightings ulid e bytes (Some mark) read came =
      then_meta ulids rest (made ++ e ∷ []) sightings ulid (Some mark) e.moment
      (record { front = made; entry = e; last = refl; given = came.given; asks = came.asks; tells = (bytes, came.shows, read); moment = refl }) (kept.marked made sightings ulid ulids e bytes mark came read)

  after_mark : (ulids : List ℕ) → Rest ulids → (made : List Entry) (sightings : List Sighting) (ulid : ℕ) (e : Entry) (r : Reply)
      → Comes Given (J made sightings (ulid ∷ ulids)) (op.Get (key.Mark ulid)) r e
      → EndsAre Given Is (made ++ e ∷ []) (after_get r (λ bytes. if_mark e.seq (block_mark ulid bytes) (λ mark.
      reads_meta ulid (λ meta meta_read. reading (sightings ++ sighting_at ulid (Some mark) e.moment meta_read meta ∷ []) ulids) (reading sightings ulids)))
      (reads_meta ulid (λ meta meta_read. reading (sightings ++ sighting_at ulid None e.moment meta_read meta ∷ []) ulids) (reading sightings ulids)) (ends (fault e.seq)))
  after_mark ulids rest made sightings ulid e (reply.Found bytes) came = mark_found ulids rest made sightings ulid e bytes (block_mark ulid bytes) refl came
  after_mark ulids rest made sightings ulid e reply.Absent came =
      then_meta ulids rest (made ++ e ∷ []) sightings ulid None e.moment
      (record { front = made; entry = e; last = refl; given = came.given; asks = came.asks; tells = came.shows; moment = refl }) (kept.unmarked made sightings ulid ulids e came)
  after_mark ulids rest made sightings ulid e (reply.Failed landed) came = kept.mark_failed made sightings ulid ulids e landed came
  after_mark ulids rest made sightings ulid e reply.Clocked came = tt
  after_mark ulids rest made sightings ulid e reply.Stored came = tt
  after_mark ulids rest made sightings ulid e reply.Deleted came = tt
  after_mark ulids rest made sightings ulid e (reply.Names names) came = tt

  pub reads_end : (ulids : List ℕ) → Rest ulids
  reads_end [] made sightings j = kept.over made sightings j
  reads_end (ulid ∷ ulids) made sightings j = λ e is given.
      after_mark ulids (reads_end ulids) made sightings ulid e e.reply (record { before = j; given = given; asks = is; shows = refl })

-- the page asks for the names after those that were listed
abbrev pub page_after : ℕ → List (List ℕ) → Op
page_after limit listed = op.RootPage (unwrap_or (last_listed listed) []) limit

-- I is kept along the pages: of the entries until now and the names that were listed. After the last page L holds of all names.
pub record KeptByPages (Given : Entry → Type 0) (Is : List Entry → Synced → Type 0) (limit : ℕ) (I L : List Entry → List (List ℕ) → Type 0) : Type 0 where
  pub failed : (made : List Entry) (listed : List (List ℕ)) (page : Entry) (landed : Bool)
      → Comes Given (I made listed) (page_after limit listed) (reply.Failed landed) page → Is (made ++ page ∷ []) (fault page.seq)
  pub unordered : (made : List Entry) (listed names : List (List ℕ)) (page : Entry)
      → Comes Given (I made listed) (page_after limit listed) (reply.Names names) page → are_in_order_after (comes_after compare_texts) (last_listed listed) names ≡ false → Is (made ++ page ∷ []) (damaged page.seq)
  pub short : (made : List Entry) (listed names : List (List ℕ)) (page : Entry)
      → Comes Given (I made listed) (page_after limit listed) (reply.Names names) page → are_in_order_after (comes_after compare_texts) (last_listed listed) names ≡ true → nat_lt (length names) limit ≡ true
      → L (made ++ page ∷ []) (listed ++ names)
  pub full : (made : List Entry) (listed names : List (List ℕ)) (page : Entry)
      → Comes Given (I made listed) (page_after limit listed) (reply.Names names) page → are_in_order_after (comes_after compare_texts) (last_listed listed) names ≡ true → nat_lt (length names) limit ≡ false
      → I (made ++ page ∷ []) (listed ++ names)
  pub many : (made : List Entry) (names : List (List ℕ)) → I made names → nat_le most_listed (length names) ≡ true → Is made too_many

module _ (Given : Entry → Type 0) (Is : List Entry → Synced → Type 0) (rules : SyncRules) (I L : List Entry → List (List ℕ) → Type 0) (kept : KeptByPages Given Is rules.page_limit I L)
    (goes : (made : List Entry) (names : List (List ℕ)) → L made names → EndsAre Given Is made (reading [] (ulids_in names))) where
  page_ends : (more : ℕ) → ((made : List Entry) (listed : List (List ℕ)) → I made listed → EndsAre Given Is made (listing rules more listed))
      → (made : List Entry) (listed : List (List ℕ)) (page : Entry) (r : Reply) → Comes Given (I made listed) (page_after rules.page_limit listed) r page
      → EndsAre Given Is (made ++ page ∷ []) (after_page walk_ends rules.page_limit listed page.seq r (λ names. reading [] (ulids_in names)) (listing rules more))
  page_ends more rest made listed page (reply.Names names) came =
      let now : List Entry = made ++ page ∷ [] in
      chosen (EndsAre Given Is now) (are_in_order_after (comes_after compare_texts) (last_listed listed) names) _ _
      (λ up. chosen (EndsAre Given Is now) (nat_lt (length names) rules.page_limit) _ _
      (λ short. goes now (listed ++ names) (kept.short made listed names page came up short))
      (λ full. let i = kept.full made listed names page came up full in
      chosen (EndsAre Given Is now) (nat_le most_listed (length (listed ++ names))) _ _
      (λ many. kept.many now (listed ++ names) i many)
      (λ few. rest now (listed ++ names) i)))
      (λ down. kept.unordered made listed names page came down)
  page_ends more rest made listed page (reply.Failed landed) came = kept.failed made listed page landed came
  page_ends more rest made listed page reply.Clocked came = tt
  page_ends more rest made listed page reply.Stored came = tt
  page_ends more rest made listed page (reply.Found bytes) came = tt
  page_ends more rest made listed page reply.Absent came = tt
  page_ends more rest made listed page reply.Deleted came = tt

  pub pages_end : (more : ℕ) (made : List Entry) (listed : List (List ℕ)) → I made listed → EndsAre Given Is made (listing rules more listed)
  pages_end zero made listed i = tt
  pages_end (suc more) made listed i = λ page is given.
      page_ends more (pages_end more) made listed page page.reply (record { before = i; given = given; asks = is; shows = refl })

-- What is kept by the pages and then by the reads holds of what a sync comes to.
pub told : (Given : Entry → Type 0) (Is : List Entry → Synced → Type 0) (rules : SyncRules) (I L : List Entry → List (List ℕ) → Type 0) (J : List Entry → List Sighting → List ℕ → Type 0)
    → KeptByPages Given Is rules.page_limit I L → KeptByReads Given Is J → I [] [] → ((made : List Entry) (names : List (List ℕ)) → L made names → J made [] (ulids_in names))
    → (entries : List Entry) (last : Synced) (course : Option Course) → AllByRecursion Given entries → Runs (sync rules) entries (Some (last, course)) → Is entries last × (course ≡ fold with_entry None entries)
told Given Is rules I L J by_pages by_reads none reads entries last course all run =
    let plain = noted_end with_entry None (listing rules most_listed []) entries last course run in
    let every = pages_end Given Is rules I L by_pages (λ made names l. reads_end Given Is J by_reads (ulids_in names) made [] (reads made names l)) most_listed [] [] none in
    (end_is Given Is (listing rules most_listed []) [] entries last every all plain.0, plain.1)

course_on : (course : Course) (entries : List Entry) → fold with_entry (Some course) entries ≡ Some (record { first = course.first; begin = course.begin; end = fold (λ last e. e.moment) course.end entries })
course_on course [] = refl
course_on course (e ∷ entries) = course_on (record { first = course.first; begin = course.begin; end = e.moment }) entries

-- the number and the moment of the first entry, and the moment of the last
pub course_of_all : (first : Entry) (entries : List Entry)
    → fold with_entry None (first ∷ entries) ≡ Some (record { first = first.seq; begin = first.moment; end = fold (λ last e. e.moment) first.moment entries })
course_of_all first entries = course_on (record { first = first.seq; begin = first.moment; end = first.moment }) entries

-- the same of a sync that came to an end
pub synced : (Given : Entry → Type 0) (Is : List Entry → Synced → Type 0) (rules : SyncRules) (I L : List Entry → List (List ℕ) → Type 0) (J : List Entry → List Sighting → List ℕ → Type 0)
    → KeptByPages Given Is rules.page_limit I L → KeptByReads Given Is J → I [] [] → ((made : List Entry) (names : List (List ℕ)) → L made names → J made [] (ulids_in names))
    → (entries : List Entry) (end : SyncEnd) → AllByRecursion Given entries → SyncRun rules entries (Some end) → (last : Synced) × Is entries last × IsEnd rules (last, fold with_entry None entries) end
synced Given Is rules I L J by_pages by_reads none reads entries end all ((last, course), run, is) =
    let plain = told Given Is rules I L J by_pages by_reads none reads entries last course all run in
    (last, plain.0, subst (λ c. IsEnd rules (last, c) end) plain.1 is)

-- ---- operations

module _ (P : Op → Type 0) (marks : (ulid : ℕ) → P (op.Get (key.Mark ulid))) (metas : (ulid : ℕ) → P (op.Get (key.Meta ulid))) where
  abbrev Asked : List Entry → Plan Synced → Type 0
  Asked made plan = AsksFor (λ before o. P o) made plan

  asked_meta : (made : List Entry) (seq : ℕ) (o : Option MetaFields) (next : MetaFields → Plan Synced) → ((meta : MetaFields) → Asked made (next meta)) → Asked made (if_meta seq o next)
  asked_meta made seq None next all = tt
  asked_meta made seq (Some meta) next all = all meta

  asked_mark : (made : List Entry) (seq : ℕ) (o : Option MarkFields) (next : MarkFields → Plan Synced) → ((mark : MarkFields) → Asked made (next mark)) → Asked made (if_mark seq o next)
  asked_mark made seq None next all = tt
  asked_mark made seq (Some mark) next all = all mark

  -- the read of a meta, where what follows it asks so
  asked_then : (made : List Entry) (ulid : ℕ) (next : MetaFields → Moment → Plan Synced) (absent : Plan Synced) → ((now : List Entry) (meta : MetaFields) (read : Moment) → Asked now (next meta read))
      → ((now : List Entry) → Asked now absent) → Asked made (reads_meta ulid next absent)
  asked_then made ulid next absent all none =
      gets_ask (λ before o. P o) made fault (key.Meta ulid) (λ e bytes. if_meta e.seq (block_meta ulid bytes) (λ meta. next meta e.moment)) (λ e. absent) (metas ulid)
      (λ e bytes is found. asked_meta (made ++ e ∷ []) e.seq (block_meta ulid bytes) (λ meta. next meta e.moment) (λ meta. all (made ++ e ∷ []) meta e.moment))
      (λ e is missing. none (made ++ e ∷ []))

  asked_reads : (ulids : List ℕ) (made : List Entry) (sightings : List Sighting) → Asked made (reading sightings ulids)
  asked_reads [] made sightings = tt
  asked_reads (ulid ∷ ulids) made sightings =
      let Next : Option MarkFields → Moment → MetaFields → Moment → Plan Synced =
      λ mark mark_read meta meta_read. reading (sightings ++ sighting_at ulid mark mark_read meta_read meta ∷ []) ulids in
      let metas_ask : (now : List Entry) (mark : Option MarkFields) (mark_read : Moment) → Asked now (reads_meta ulid (Next mark mark_read) (reading sightings ulids)) =
      λ now mark mark_read. asked_then now ulid (Next mark mark_read) (reading sightings ulids)
      (λ later meta read. asked_reads ulids later (sightings ++ sighting_at ulid mark mark_read read meta ∷ [])) (λ later. asked_reads ulids later sightings) in
      gets_ask (λ before o. P o) made fault (key.Mark ulid)
      (λ e bytes. if_mark e.seq (block_mark ulid bytes) (λ mark. reads_meta ulid (Next (Some mark) e.moment) (reading sightings ulids)))
      (λ e. reads_meta ulid (Next None e.moment) (reading sightings ulids)) (marks ulid)
      (λ e bytes is found. asked_mark (made ++ e ∷ []) e.seq (block_mark ulid bytes) (λ mark. reads_meta ulid (Next (Some mark) e.moment) (reading sightings ulids))
      (λ mark. metas_ask (made ++ e ∷ []) (Some mark) e.moment))
      (λ e is absent. metas_ask (made ++ e ∷ []) None e.moment)

plain_run : (rules : SyncRules) (entries : List Entry) (end : Option SyncEnd) → SyncRun rules entries end → (last : Option Synced) × Runs (listing rules most_listed []) entries last
plain_run rules entries None run = (None, noted_run with_entry None (listing rules most_listed []) entries run)
plain_run rules entries (Some end) ((last, course), run, is) = (Some last, (noted_end with_entry None (listing rules most_listed []) entries last course run).0)

-- a sync asks for pages, marks and metas alone
pub only_asks : (P : Op → Type 0) (rules : SyncRules) → ((cursor : List ℕ) → P (op.RootPage cursor rules.page_limit)) → ((ulid : ℕ) → P (op.Get (key.Mark ulid))) → ((ulid : ℕ) → P (op.Get (key.Meta ulid)))
    → (entries : List Entry) (end : Option SyncEnd) → SyncRun rules entries end → AllByRecursion (λ e. P e.op) entries
only_asks P rules roots marks metas entries end run =
    let plain = plain_run rules entries end run in
    let asked : AsksFor (λ before o. P o) [] (listing rules most_listed []) =
    pages_ask walk_ends (λ cursor. op.RootPage cursor rules.page_limit) rules.page_limit (λ names. reading [] (ulids_in names)) (λ before o. P o) (λ made cursor. roots cursor)
    (λ made names. asked_reads P marks metas (ulids_in names) made []) most_listed [] [] in
    each_op P [] entries (asked_are (λ before o. P o) (listing rules most_listed []) [] entries plain.0 asked plain.1)
