-- A sync asks for the first page once, where no page lists an empty name.
use Rattle.std.proofs.Common.{◌≡◌, ◌≢◌, ℕ, zero, suc, ◌≤◌, false, List, [], ◌∷◌, ◌++◌, length, Option, Some, None, refl, sym, ◌∙◌, ap, subst, arith}
use Rattle.std.specs.Prelude.{nat_le, nat_lt, unwrap_or}
use Rattle.std.specs.List.{AllByRecursion, last_or}
use Rattle.std.proofs.lemmas.Bool.{ltb-false}
use Rattle.base.specs.Order.{are_in_order_after, comes_after}
use Rattle.label_sets.specs.Labels.{compare_texts}
use Rattle.block_keys.specs.declared.key.Key.{Key}
use Rattle.block_keys.specs.declared.key.Key.TheVariants as key
use Rattle.block_meta.specs.MetaFields.{MetaFields, MarkFields}
use Rattle.block_meta.specs.OfBlocks.{block_meta, block_mark}
use Rattle.moment_core.specs.declared.moment.Moment.{Moment}
use Rattle.world_core.specs.Limits.{most_listed}
use Rattle.world_core.specs.Plans.{Plan, Runs}
use Rattle.world_core.specs.Walks.{after_page, last_listed, ulids_in}
use Rattle.world_core.specs.declared.entry.Entry.{Entry}
use Rattle.world_core.specs.declared.op.Op.{Op}
use Rattle.world_core.specs.declared.op.Op.TheVariants as op
use Rattle.world_core.specs.declared.reply.Reply.{Reply}
use Rattle.world_core.specs.declared.reply.Reply.TheVariants as reply
use Rattle.world_core.proofs.PlanLaws.{AsksFor, EachAfter, asked_are}
use Rattle.world_core.proofs.PlanParts.{noted_end, noted_run}
use Rattle.world_core.proofs.PlanWords.{chosen, gets_ask}
use Rattle.meta_fetcher.specs.Sightings.{Sighting}
use Rattle.meta_fetcher.specs.Syncs.{SyncRun, Synced, fault, if_mark, if_meta, listing, reading, reads_meta, walk_ends, with_entry}
use Rattle.meta_fetcher.specs.declared.rules.SyncRules.{SyncRules}
use Rattle.meta_fetcher.specs.declared.sync.SyncEnd.{SyncEnd}

-- no name that the reply lists is empty
abbrev pub ListsNames : Reply → Type 0
ListsNames r = (names : List (List ℕ)) → r ≡ reply.Names names → AllByRecursion (λ name. name ≢ []) names

abbrev pub AllList : List Entry → Type 0
AllList entries = AllByRecursion (λ e. ListsNames e.reply) entries

-- the operation is not that of a first page
abbrev pub NotFirst : Op → Type 0
NotFirst o = (limit : ℕ) → o ≢ op.RootPage [] limit

abbrev pub Is : List Entry → Op → Type 0
Is made o = AllList made → NotFirst o

-- ---- the reads

get_is : (k : Key) (made : List Entry) → Is made (op.Get k)
get_is k made = λ all limit same. cc (same)

asked_meta : (made : List Entry) (seq : ℕ) (o : Option MetaFields) (next : MetaFields → Plan Synced) → ((meta : MetaFields) → AsksFor Is made (next meta)) → AsksFor Is made (if_meta seq o next)
asked_meta made seq None next all = tt
asked_meta made seq (Some meta) next all = all meta

asked_mark : (made : List Entry) (seq : ℕ) (o : Option MarkFields) (next : MarkFields → Plan Synced) → ((mark : MarkFields) → AsksFor Is made (next mark)) → AsksFor Is made (if_mark seq o next)
asked_mark made seq None next all = tt
asked_mark made seq (Some mark) next all = all mark

asked_then : (made : List Entry) (ulid : ℕ) (next : MetaFields → Moment → Plan Synced) (absent : Plan Synced) → ((now : List Entry) (meta : MetaFields) (read : Moment) → AsksFor Is now (next meta read))
    → ((now : List Entry) → AsksFor Is now absent) → AsksFor Is made (reads_meta ulid next absent)
asked_then made ulid next absent all none =
    gets_ask Is made fault (key.Meta ulid) (λ e bytes. if_meta e.seq (block_meta ulid bytes) (λ meta. next meta e.moment)) (λ e. absent) (get_is (key.Meta ulid) made)
    (λ e bytes is found. asked_meta (made ++ e ∷ []) e.seq (block_meta ulid bytes) (λ meta. next meta e.moment) (λ meta. all (made ++ e ∷ []) meta e.moment))
    (λ e is missing. none (made ++ e ∷ []))

asked_reads : (ulids : List ℕ) (made : List Entry) (sightings : List Sighting) → AsksFor Is made (reading sightings ulids)
asked_reads [] made sightings = tt
asked_reads (ulid ∷ ulids) made sightings =
    let Next : Option MarkFields → Moment → MetaFields → Moment → Plan Synced =
    λ mark mark_read meta meta_read. reading (sightings ++ record { ulid = ulid; mark = mark; mark_read = mark_read; meta = meta; meta_read = meta_read } ∷ []) ulids in
    let metas_ask : (now : List Entry) (mark : Option MarkFields) (mark_read : Moment) → AsksFor Is now (reads_meta ulid (Next mark mark_read) (reading sightings ulids)) =
    λ now mark mark_read. asked_then now ulid (Next mark mark_read) (reading sightings ulids)
    (λ later meta read. asked_reads ulids later (sightings ++ record { ulid = ulid; mark = mark; mark_read = mark_read; meta = meta; meta_read = read } ∷ [])) (λ later. asked_reads ulids later sightings) in
    gets_ask Is made fault (key.Mark ulid)
    (λ e bytes. if_mark e.seq (block_mark ulid bytes) (λ mark. reads_meta ulid (Next (Some mark) e.moment) (reading sightings ulids)))
    (λ e. reads_meta ulid (Next None e.moment) (reading sightings ulids)) (get_is (key.Mark ulid) made)
    (λ e bytes is found. asked_mark (made ++ e ∷ []) e.seq (block_mark ulid bytes) (λ mark. reads_meta ulid (Next (Some mark) e.moment) (reading sightings ulids))
    (λ mark. metas_ask (made ++ e ∷ []) (Some mark) e.moment))
    (λ e is absent. metas_ask (made ++ e ∷ []) None e.moment)

-- ---- the pages

-- a last name, which is not empty
abbrev HasName : Option (List ℕ) → Type 0
HasName o = (name : List ℕ) × (o ≡ Some name) × (name ≢ [])

has_more : (names : List (List ℕ)) (o : Option (List ℕ)) → HasName o → AllByRecursion (λ name. name ≢ []) names → HasName (last_or o names)
has_more [] o has all = has
has_more (name ∷ names) o has all = has_more names (Some name) (name, refl, all.0) all.1

last_joined : (one other : List (List ℕ)) (o : Option (List ℕ)) → last_or o (one ++ other) ≡ last_or (last_or o one) other
last_joined [] other o = refl
last_joined (name ∷ one) other o = last_joined one other (Some name)

has_some : (names : List (List ℕ)) → 1 ≤ length names → AllByRecursion (λ name. name ≢ []) names → HasName (last_listed names)
has_some [] some all = absurd (omega (arith, some))
has_some (name ∷ names) some all = has_more names (Some name) (name, refl, all.0) all.1

all_front : (made : List Entry) (e : Entry) → AllList (made ++ e ∷ []) → AllList made × ListsNames e.reply
all_front [] e all = (tt, all.0)
all_front (x ∷ made) e all = let others = all_front made e all.1 in ((all.0, others.0), others.1)

cursor_is : (o : Option (List ℕ)) (limit other : ℕ) → HasName o → op.RootPage (unwrap_or o []) limit ≢ op.RootPage [] other
cursor_is o limit other (name, is, some) same =
    let begins : unwrap_or o [] ≡ [] = cc (same) in
    some (sym (ap (λ (p : Option (List ℕ)). unwrap_or p []) is) ∙ begins)

module _ (rules : SyncRules) where
  plain_run : (entries : List Entry) (end : Option SyncEnd) → SyncRun rules entries end → (last : Option Synced) × Runs (listing rules most_listed []) entries last
  plain_run entries None run = (None, noted_run with_entry None (listing rules most_listed []) entries run)
  plain_run entries (Some end) ((last, course), run, is) = (Some last, (noted_end with_entry None (listing rules most_listed []) entries last course run).0)

  -- a sync begins with the first page
  pub sync_begins : (first : Entry) (others : List Entry) (end : Option SyncEnd) → SyncRun rules (first ∷ others) end → first.op ≡ op.RootPage [] rules.page_limit
  sync_begins first others end run = (begun 999_999 (plain_run (first ∷ others) end run).0 (plain_run (first ∷ others) end run).1)
    where
      begun : (more : ℕ) (last : Option Synced) → Runs (listing rules (suc more) []) (first ∷ others) last → first.op ≡ op.RootPage [] rules.page_limit
      begun more last run = run.0

module _ (rules : SyncRules) (low : 1 ≤ rules.page_limit) where
  after : (more : ℕ) (made : List Entry) (listed : List (List ℕ)) (e : Entry) (r : Reply) → e.reply ≡ r → ((names : List (List ℕ)) → r ≡ reply.Names names → nat_lt (length names) rules.page_limit ≡ false → AllList (made ++ e ∷ []) → HasName (last_listed (listed ++ names)))
      → ((names : List (List ℕ)) → (AllList (made ++ e ∷ []) → HasName (last_listed names)) → AsksFor Is (made ++ e ∷ []) (listing rules more names))
      → AsksFor Is (made ++ e ∷ []) (after_page walk_ends rules.page_limit listed e.seq r (λ names. reading [] (ulids_in names)) (listing rules more))
  after more made listed e (reply.Names names) shows has on =
      let now : List Entry = made ++ e ∷ [] in
      chosen (AsksFor Is now) (are_in_order_after (comes_after compare_texts) (last_listed listed) names) _ _
      (λ up. chosen (AsksFor Is now) (nat_lt (length names) rules.page_limit) _ _ (λ short. asked_reads (ulids_in (listed ++ names)) now [])
      (λ full. chosen (AsksFor Is now) (nat_le most_listed (length (listed ++ names))) _ _ (λ many. tt) (λ few. on (listed ++ names) (has names refl full))))
      (λ down. tt)
  after more made listed e (reply.Failed landed) shows has on = tt
  after more made listed e reply.Clocked shows has on = tt
  after more made listed e reply.Stored shows has on = tt
  after more made listed e (reply.Found bytes) shows has on = tt
  after more made listed e reply.Absent shows has on = tt
  after more made listed e reply.Deleted shows has on = tt

  later : (more : ℕ) (made : List Entry) (listed : List (List ℕ)) → (AllList made → HasName (last_listed listed)) → AsksFor Is made (listing rules more listed)
  later zero made listed has = tt
  later (suc more) made listed has = (
    λ all limit. cursor_is (last_listed listed) rules.page_limit limit (has all),
    λ e is. after more made listed e e.reply refl
        (λ names shows full all. let parts = all_front made e all in subst HasName (sym (last_joined listed names None)) (has_more names (last_listed listed) (has parts.0) (parts.1 names shows)))
        (λ names known. later more (made ++ e ∷ []) names known),
  )

  -- what follows the first page
  behind_first : (more : ℕ) (e : Entry) → AsksFor Is (e ∷ []) (after_page walk_ends rules.page_limit [] e.seq e.reply (λ names. reading [] (ulids_in names)) (listing rules more))
  behind_first more e = after more [] [] e e.reply refl
      (λ names shows full all. has_some names (fits (length names) rules.page_limit full low) (all.0 names shows))
      (λ names known. later more (e ∷ []) names known)
    where
      fits : (n limit : ℕ) → nat_lt n limit ≡ false → 1 ≤ limit → 1 ≤ n
      fits n limit full some = omega (arith, ltb-false n limit full, some)

  -- no later entry asks for a first page, where the pages before it list no empty name
  pub one_opening : (first : Entry) (others : List Entry) (end : Option SyncEnd) → SyncRun rules (first ∷ others) end → EachAfter Is (first ∷ []) others
  one_opening first others end run = (after_first 999_999 (plain_run rules (first ∷ others) end run).0 (plain_run rules (first ∷ others) end run).1)
    where
      after_first : (more : ℕ) (last : Option Synced) → Runs (listing rules (suc more) []) (first ∷ others) last → EachAfter Is (first ∷ []) others
      after_first more last run = asked_are Is (after_page walk_ends rules.page_limit [] first.seq first.reply (λ names. reading [] (ulids_in names)) (listing rules more)) (first ∷ []) others last (behind_first more first) run.1
