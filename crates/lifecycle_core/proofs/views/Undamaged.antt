-- No sync and no cleaning of an honest journal finds bytes or names that are not of the form: marks and metas that were put are read
-- again, and the names of pages ascend.
use Rattle.std.proofs.Common.{◌≡◌, ℕ, ◌+◌, ◌<◌, ◌^◌, List, [], ◌∷◌, ◌++◌, Contains, Option, Some, None, rules, sym, ◌∙◌, ap, subst, append_assoc, arith}
use Rattle.std.specs.Prelude.{fold}
use Rattle.std.proofs.lemmas.Bool.{both_ways}
use Rattle.std.proofs.lemmas.List.Elements.{All-contains_itself, All-weaker, Contains-append_left, recursion_from_All}
use Rattle.base.specs.Order.{InOrderAfter, ComesAfter}
use Rattle.label_sets.specs.Labels.{compare_texts}
use Rattle.block_keys.specs.Keys.{IsLawfulKey, key_ulid}
use Rattle.block_keys.specs.declared.key.Key.{Key}
use Rattle.block_keys.specs.declared.key.Key.TheVariants as key
use Rattle.block_meta.specs.MetaFields.{MarkFields, MetaFields}
use Rattle.block_meta.specs.OfBlocks.{block_mark, block_meta}
use Rattle.compactor.specs.Marking.{details_of}
use Rattle.compactor.specs.NewMarks.{new_mark}
use Rattle.compactor.specs.declared.reason.Reason.{Reason}
use Rattle.compactor.specs.declared.reason.Reason.TheVariants as reason_is
use Rattle.moment_core.specs.declared.rules.Rules.{Rules}
use Rattle.world_core.specs.Limits.{most_listed}
use Rattle.world_core.specs.Plans.{Plan, after_delete, choose, ends}
use Rattle.world_core.specs.Standing.{IsHonest, Tells, stands}
use Rattle.world_core.specs.Walks.{last_listed, ulids_in}
use Rattle.world_core.specs.declared.entry.Entry.{Entry}
use Rattle.world_core.specs.declared.op.Op.{Op}
use Rattle.world_core.specs.declared.op.Op.TheVariants as op
use Rattle.world_core.specs.declared.reply.Reply.{Reply}
use Rattle.world_core.specs.declared.reply.Reply.TheVariants as reply
use Rattle.world_core.proofs.PlanLaws.{EndsAre, end_is}
use Rattle.world_core.proofs.PlanWords.{chosen, gets_are, pages_are}
use Rattle.world_core.proofs.PageNames.{ulids_small, AreSmall}
use Rattle.meta_fetcher.specs.Syncs.{Course, IsEnd, Synced, SyncRun, with_entry}
use Rattle.meta_fetcher.specs.Syncs as sync_told
use Rattle.meta_fetcher.specs.declared.rules.SyncRules.{SyncRules}
use Rattle.meta_fetcher.specs.declared.sync.SyncEnd.TheVariants as fetched
use Rattle.meta_fetcher.proofs.SyncLaws.{KeptByPages, KeptByReads, synced as walked}
use Rattle.cleaner.specs.Cleanings.{CleanRun, Counts, cleaning, deleting, deletion, if_mark, looking, none_deleted, one_block_more, one_partial_more, reads_meta, rules_of, walk_ends}
use Rattle.cleaner.specs.Marks.{is_old_block, is_old_mark}
use Rattle.cleaner.specs.Objects.{objects_of}
use Rattle.cleaner.specs.declared.clean.CleanEnd.{CleanEnd}
use Rattle.cleaner.specs.declared.clean.CleanEnd.TheVariants as clean
use Rattle.cleaner.specs.declared.clean_rules.CleanRules.{CleanRules}
use Rattle.script_core.specs.Lawful.{IsLawfulScript}
use Rattle.lifecycle_core.proofs.activities.MarkTexts.{own_mark}
use Rattle.lifecycle_core.proofs.activities.Listing.{ascends_after}
use Rattle.lifecycle_core.specs.PutBlocks.{WasPutBefore}
use Rattle.lifecycle_core.specs.Setting.{Setting}
use Rattle.lifecycle_core.proofs.blocks.Known.{put_is_complete}
use Rattle.lifecycle_core.proofs.deeds.Orders.{front_is_earlier, in_seat}
use Rattle.lifecycle_core.proofs.deeds.Sources.{mark_source}
use Rattle.lifecycle_core.proofs.deeds.Stood.{LandsPut, found_stands, stood}
use Rattle.lifecycle_core.proofs.deeds.Words.{AreDeeds}
use Rattle.lifecycle_core.proofs.journals.Positions.{stands_in}
use Rattle.lifecycle_core.proofs.journals.Rising.{journal_rises}
use Rattle.lifecycle_core.proofs.journals.Standing.{parted}
use Rattle.lifecycle_core.proofs.journals.Told.{Rises}
use Rattle.lifecycle_core.proofs.marks.Looks.{second_below, details_text}

-- an entry of the journal put these bytes under the key
record WasPutIn (journal : List Entry) (k : Key) (bytes : List ℕ) : Type 0 where
  front : List Entry
  put : Entry
  back : List Entry
  parts : journal ≡ front ++ put ∷ back
  puts : LandsPut k bytes put

-- what a sync comes to is not damaged
abbrev IsUndamaged : List Entry → Synced → Type 0
IsUndamaged made (sync_told.sighted sightings) = Unit {0}
IsUndamaged made (sync_told.fault number) = Unit {0}
IsUndamaged made (sync_told.damaged number) = ⊥
IsUndamaged made sync_told.too_many = Unit {0}

not_damaged : (rules : SyncRules) (made : List Entry) (last : Synced) (course : Option Course) (number : ℕ) → IsUndamaged made last → IsEnd rules (last, course) (fetched.Damaged number) → ⊥
not_damaged rules made (sync_told.sighted sightings) (Some course) number own (view, is, v) = cc (is)
not_damaged rules made (sync_told.sighted sightings) None number own is = is
not_damaged rules made (sync_told.fault other) course number own is = cc (is)
not_damaged rules made (sync_told.damaged other) course number own is = own
not_damaged rules made sync_told.too_many course number own is = cc (is)

-- and what a cleaning comes to
abbrev IsCleanEnd : List Entry → CleanEnd → Type 0
IsCleanEnd made (clean.Done blocks partials) = Unit {0}
IsCleanEnd made (clean.Fault number) = Unit {0}
IsCleanEnd made (clean.Damaged number) = ⊥
IsCleanEnd made clean.TooMany = Unit {0}

module _ (setting : Setting) (journal : List Entry) (lawful : IsLawfulScript setting.script) (deeds : AreDeeds setting journal) (honest : IsHonest journal) where
  -- ---- what is found was put

  put_of : (e : Entry) (k : Key) (bytes : List ℕ) → Contains journal e → key_ulid k < 2 ^ 128 → IsLawfulKey k → e.op ≡ op.Get k → e.reply ≡ reply.Found bytes → WasPutIn journal k bytes
  put_of e k bytes among small written asks found =
      let at = parted journal e among in
      let holds = found_stands setting journal at.0 at.1 e honest at.2 k bytes asks found in
      let last = stood setting journal lawful deeds at.0 (e ∷ at.1) at.2 k small written bytes holds in
      record {
        front = last.front;
        put = last.put;
        back = last.back ++ e ∷ at.1;
        parts = at.2 ∙ ap (λ es. es ++ e ∷ at.1) last.parts ∙ append_assoc last.front (last.put ∷ last.back) (e ∷ at.1);
        puts = last.puts;
      }

  pub put_before_read : (e : Entry) (k : Key) (bytes : List ℕ) → Contains journal e → key_ulid k < 2 ^ 128 → IsLawfulKey k → e.op ≡ op.Get k → e.reply ≡ reply.Found bytes → WasPutBefore journal k bytes e.seq
  put_before_read e k bytes among small written asks found =
      let at = parted journal e among in
      let holds = found_stands setting journal at.0 at.1 e honest at.2 k bytes asks found in
      let last = stood setting journal lawful deeds at.0 (e ∷ at.1) at.2 k small written bytes holds in
      let inside : Contains at.0 last.put = subst (λ es. Contains es last.put) (sym last.parts) (stands_in last.front last.back last.put) in
      let less = front_is_earlier at.0 at.1 e last.put (subst Rises at.2 (journal_rises setting.script.rules.tick.ms journal deeds.kept)) inside in
      (last.put, subst (λ es. Contains es last.put) (sym at.2) (Contains-append_left at.0 (e ∷ at.1) last.put inside), (last.puts).0, (last.puts).1, less.0)

  pub was_put_before : (e : Entry) (k : Key) (bytes : List ℕ) → Contains journal e → key_ulid k < 2 ^ 128 → IsLawfulKey k → e.op ≡ op.Get k → e.reply ≡ reply.Found bytes → (number : ℕ) × WasPutBefore journal k bytes number
  was_put_before e k bytes among small written asks found =
      let w = put_of e k bytes among small written asks found in
      let inside : Contains journal w.put = subst (λ es. Contains es w.put) (sym w.parts) (stands_in w.front w.back w.put) in
      ((w.put).seq + 1, (w.put, inside, (w.puts).0, (w.puts).1, omega arith))

  -- a mark that is found is read
  pub mark_reads : (e : Entry) (ulid : ℕ) (bytes : List ℕ) → Contains journal e → ulid < 2 ^ 128 → e.op ≡ op.Get (key.Mark ulid) → e.reply ≡ reply.Found bytes → (mark : MarkFields) × (block_mark ulid bytes ≡ Some mark)
  mark_reads e ulid bytes among small asks found =
      let w = put_of e (key.Mark ulid) bytes among small tt asks found in
      let m = (mark_source setting journal deeds w.front w.back w.put w.parts ulid bytes (w.puts).0).1 in
      let early = (in_seat (w.put).seat w.front m.look (subst (λ es. Contains es m.look) (sym m.parts) (stands_in m.front [] m.look))).0 in
      let inside : Contains journal m.look = subst (λ es. Contains es m.look) (sym w.parts) (Contains-append_left w.front (w.put ∷ w.back) m.look early) in
      let at = parted journal m.look inside in
      let second = second_below (m.look).moment.ms (deeds.kept.small at.0 at.1 m.look at.2) in
      (new_mark ulid (m.look).moment (details_of m.why), ap (block_mark ulid) m.text ∙ own_mark (new_mark ulid (m.look).moment (details_of m.why)) small second (details_text m.why))

  -- and so a meta
  pub meta_reads : (e : Entry) (ulid : ℕ) (bytes : List ℕ) → Contains journal e → ulid < 2 ^ 128 → e.op ≡ op.Get (key.Meta ulid) → e.reply ≡ reply.Found bytes → (meta : MetaFields) × (block_meta ulid bytes ≡ Some meta)
  meta_reads e ulid bytes among small asks found =
      let was = was_put_before e (key.Meta ulid) bytes among small tt asks found in
      let complete = put_is_complete setting journal lawful deeds honest ulid was.0 bytes was.1 in
      (complete.1, complete.4)

  -- ---- pages

  shown : (page : Entry) (o : Op) (r : Reply) → Contains journal page → page.op ≡ o → page.reply ≡ r → (before : List Entry) × Tells (stands before) o r
  shown page o r among asked told =
      let at = parted journal page among in
      (at.0, subst (λ x. Tells (stands at.0) x r) asked (subst (λ x. Tells (stands at.0) page.op x) told (honest at.0 at.1 page at.2)))

  root_ascends : (page : Entry) (cursor : List ℕ) (limit : ℕ) (names : List (List ℕ)) → Contains journal page → page.op ≡ op.RootPage cursor limit → page.reply ≡ reply.Names names → InOrderAfter (ComesAfter compare_texts) (Some cursor) names
  root_ascends page cursor limit names among asked told = let one = shown page (op.RootPage cursor limit) (reply.Names names) among asked told in (one.1).ascend

  block_ascends : (page : Entry) (ulid : ℕ) (cursor : List ℕ) (limit : ℕ) (names : List (List ℕ)) → Contains journal page → page.op ≡ op.BlockPage ulid cursor limit → page.reply ≡ reply.Names names → InOrderAfter (ComesAfter compare_texts) (Some cursor) names
  block_ascends page ulid cursor limit names among asked told = let one = shown page (op.BlockPage ulid cursor limit) (reply.Names names) among asked told in (one.1).ascend

  -- ---- syncs

  undamaged_reads : KeptByReads (Contains journal) IsUndamaged (λ made sightings ulids. AreSmall ulids)
  undamaged_reads = record {
    over = λ made sightings small. tt;
    mark_failed = λ made sightings ulid ulids e landed came. tt;
    no_mark = λ made sightings ulid ulids e bytes came none. let m = mark_reads e ulid bytes came.given came.before.0 came.asks came.shows in cc (none, m.1);
    marked = λ made sightings ulid ulids e bytes mark came read. came.before;
    unmarked = λ made sightings ulid ulids e came. came.before;
    meta_failed = λ made sightings ulid ulids e landed came. tt;
    unread = λ made sightings ulid ulids e bytes came none. let m = meta_reads e ulid bytes came.given came.before.0 came.asks came.shows in cc (none, m.1);
    seen = λ made sightings ulid ulids e bytes mark mark_read meta looked came read. came.before.1;
    missed = λ made sightings ulid ulids e came. came.before.1;
  }

  undamaged_pages : (limit : ℕ) → KeptByPages (Contains journal) IsUndamaged limit (λ made listed. Unit {0}) (λ made listed. Unit {0})
  undamaged_pages limit = record {
    failed = λ made listed page landed came. tt;
    unordered = λ made listed names page came down. both_ways _ down (ascends_after (last_listed listed) names (root_ascends page _ limit names came.given came.asks came.shows));
    short = λ made listed names page came up few. tt;
    full = λ made listed names page came up many. tt;
    many = λ made names i many. tt;
  }

  -- no sync of the journal finds damage, by whichever rules
  pub syncs_undamaged : (rules : SyncRules) (entries : List Entry) (number : ℕ) → ((e : Entry) → Contains entries e → Contains journal e) → ¬ SyncRun rules entries (Some (fetched.Damaged number))
  syncs_undamaged rules entries number inside run =
      let all = recursion_from_All (Contains journal) entries (All-weaker (Contains entries) (Contains journal) inside entries (All-contains_itself entries)) in
      let s = walked (Contains journal) IsUndamaged rules (λ made listed. Unit {0}) (λ made listed. Unit {0}) (λ made sightings ulids. AreSmall ulids)
      (undamaged_pages rules.page_limit) undamaged_reads tt (λ made names l. ulids_small names) entries (fetched.Damaged number) all run in
      not_damaged rules entries s.0 (fold with_entry None entries) number s.1 s.2

  -- ---- cleanings

  abbrev Cleans : List Entry → Plan CleanEnd → Type 0
  Cleans made plan = EndsAre (Contains journal) IsCleanEnd made plan

  delete_by : (made : List Entry) (e : Entry) (next : Plan CleanEnd) (r : Reply) → Cleans (made ++ e ∷ []) next → Cleans (made ++ e ∷ []) (after_delete r next (ends (clean.Fault e.seq)))
  delete_by made e next reply.Deleted on = on
  delete_by made e next (reply.Failed landed) on = tt
  delete_by made e next reply.Clocked on = tt
  delete_by made e next reply.Stored on = tt
  delete_by made e next (reply.Found bytes) on = tt
  delete_by made e next reply.Absent on = tt
  delete_by made e next (reply.Names names) on = tt

  deleting_end : (keys : List Key) (next : Plan CleanEnd) (made : List Entry) → ((made : List Entry) → Cleans made next) → Cleans made (deleting keys next)
  deleting_end [] next made on = on made
  deleting_end (k ∷ keys) next made on = λ e is given. delete_by made e (deleting keys next) e.reply (deleting_end keys next (made ++ e ∷ []) on)

  deletion_end : (rules : CleanRules) (ulid : ℕ) (next : Plan CleanEnd) (made : List Entry) → ((made : List Entry) → Cleans made next) → Cleans made (deletion rules ulid next)
  deletion_end rules ulid next made on =
      pages_are walk_ends (λ cursor. op.BlockPage ulid cursor rules.page_limit) rules.page_limit (λ names. deleting (objects_of ulid names) next) (Contains journal) IsCleanEnd (λ made listed. Unit {0})
      (λ made listed names e own is given replied up. tt)
      (λ made listed names e own is given replied up short. deleting_end (objects_of ulid (listed ++ names)) next (made ++ e ∷ []) on)
      (λ made e given failed. tt)
      (λ made listed names e own is given replied down. both_ways _ down (ascends_after (last_listed listed) names (block_ascends e ulid _ rules.page_limit names given is replied)))
      (λ made. tt)
      most_listed made [] tt

  mark_end : (seq : ℕ) (o : Option MarkFields) (mark : MarkFields) (next : MarkFields → Plan CleanEnd) (made : List Entry) → o ≡ Some mark → ((mark : MarkFields) → Cleans made (next mark)) → Cleans made (if_mark seq o next)
  mark_end seq None mark next made is on = absurd (cc (is))
  mark_end seq (Some other) mark next made is on = on other

  meta_end : (rules : CleanRules) (ulid : ℕ) (kept deleted : Plan CleanEnd) (made : List Entry) → ((made : List Entry) → Cleans made kept) → ((made : List Entry) → Cleans made deleted) → Cleans made (reads_meta rules ulid kept deleted)
  meta_end rules ulid kept deleted made keep delete =
      gets_are (Contains journal) IsCleanEnd made clean.Fault (key.Meta ulid) (λ e bytes. kept) (λ e. choose (is_old_block ulid e.moment rules.partial) deleted kept)
      (λ e bytes is given found. keep (made ++ e ∷ []))
      (λ e is given absent. chosen (Cleans (made ++ e ∷ [])) (is_old_block ulid e.moment rules.partial) deleted kept (λ old. delete (made ++ e ∷ [])) (λ young. keep (made ++ e ∷ [])))
      (λ e is given failed. tt)

  looking_end : (rules : CleanRules) (counts : Counts) (ulids : List ℕ) (made : List Entry) → AreSmall ulids → Cleans made (looking rules counts ulids)
  looking_end rules counts [] made small = tt
  looking_end rules counts (ulid ∷ ulids) made small =
      gets_are (Contains journal) IsCleanEnd made clean.Fault (key.Mark ulid)
      (λ e bytes. if_mark e.seq (block_mark ulid bytes) (λ mark.
      choose (is_old_mark mark e.moment rules.delete) (deletion rules ulid (looking rules (one_block_more counts) ulids)) (looking rules counts ulids)))
      (λ e. reads_meta rules ulid (looking rules counts ulids) (deletion rules ulid (looking rules (one_partial_more counts) ulids)))
      (λ e bytes is given found. let read = mark_reads e ulid bytes given small.0 is found in
      mark_end e.seq (block_mark ulid bytes) read.0
      (λ mark. choose (is_old_mark mark e.moment rules.delete) (deletion rules ulid (looking rules (one_block_more counts) ulids)) (looking rules counts ulids)) (made ++ e ∷ []) read.1
      (λ mark. chosen (Cleans (made ++ e ∷ [])) (is_old_mark mark e.moment rules.delete) (deletion rules ulid (looking rules (one_block_more counts) ulids)) (looking rules counts ulids)
      (λ old. deletion_end rules ulid (looking rules (one_block_more counts) ulids) (made ++ e ∷ []) (λ made. looking_end rules (one_block_more counts) ulids made small.1))
      (λ young. looking_end rules counts ulids (made ++ e ∷ []) small.1)))
      (λ e is given absent. meta_end rules ulid (looking rules counts ulids) (deletion rules ulid (looking rules (one_partial_more counts) ulids)) (made ++ e ∷ [])
      (λ made. looking_end rules counts ulids made small.1)
      (λ made. deletion_end rules ulid (looking rules (one_partial_more counts) ulids) made (λ made. looking_end rules (one_partial_more counts) ulids made small.1)))
      (λ e is given failed. tt)

  cleaning_end : (rules : Rules) → Cleans [] (cleaning rules)
  cleaning_end rules =
      pages_are walk_ends (λ cursor. op.RootPage cursor rules.page_limit) rules.page_limit (λ names. looking (rules_of rules) none_deleted (ulids_in names)) (Contains journal) IsCleanEnd (λ made listed. Unit {0})
      (λ made listed names e own is given replied up. tt)
      (λ made listed names e own is given replied up short. looking_end (rules_of rules) none_deleted (ulids_in (listed ++ names)) (made ++ e ∷ []) (ulids_small (listed ++ names)))
      (λ made e given failed. tt)
      (λ made listed names e own is given replied down. both_ways _ down (ascends_after (last_listed listed) names (root_ascends e _ rules.page_limit names given is replied)))
      (λ made. tt)
      most_listed [] [] tt

  -- no cleaning of the journal finds damage
  pub cleanings_undamaged : (rules : Rules) (entries : List Entry) (number : ℕ) → ((e : Entry) → Contains entries e → Contains journal e) → ¬ CleanRun rules entries (Some (clean.Damaged number))
  cleanings_undamaged rules entries number inside run =
      let all = recursion_from_All (Contains journal) entries (All-weaker (Contains entries) (Contains journal) inside entries (All-contains_itself entries)) in
      end_is (Contains journal) IsCleanEnd (cleaning rules) [] entries (clean.Damaged number) (cleaning_end rules) all run
