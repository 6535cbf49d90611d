-- Why a read of a kept block finds nothing where the bucket is honest: by the rules of time it is never so.
use Rattle.base.proofs.Membership.{contains_later, member_cases, member_passes, of_filter}
use Rattle.std.proofs.Common.{◌≡◌, ◌≢◌, ◌⊎◌, inl, inr, ℕ, zero, suc, ◌+◌, ◌*◌, ◌<◌, ◌≤◌, ◌/◌, ◌^◌, ◌==◌, Bool, true, false, not, List, [], ◌∷◌, ◌++◌, Contains, Option, Some, None, refl, sym, ◌∙◌, ap, subst, append_assoc, arith}
use Rattle.std.specs.Prelude.{nat_le, option_map}
use Rattle.std.proofs.lemmas.Bool.{leb-true}
use Rattle.std.proofs.lemmas.Bool.Decides.{nat_tests}
use Rattle.std.proofs.lemmas.List.Elements.{All-contains, Contains-append_left, Contains-append_right}
use Rattle.block_keys.specs.Keys.{IsLawfulKey, key_ulid}
use Rattle.block_keys.specs.KeyText.{key_text}
use Rattle.block_keys.specs.declared.key.Key.{Key}
use Rattle.block_keys.specs.declared.key.Key.TheVariants as key
use Rattle.block_meta.specs.MetaFields.{MarkFields, MetaFields, mark_fields_of}
use Rattle.block_meta.specs.MetaText.{IsMarkText}
use Rattle.moment_core.specs.declared.moment.Moment.{Moment}
use Rattle.block_meta.specs.declared.deletion_mark.DeletionMark.{DeletionMark}
use Rattle.world_core.specs.Operations.{IsLawful}
use Rattle.world_core.specs.Standing.{IsHonest, Tells, stands}
use Rattle.world_core.specs.declared.op.Op.{Op}
use Rattle.world_core.specs.declared.op.Op.TheVariants as op
use Rattle.world_core.specs.declared.reply.Reply.{Reply}
use Rattle.world_core.specs.declared.reply.Reply.TheVariants as reply
use Rattle.world_core.specs.declared.entry.Entry.{Entry}
use Rattle.script_core.specs.Lawful.{IsLawfulScript}
use Rattle.sync_filters.specs.Filters.{is_covered, is_recent, is_unmarked}
use Rattle.sync_filters.specs.declared.found.Found.{Found}
use Rattle.meta_fetcher.specs.Sightings.{kept_by, passed_by}
use Rattle.meta_fetcher.specs.declared.rules.SyncRules.{SyncRules}
use Rattle.meta_fetcher.specs.declared.view.View.{View}
use Rattle.compactor.specs.Compactions.{CompactRun, sync_rules as compaction_sync}
use Rattle.shipper.specs.Uploads.{upload}
use Rattle.world_core.specs.Plans.{Runs}
use Rattle.lifecycle_core.specs.Acting.{IsReading}
use Rattle.lifecycle_core.specs.Breaches.{read_key}
use Rattle.lifecycle_core.specs.Completed.{IsCompletedAt}
use Rattle.world_core.specs.Journals.{of_seat}
use Rattle.lifecycle_core.specs.Marked.{IsFirstMark}
use Rattle.lifecycle_core.specs.PutBlocks.{WasPutBefore}
use Rattle.lifecycle_core.specs.Setting.{Setting}
use Rattle.lifecycle_core.specs.Tasks.{sync_rules}
use Rattle.lifecycle_core.specs.TimeRules.{IsBlockObject, IsMarkedInTime, IsReadInTime, IsUploadedInTime, PutsMark}
use Rattle.lifecycle_core.specs.CompactionOps.{IsCompactOp, IsInputRead}
use Rattle.lifecycle_core.specs.Sights.{IsSeen, IsSight, TellsMark}
use Rattle.lifecycle_core.proofs.activities.SyncSights.{sync_sight}
use Rattle.lifecycle_core.proofs.activities.CompactionAsks.{compaction_op}
use Rattle.lifecycle_core.proofs.activities.MarkTexts.{one_mark}
use Rattle.lifecycle_core.proofs.blocks.Contents.{IsPutWhole, complete_put}
use Rattle.lifecycle_core.proofs.blocks.Known.{put_is_complete}
use Rattle.lifecycle_core.proofs.deeds.Fronts.{at_seat}
use Rattle.lifecycle_core.proofs.deeds.Orders.{IsEarlier, front_is_earlier, in_seat, lower_is_in_front, one_place, ordered, to_seat}
use Rattle.lifecycle_core.proofs.deeds.Sources.{mark_source, put_is_small, upload_op}
use Rattle.lifecycle_core.proofs.deeds.Stood.{WasDeleted, absent_stands, deleted_since, found_stands, stood}
use Rattle.lifecycle_core.proofs.deeds.Words.{AreDeeds, Cleans, Compacts, Deed, IsClock, cleans, clocks, compacts, reads as reads_deed, ships}
use Rattle.lifecycle_core.proofs.journals.Positions.{stands_in}
use Rattle.lifecycle_core.proofs.journals.Rising.{journal_rises}
use Rattle.lifecycle_core.proofs.journals.Standing.{parted}
use Rattle.lifecycle_core.proofs.journals.Told.{IsPart, Rises}
use Rattle.lifecycle_core.proofs.marks.Deletions.{WasMarkedFirst, deletions_are_late, first_mark_stands, nothing_deleted}
use Rattle.lifecycle_core.proofs.marks.Looks.{mark_is_read}
use Rattle.lifecycle_core.proofs.marks.Reasons.{kept_is_seen}
use Rattle.lifecycle_core.proofs.phases.TasksMade.{part_filter, part_middle, part_whole}

-- what a view keeps had no mark when its sync looked, or a young one
kept_is_young : (rules : SyncRules) (found : List Found) (f : Found) → Contains (kept_by rules found) f → is_unmarked f rules.mark_delay ≡ true
kept_is_young rules found f among = member_passes (λ (b : Found). is_unmarked b rules.mark_delay) _ f (of_filter (λ (b : Found). not (is_covered (passed_by rules found) b)) (passed_by rules found) f among)

-- who deletes is a cleaning
pub delete_cleans : (setting : Setting) (journal : List Entry) (deeds : AreDeeds setting journal) (before after : List Entry) (w : Entry) → journal ≡ before ++ w ∷ after → (k : Key) → w.op ≡ op.Delete k → Cleans (deeds.deed w.seat)
delete_cleans setting journal deeds before after w parts k deletes = by (of_seat w.seat journal) (at_seat journal before after w parts) (deeds.deed w.seat)
  where
    by : (whole : List Entry) → whole ≡ of_seat w.seat before ++ w ∷ of_seat w.seat after → (deed : Deed setting whole) → Cleans deed
    by whole is (ships u block objects end known shipped_is run) =
        absurd ((upload_op objects u (of_seat w.seat before) w (of_seat w.seat after) end (subst (λ es. Runs (upload u objects) es end) is run)).1 k deletes)
    by whole is (compacts end run) =
        absurd (subst (IsCompactOp setting.script.rules (of_seat w.seat before)) deletes (compaction_op setting.script.rules (of_seat w.seat before) w (of_seat w.seat after) end (subst (λ es. CompactRun setting.script.rules es end) is run)))
    by whole is (cleans end run) = tt
    by whole is (reads_deed all) = absurd (subst IsReading deletes (All-contains (λ (x : Entry). IsReading x.op) whole w all (subst (λ es. Contains es w) (sym is) (stands_in (of_seat w.seat before) (of_seat w.seat after) w))))
    by whole is (clocks all) = absurd (subst IsClock deletes (All-contains (λ (x : Entry). IsClock x.op) whole w all (subst (λ es. Contains es w) (sym is) (stands_in (of_seat w.seat before) (of_seat w.seat after) w))))

module _ (setting : Setting) (journal : List Entry) (lawful : IsLawfulScript setting.script) (deeds : AreDeeds setting journal) (honest : IsHonest journal) (before after : List Entry) (e : Entry) (parts : journal ≡ before ++ e ∷ after)
    (k : Key) (object : IsBlockObject k) (bytes : List ℕ) (number : ℕ) (reads : read_key e.op ≡ Some k) where
  abbrev ulid : ℕ
  ulid = key_ulid k

  rises : Rises journal
  rises = journal_rises setting.script.rules.tick.ms journal deeds.kept

  e_in : Contains journal e
  e_in = subst (λ (es : List Entry). Contains es e) (sym parts) (stands_in before after e)

  in_front : (x : Entry) → Contains journal x → x.seq < e.seq → Contains before x
  in_front x among less = lower_is_in_front before after e x (subst Rises parts rises) (subst (λ (es : List Entry). Contains es x) parts among) less

  is_earlier : (x : Entry) → Contains before x → IsEarlier x e
  is_earlier x among = front_is_earlier before after e x (subst Rises parts rises) among

  lawful_put : (p : Entry) (text : List ℕ) → Contains journal p → p.op ≡ op.Put k text → IsLawfulKey k
  lawful_put p text among puts = let at = parted journal p among in subst IsLawful puts (deeds.kept.lawful at.0 at.1 p at.2)

  -- nothing stands there
  lost : e.reply ≡ reply.Absent → stands before (key_text k) ≡ None
  lost absent = by e.op refl
    where
      tells : Tells (stands before) e.op reply.Absent
      tells = subst (λ (r : Reply). Tells (stands before) e.op r) absent (honest before after e parts)

      told : (o : Op) → e.op ≡ o → read_key o ≡ Some k
      told o is = ap read_key (sym is) ∙ reads

      by : (o : Op) → e.op ≡ o → stands before (key_text k) ≡ None
      by (op.Get own) is = let same : own ≡ k = cc (told (op.Get own) is) in subst (λ (x : Key). stands before (key_text x) ≡ None) same (subst (λ (o : Op). Tells (stands before) o reply.Absent) is tells)
      by (op.GetRange own from len) is =
          let same : own ≡ k = cc (told (op.GetRange own from len) is) in subst (λ (x : Key). stands before (key_text x) ≡ None) same (subst (λ (o : Op). Tells (stands before) o reply.Absent) is tells)
      by (op.Clock moment) is = absurd (cc (told (op.Clock moment) is))
      by (op.Put own text) is = absurd (cc (told (op.Put own text) is))
      by (op.Delete own) is = absurd (cc (told (op.Delete own) is))
      by (op.RootPage from limit) is = absurd (cc (told (op.RootPage from limit) is))
      by (op.BlockPage own from limit) is = absurd (cc (told (op.BlockPage own from limit) is))

  -- whatever the rules of time, where nothing is deleted
  pub undeleted_is_found : ((seat : ℕ) → ¬ Cleans (deeds.deed seat)) → WasPutBefore journal k bytes e.seq → e.reply ≢ reply.Absent
  undeleted_is_found undeleted (p, among, puts, landed, less) absent =
      let at = parted journal p among in
      let small = put_is_small setting journal deeds at.0 at.1 p at.2 lawful k bytes puts in
      let w = deleted_since setting journal lawful deeds before (e ∷ after) parts k small (lawful_put p bytes among puts) p bytes (in_front p among less) (puts, landed) (lost absent) in
      let place : journal ≡ w.before ++ w.delete ∷ (w.after ++ e ∷ after) = parts ∙ ap (λ (es : List Entry). es ++ e ∷ after) w.parts ∙ append_assoc w.before (w.delete ∷ w.after) (e ∷ after) in
      undeleted w.delete.seat (delete_cleans setting journal deeds w.before (w.after ++ e ∷ after) w.delete place k w.deletes.0)

  -- ---- what a sync had seen

  module _ (timely : IsUploadedInTime setting.script.rules (key_ulid k) journal) (rules : SyncRules) (sync : List Entry) (view : View) (sight : IsSight rules sync view) (own : IsPart journal sync) (found : Found) (kept : Contains view.kept found) (name : found.ulid ≡ key_ulid k)
      (later : (x : Entry) → Contains sync x → x.seq < e.seq) (put : WasPutBefore journal k bytes number) (absent : e.reply ≡ reply.Absent) where
    seen : IsSeen sync found
    seen = kept_is_seen rules sync view sight found kept

    abbrev looked : Entry
    looked = seen.looked

    abbrev read : Entry
    read = seen.read

    looked_in : Contains sync looked
    looked_in = subst (λ (es : List Entry). Contains es looked) (sym seen.parts) (stands_in seen.front (seen.middle ++ read ∷ seen.back) looked)

    read_behind : Contains (seen.middle ++ read ∷ seen.back) read
    read_behind = stands_in seen.middle seen.back read

    read_in : Contains sync read
    read_in = subst (λ (es : List Entry). Contains es read) (sym seen.parts) (Contains-append_right seen.front (looked ∷ (seen.middle ++ read ∷ seen.back)) read (contains_later looked read (seen.middle ++ read ∷ seen.back) read_behind))

    small : ulid < 2 ^ 128
    small = subst (λ (u : ℕ). u < 2 ^ 128) name seen.small

    -- the places of the two
    abbrev Place : Entry → Type 0
    Place x = (front : List Entry) × (back : List Entry) × (journal ≡ front ++ x ∷ back)

    read_at : Place read
    read_at = parted journal read (own.among read read_in)

    looked_at : Place looked
    looked_at = parted journal looked (own.among looked looked_in)

    front_of : (x y : Entry) (at : Place x) → Contains journal y → y.seq < x.seq → Contains at.0 y
    front_of x y at among less = lower_is_in_front at.0 at.1 x y (subst Rises at.2 rises) (subst (λ (es : List Entry). Contains es y) at.2 among) less

    before_of : (x y : Entry) (at : Place x) → Contains at.0 y → IsEarlier y x
    before_of x y at among = front_is_earlier at.0 at.1 x y (subst Rises at.2 rises) among

    looked_first : looked.seq < read.seq
    looked_first = by (ordered journal rises looked read (own.among looked looked_in) (own.among read read_in)) (own_order seen.front seen.middle seen.back (subst Rises seen.parts own.rises))
      where
        own_order : (front middle back : List Entry) → Rises (front ++ looked ∷ (middle ++ read ∷ back)) → looked.seq < read.seq
        own_order [] middle back all = (All-contains (λ (x : Entry). (looked.seq < x.seq) × (looked.moment.ms ≤ x.moment.ms)) (middle ++ read ∷ back) read all.0 (stands_in middle back read)).0
        own_order (x ∷ front) middle back all = own_order front middle back all.1

        by : (IsEarlier looked read ⊎ IsEarlier read looked) ⊎ (looked ≡ read) → looked.seq < read.seq → looked.seq < read.seq
        by order less = less

    meta_stands : stands read_at.0 (key_text (key.Meta ulid)) ≡ Some seen.bytes
    meta_stands = subst (λ (u : ℕ). stands read_at.0 (key_text (key.Meta u)) ≡ Some seen.bytes) name (found_stands setting journal read_at.0 read_at.1 read honest read_at.2 (key.Meta found.ulid) seen.bytes seen.asks_meta seen.shows)

    meta_put : WasPutBefore journal (key.Meta ulid) seen.bytes read.seq
    meta_put =
        let last = stood setting journal lawful deeds read_at.0 (read ∷ read_at.1) read_at.2 (key.Meta ulid) small tt seen.bytes meta_stands in
        let among : Contains read_at.0 last.put = subst (λ (es : List Entry). Contains es last.put) (sym last.parts) (stands_in last.front last.back last.put) in
        let early = before_of read last.put read_at among in
        (last.put, subst (λ (es : List Entry). Contains es last.put) (sym read_at.2) (Contains-append_left read_at.0 (read ∷ read_at.1) last.put among), last.puts.0, last.puts.1, early.0)

    record IsWhole : Type 0 where
      seq : ℕ
      meta : MetaFields
      completed : IsCompletedAt journal ulid seq meta
      earlier : seq < read.seq
      holds : IsPutWhole setting journal ulid seq meta

    whole : IsWhole
    whole =
        let c = put_is_complete setting journal lawful deeds honest ulid read.seq seen.bytes meta_put in
        record { seq = c.0; meta = c.1; completed = c.2; earlier = c.3; holds = complete_put setting journal lawful deeds honest ulid c.0 c.1 c.2 }

    -- the object was put before the meta was read
    abbrev PutEarly : Key → Type 0
    PutEarly x = (text : List ℕ) × WasPutBefore journal x text read.seq

    early_by : (x : Key) (text : List ℕ) → WasPutBefore journal x text whole.seq → PutEarly x
    early_by x text (p, among, puts, landed, less) = (text, (p, among, puts, landed, omega (arith, less, whole.earlier)))

    object_early : PutEarly k
    object_early = by k refl
      where
        named : (x : Key) → x ≡ k → key_ulid x ≡ ulid
        named x is = ap key_ulid is

        segment : (n : ℕ) → key.Segment ulid n ≡ k → PutEarly (key.Segment ulid n)
        segment zero is = let p = put in absurd (let l = (subst IsLawfulKey (sym is) (lawful_put p.0 bytes p.1 p.2)).0 in omega (arith, l))
        segment (suc place) is =
            let next : suc place ≡ place + 1 = omega arith in
            let as_put : WasPutBefore journal (key.Segment ulid (place + 1)) bytes number = subst (λ (x : Key). WasPutBefore journal x bytes number) (sym is ∙ ap (key.Segment ulid) next) put in
            let held = whole.holds.put.segments place bytes (whole.holds.put.one_segment place bytes number as_put) in
            subst (λ (n : ℕ). PutEarly (key.Segment ulid n)) (sym next) (early_by (key.Segment ulid (place + 1)) bytes held)

        by : (x : Key) → x ≡ k → PutEarly k
        by (key.Meta u) is = subst PutEarly (ap key.Meta (sym (named (key.Meta u) is)) ∙ is) (seen.bytes, meta_put)
        by (key.Index u) is = subst PutEarly (ap key.Index (sym (named (key.Index u) is)) ∙ is) (early_by (key.Index ulid) whole.holds.files.index whole.holds.put.index)
        by (key.Segment u n) is =
            let same : key.Segment ulid n ≡ k = ap (λ (v : ℕ). key.Segment v n) (sym (named (key.Segment u n) is)) ∙ is in
            subst PutEarly same (segment n same)
        by (key.Mark u) is = absurd (subst IsBlockObject (sym is) object)

    -- so it was deleted
    gone : WasDeleted before object_early.1.0 k
    gone =
        let p = object_early.1 in
        let less : p.0.seq < e.seq = let l = later read read_in in omega (arith, l, p.4) in
        deleted_since setting journal lawful deeds before (e ∷ after) parts k small (lawful_put p.0 object_early.0 p.1 p.2) p.0 object_early.0 (in_front p.0 p.1 less) (p.2, p.3) (lost absent)

    abbrev deleting : Entry
    deleting = gone.delete

    deleting_at : journal ≡ gone.before ++ deleting ∷ (gone.after ++ e ∷ after)
    deleting_at = parts ∙ ap (λ (es : List Entry). es ++ e ∷ after) gone.parts ∙ append_assoc gone.before (deleting ∷ gone.after) (e ∷ after)

    deleted_early : IsEarlier deleting e
    deleted_early = is_earlier deleting (subst (λ (es : List Entry). Contains es deleting) (sym gone.parts) (stands_in gone.before gone.after deleting))

    -- behind a mark
    record HasMark : Type 0 where
      second : ℕ
      first : WasMarkedFirst journal ulid second
      early : IsEarlier first.mark e
      late : 1000 * second + setting.script.rules.delete.ms < e.moment.ms

    marked_by : HasMark
    marked_by =
        let c = whole.completed in
        let c_in : Contains journal c.entry = subst (λ (es : List Entry). Contains es c.entry) (sym c.is) (stands_in c.before c.after c.entry) in
        let l = deletions_are_late setting journal lawful deeds honest ulid timely c.entry c_in (c.bytes, c.puts, c.landed) gone.before (gone.after ++ e ∷ after) deleting k deleting_at gone.deletes.0 refl in
        let near = front_is_earlier gone.before (gone.after ++ e ∷ after) deleting l.1.mark (subst Rises deleting_at rises) l.2 in
        record { second = l.0; first = l.1; early = (omega (arith, near.0, deleted_early.0), omega (arith, near.1, deleted_early.1)); late = omega (arith, l.3, deleted_early.1) }

    abbrev second : ℕ
    second = marked_by.second

    abbrev first : WasMarkedFirst journal ulid second
    first = marked_by.first

    abbrev mark : Entry
    mark = first.mark

    mark_in : Contains journal mark
    mark_in = subst (λ (es : List Entry). Contains es mark) (sym first.parts) (stands_in first.front first.back mark)

    -- which the sync saw, if it was put before its look
    young : mark.seq < looked.seq → looked.moment.ms ≤ 1000 * second + rules.mark_delay.ms
    young less = by found.mark refl
      where
        inner : (front : List Entry) × (back : List Entry) × (looked_at.0 ≡ front ++ mark ∷ back)
        inner = parted looked_at.0 mark (front_of looked mark looked_at mark_in less)

        inner_at : journal ≡ inner.0 ++ mark ∷ (inner.1 ++ looked ∷ looked_at.1)
        inner_at = looked_at.2 ∙ ap (λ (es : List Entry). es ++ looked ∷ looked_at.1) inner.2 ∙ append_assoc inner.0 (mark ∷ inner.1) (looked ∷ looked_at.1)

        same_front : first.front ≡ inner.0
        same_front = one_place first.front first.back inner.0 (inner.1 ++ looked ∷ looked_at.1) mark (subst Rises first.parts rises) (sym first.parts ∙ inner_at)

        mark_puts : PutsMark ulid second mark
        mark_puts = first.is.marks

        undeleted : (x : Entry) → Contains inner.1 x → Contains read_at.0 x
        undeleted x among =
            let inside : Contains looked_at.0 x = subst (λ (es : List Entry). Contains es x) (sym inner.2) (Contains-append_right inner.0 (mark ∷ inner.1) x (contains_later mark x inner.1 among)) in
            let low = before_of looked x looked_at inside in
            front_of read x read_at (subst (λ (es : List Entry). Contains es x) (sym looked_at.2) (Contains-append_left looked_at.0 (looked ∷ looked_at.1) x inside)) (omega (arith, low.0, looked_first))

        holds : stands looked_at.0 (key_text (key.Mark ulid)) ≡ Some mark_puts.0
        holds = subst (λ (es : List Entry). stands es (key_text (key.Mark ulid)) ≡ Some mark_puts.0) (sym inner.2)
            (first_mark_stands setting journal lawful deeds honest ulid timely inner.0 inner.1 (looked ∷ looked_at.1) mark second mark_puts.0 inner_at (subst (λ (es : List Entry). IsFirstMark ulid second es mark) same_front first.is) mark_puts.2
            (λ x among deletes. nothing_deleted setting journal lawful deeds honest ulid timely read_at.0 (read ∷ read_at.1) read_at.2 seen.bytes meta_stands x (key.Meta ulid) (undeleted x among) refl small deletes))

        passes : (d : DeletionMark) → found.mark ≡ Some d → looked.moment.ms ≤ 1000 * d.deletion_time + rules.mark_delay.ms
        passes d is =
            let unmarked : is_unmarked found rules.mark_delay ≡ true = kept_is_young rules sight.found found (subst (λ (fs : List Found). Contains fs found) sight.kept kept) in
            let recent : nat_le found.mark_read.ms (1000 * d.deletion_time + rules.mark_delay.ms) ≡ true = ap (λ (o : Option DeletionMark). is_recent o found.mark_read rules.mark_delay) (sym is) ∙ unmarked in
            let when : found.mark_read.ms ≡ looked.moment.ms = ap (λ (m : Moment). m.ms) seen.mark_moment in
            omega (arith, when, leb-true found.mark_read.ms (1000 * d.deletion_time + rules.mark_delay.ms) recent)

        by : (o : Option DeletionMark) → found.mark ≡ o → looked.moment.ms ≤ 1000 * second + rules.mark_delay.ms
        by None is =
            let told : TellsMark found.ulid None looked.reply = subst (λ (o : Option DeletionMark). TellsMark found.ulid (option_map mark_fields_of o) looked.reply) is seen.tells in
            let none = absent_stands setting journal looked_at.0 looked_at.1 looked honest looked_at.2 (key.Mark found.ulid) seen.asks_mark told in
            let both : None ≡ Some mark_puts.0 = sym none ∙ ap (λ (u : ℕ). stands looked_at.0 (key_text (key.Mark u))) name ∙ holds in
            absurd (cc (both))
        by (Some d) is =
            let told : TellsMark found.ulid (Some (mark_fields_of d)) looked.reply = subst (λ (o : Option DeletionMark). TellsMark found.ulid (option_map mark_fields_of o) looked.reply) is seen.tells in
            let shows = found_stands setting journal looked_at.0 looked_at.1 looked honest looked_at.2 (key.Mark found.ulid) told.0 seen.asks_mark told.1 in
            let both : Some told.0 ≡ Some mark_puts.0 = sym shows ∙ ap (λ (u : ℕ). stands looked_at.0 (key_text (key.Mark u))) name ∙ holds in
            let texts : told.0 ≡ mark_puts.0 = cc (both) in
            let one : mark_fields_of d ≡ mark_puts.1 = one_mark mark_puts.0 (mark_fields_of d) mark_puts.1 (subst (λ (b : List ℕ). IsMarkText b (mark_fields_of d)) texts (mark_is_read found.ulid told.0 (mark_fields_of d) told.2)) mark_puts.4 in
            let seconds : d.deletion_time ≡ second = ap (λ (m : MarkFields). m.deletion_time) one ∙ mark_puts.5 in
            omega (arith, passes d is, seconds)

    mark_is_no_look : mark ≡ looked → ⊥
    mark_is_no_look same =
        let asks : op.Get (key.Mark found.ulid) ≡ op.Put (key.Mark ulid) first.is.marks.0 = sym seen.asks_mark ∙ ap (λ (x : Entry). x.op) (sym same) ∙ first.is.marks.2 in
        cc (asks)

    abbrev begin : Entry
    begin = sight.first

    begun : begin.moment.ms ≤ looked.moment.ms
    begun = elim (member_cases begin looked sight.others (subst (λ (es : List Entry). Contains es looked) sight.are looked_in)) [
      | inl same ↦ let equal : begin.moment.ms ≡ looked.moment.ms = ap (λ (x : Entry). x.moment.ms) same in omega (arith, equal)
      | inr among ↦ (All-contains (λ (x : Entry). (begin.seq < x.seq) × (begin.moment.ms ≤ x.moment.ms)) sight.others looked (subst Rises sight.are own.rises).0 among).1
    ]

  -- ---- a gateway's read, after its sync

  module _ (timely : IsUploadedInTime setting.script.rules (key_ulid k) journal) where
    pub seen_is_found : (gateway : ℕ) (sync : List Entry) (view : View) → IsSight (sync_rules setting gateway) sync view → IsPart journal sync → (found : Found) → Contains view.kept found → found.ulid ≡ key_ulid k → ((x : Entry) → Contains sync x → x.seq < e.seq)
        → WasPutBefore journal k bytes number → IsMarkedInTime setting.script.rules (key_ulid k) journal → IsReadInTime setting.script.rules view e → e.reply ≢ reply.Absent
    seen_is_found gateway sync view sees part found kept name after_sync put marked quick absent = contradiction
      where
        rules : SyncRules
        rules = sync_rules setting gateway

        had : HasMark timely rules sync view sees part found kept name after_sync put absent
        had = marked_by timely rules sync view sees part found kept name after_sync put absent

        look : Entry
        look = looked timely rules sync view sees part found kept name after_sync put absent

        look_in : Contains journal look
        look_in = part.among look (looked_in timely rules sync view sees part found kept name after_sync put absent)

        in_time : look.moment.ms ≤ 1000 * had.second + setting.script.rules.ignore.ms
        in_time = elim (ordered journal rises had.first.mark look (mark_in timely rules sync view sees part found kept name after_sync put absent) look_in) [
          | inl (inl less) ↦ young timely rules sync view sees part found kept name after_sync put absent less.0
          | inl (inr more) ↦
              let m = All-contains (λ (x : Entry). (second : ℕ) → PutsMark (key_ulid k) second x → x.moment.ms ≤ 1000 * second + setting.script.rules.ignore.ms) journal had.first.mark marked
              (mark_in timely rules sync view sees part found kept name after_sync put absent) had.second had.first.is.marks in
              omega (arith, m, more.1)
          | inr same ↦ absurd (mark_is_no_look timely rules sync view sees part found kept name after_sync put absent same)
        ]

        contradiction : ⊥
        contradiction =
            let from = begun timely rules sync view sees part found kept name after_sync put absent in
            let start : view.begin.ms ≡ sees.first.moment.ms = ap (λ (m : Moment). m.ms) sees.begin in
            absurd (omega (arith, in_time, from, start, quick, had.late))

    -- ---- a read of a compaction's input

    pub input_is_found : Compacts (deeds.deed e.seat) → IsInputRead setting.script.rules (of_seat e.seat before) (key_ulid k) → WasPutBefore journal k bytes number
        → ((one : Entry) → Contains (of_seat e.seat journal) one → e.moment.ms ≤ one.moment.ms + setting.script.rules.delete.ms / 2) → e.reply ≢ reply.Absent
    input_is_found compacting input put quick absent = contradiction
      where
        rules : SyncRules
        rules = compaction_sync setting.script.rules

        sync : List Entry
        sync = input.synced.sync

        sees : IsSight rules sync input.view
        sees = sync_sight rules sync input.view input.synced.run

        in_before : IsPart journal (of_seat e.seat before)
        in_before = part_filter journal (λ (x : Entry). x.seat == e.seat) before (part_middle journal [] before (e ∷ after) (subst (IsPart journal) parts (part_whole journal rises)))

        part : IsPart journal sync
        part = part_middle journal [] sync input.synced.others (subst (IsPart journal) input.synced.parts in_before)

        own_of : (x : Entry) → Contains sync x → Contains (of_seat e.seat before) x
        own_of x among = subst (λ (es : List Entry). Contains es x) (sym input.synced.parts) (Contains-append_left sync input.synced.others x among)

        after_sync : (x : Entry) → Contains sync x → x.seq < e.seq
        after_sync x among = (is_earlier x (in_seat e.seat before x (own_of x among)).0).0

        had : HasMark timely rules sync input.view sees part input.found input.kept.0 input.kept.1 after_sync put absent
        had = marked_by timely rules sync input.view sees part input.found input.kept.0 input.kept.1 after_sync put absent

        look : Entry
        look = looked timely rules sync input.view sees part input.found input.kept.0 input.kept.1 after_sync put absent

        look_own : Contains (of_seat e.seat before) look
        look_own = own_of look (looked_in timely rules sync input.view sees part input.found input.kept.0 input.kept.1 after_sync put absent)

        mark_of : Entry
        mark_of = had.first.mark

        mark_whole : Contains journal mark_of
        mark_whole = mark_in timely rules sync input.view sees part input.found input.kept.0 input.kept.1 after_sync put absent

        look_whole : Contains (of_seat e.seat journal) look
        look_whole = let o = in_seat e.seat before look look_own in to_seat e.seat journal look (subst (λ (es : List Entry). Contains es look) (sym parts) (Contains-append_left before (e ∷ after) look o.0)) o.1

        mark_first : mark_of.seq < look.seq
        mark_first = by (mark_of.seat == e.seat) refl
          where
            by : (b : Bool) → (mark_of.seat == e.seat) ≡ b → mark_of.seq < look.seq
            by true test =
                let same : mark_of.seat ≡ e.seat = grind (arith, nat_tests, test) in
                absurd (input.unmarked mark_of (to_seat e.seat before mark_of (in_front mark_of mark_whole had.early.0) same) had.first.is.marks.0 had.first.is.marks.2)
            by false test =
                let differ : e.seat ≢ mark_of.seat = λ q. absurd (grind (arith, nat_tests, test, q)) in
                let its = (mark_source setting journal deeds had.first.front had.first.back mark_of had.first.parts (key_ulid k) had.first.is.marks.0 had.first.is.marks.2).0 in
                elim (deeds.apart e.seat mark_of.seat differ compacting its) [
                  | inl e_first ↦ let less = e_first e mark_of (to_seat e.seat journal e e_in refl) (to_seat mark_of.seat journal mark_of mark_whole refl) in absurd (omega (arith, less, had.early.0))
                  | inr mark_before ↦ mark_before mark_of look (to_seat mark_of.seat journal mark_of mark_whole refl) look_whole
                ]

        contradiction : ⊥
        contradiction =
            let low = young timely rules sync input.view sees part input.found input.kept.0 input.kept.1 after_sync put absent mark_first in
            let near = quick look look_whole in
            absurd (omega (arith, low, near, had.late))
