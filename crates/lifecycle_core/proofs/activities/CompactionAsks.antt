-- What a compaction asks for.
use Rattle.std.proofs.Common.{◌≡◌, ℕ, ◌+◌, List, [], ◌∷◌, ◌++◌, Contains, Option, Some, None, refl, sym, ◌∙◌, ap, subst, append_assoc, append-nil}
use Rattle.std.specs.List.{AllByRecursion, AllZip}
use Rattle.base.proofs.Lists.{AllByRecursion-append}
use Rattle.base.proofs.Membership.{all_members, contains_first, contains_later, member_passes, of_filter, of_map}
use Rattle.block_keys.specs.declared.key.Key.TheVariants as key
use Rattle.block_keys.specs.declared.object.Object.{Object}
use Rattle.block_meta.specs.MetaFields.{MarkFields, MetaFields}
use Rattle.block_meta.specs.OfBlocks.{block_mark, block_meta}
use Rattle.block_meta.specs.declared.meta.Meta.{Meta}
use Rattle.block_meta.specs.Built.{objects_of, segment_objects}
use Rattle.block_meta.specs.declared.block_files.BlockFiles.{BlockFiles}
use Rattle.compactor.specs.FoundNames.{expired_at, names_of}
use Rattle.compactor.specs.Marking.{marking}
use Rattle.compactor.specs.declared.reason.Reason.TheVariants.{Covered, Compacted, Expired}
use Rattle.moment_core.specs.declared.moment.Moment.{Moment}
use Rattle.moment_core.specs.declared.rules.Rules.{Rules}
use Rattle.world_core.specs.Limits.{most_listed}
use Rattle.world_core.specs.Plans.{Plan, Runs, finds}
use Rattle.world_core.specs.Plans as plan
use Rattle.world_core.specs.Walks.{ulids_in}
use Rattle.world_core.specs.declared.op.Op.{Op}
use Rattle.world_core.specs.declared.op.Op.TheVariants as op
use Rattle.world_core.specs.declared.entry.Entry.{Entry}
use Rattle.world_core.proofs.PlanLaws.{AsksFor, asked_are}
use Rattle.world_core.proofs.PlanParts.{noted_end}
use Rattle.world_core.proofs.PlanWords.{gets_ask, pages_ask}
use Rattle.sync_filters.specs.Filters.{is_expired}
use Rattle.sync_filters.specs.declared.found.Found.{Found}
use Rattle.shipper.specs.Uploads.{upload}
use Rattle.shipper.specs.declared.upload.UploadEnd.{UploadEnd}
use Rattle.shipper.specs.declared.upload.UploadEnd.TheVariants as uploaded
use Rattle.meta_fetcher.specs.OneView.{one_end_of}
use Rattle.meta_fetcher.specs.Sightings.{Sighting}
use Rattle.meta_fetcher.specs.Syncs.{Course, IsEnd, Synced, fault, if_mark, if_meta, listing, reading, reads_meta, sync, walk_ends, with_entry}
use Rattle.meta_fetcher.specs.declared.rules.SyncRules.{SyncRules}
use Rattle.meta_fetcher.specs.declared.sync.SyncEnd.{SyncEnd}
use Rattle.meta_fetcher.specs.declared.sync.SyncEnd.TheVariants as fetched
use Rattle.meta_fetcher.specs.declared.view.View.{View}
use Rattle.meta_fetcher.proofs.SyncLaws.{only_asks, sighting_at}
use Rattle.group_planner.specs.Groups.{AreGroups}
use Rattle.group_planner.specs.Members.{ulids_of}
use Rattle.group_planner.specs.Plans.{IsPlan}
use Rattle.group_planner.specs.declared.group.Group.{Group}
use Rattle.group_planner.proofs.GroupLaws.{one_answer}
use Rattle.compactor.specs.Merges.{IsMerging}
use Rattle.compactor.specs.Reading.{reads_blocks}
use Rattle.compactor.specs.declared.input.Input.{Input}
use Rattle.compactor.specs.declared.merging.Merging.{Merging}
use Rattle.compactor.specs.declared.merging.Merging.TheVariants as merging_is
use Rattle.compactor.specs.Compactions.{CompactRun, after_merge, after_sync, after_upload, compacting, compacting_groups, compaction, last_number, merging, metas_of, read_ends, rounds, sync_rules}
use Rattle.compactor.specs.NewBlocks.{block_objects, new_ulid}
use Rattle.compactor.specs.declared.compact_end.CompactEnd.{CompactEnd}
use Rattle.compactor.specs.declared.compact_end.CompactEnd.TheVariants.{Done, Fault}
use Rattle.lifecycle_core.specs.CompactionOps.{HasMerged, IsCompactOp, IsReason, Stores, WasCompacted, WasRead, compacted, covered, expired}
use Rattle.lifecycle_core.proofs.activities.CleaningAsks.{each_at}
use Rattle.lifecycle_core.proofs.activities.CompactionGroups.{AreApart, IsOfNone, IsOfPassed, covered_of_none, groups_apart, member_found, of_sync, plan_among}
use Rattle.lifecycle_core.proofs.activities.CompactionSoFar.{IsFree, MarksOnly, Reasons, SoFar, may_read, puts_no_mark, reads_mark_none, so_far_more, so_far_weaker}
use Rattle.lifecycle_core.proofs.activities.CompactionWords.{AreNoMarks, IsLast, StaysRead, WasPut, block_asks, blocks_ask, marking_asks, noting_asks, objects_no_marks, then_asks, upload_asks, upload_done}

-- ---- behind an upload that put all

puts_none : (P : ℕ → Type 0) (puts : List Entry) (objects : List Object) → AllZip Stores puts objects → AreNoMarks objects → AllByRecursion (MarksOnly P) puts
puts_none P [] objects all none = tt
puts_none P (e ∷ puts) [] all none = absurd all
puts_none P (e ∷ puts) (object ∷ objects) all none = (puts_no_mark P e object.key object.bytes (all.0).0 none.0, puts_none P puts objects all.1 none.1)

own_none : (P : ℕ → Type 0) (ulid : ℕ) (objects : List Object) (own : List Entry) → AreNoMarks objects → WasPut ulid objects own → AllByRecursion (MarksOnly P) own
own_none P ulid objects own none w =
    subst (AllByRecursion (MarksOnly P)) (sym w.parts) (reads_mark_none P w.look (key.Meta ulid) w.asks, puts_none P w.puts objects w.stored none)

so_far_own : (rules : Rules) (view : View) (P : ℕ → Type 0) (made own : List Entry) → AllByRecursion (MarksOnly P) own → SoFar rules view P made → SoFar rules view P (made ++ own)
so_far_own rules view P made own none s = record {
  synced = record {
    sync = (s.synced).sync;
    others = (s.synced).others ++ own;
    parts = ap (λ es. es ++ own) (s.synced).parts ∙ append_assoc (s.synced).sync (s.synced).others own;
    run = (s.synced).run;
  };
  marks = AllByRecursion-append (MarksOnly P) made own s.marks none;
}

-- the puts up to the last object
record LastPut (puts : List Entry) (front : List Object) (last : Object) : Type 0 where
  before : List Entry
  put : Entry
  parts : puts ≡ before ++ put ∷ []
  stored : AllZip Stores before front
  own : Stores put last

last_put : (puts : List Entry) (front : List Object) (last : Object) → AllZip Stores puts (front ++ last ∷ []) → LastPut puts front last
last_put [] [] last all = absurd all
last_put [] (o ∷ front) last all = absurd all
last_put (p ∷ []) [] last all = record { before = []; put = p; parts = refl; stored = tt; own = all.0 }
last_put (p ∷ q ∷ puts) [] last all = absurd all.1
last_put (p ∷ puts) (o ∷ front) last all =
    let l = last_put puts front last all.1 in
    record { before = p ∷ l.before; put = l.put; parts = ap (λ es. p ∷ es) l.parts; stored = (all.0, l.stored); own = l.own }

-- a block's last object is its meta
meta_last : (ulid : ℕ) (segments : List (List ℕ)) (index meta : List ℕ)
    → objects_of ulid segments index meta ≡ (segment_objects ulid 1 segments ++ record { key = key.Index ulid; bytes = index } ∷ []) ++ record { key = key.Meta ulid; bytes = meta } ∷ []
unfolding objects_of
meta_last ulid segments index meta =
    sym (append_assoc (segment_objects ulid 1 segments) (record { key = key.Index ulid; bytes = index } ∷ []) (record { key = key.Meta ulid; bytes = meta } ∷ []))

ends_with_meta : (ulid : ℕ) (block : BlockFiles) → (front : List Object) × (text : List ℕ) × (block_objects ulid block ≡ front ++ record { key = key.Meta ulid; bytes = text } ∷ [])
ends_with_meta ulid block = (_, _, meta_last ulid block.segments block.index _)

module _ (rules : Rules) (view : View) (read : List Entry) (ulid : ℕ) (block : BlockFiles) (merged : HasMerged rules view read ulid block) (own : List Entry) where
  was_compacted : (front : List Object) (text : List ℕ) → block_objects ulid block ≡ front ++ record { key = key.Meta ulid; bytes = text } ∷ [] → WasPut ulid (block_objects ulid block) own
      → (meta : Meta) → Contains merged.metas meta → WasCompacted rules (read ++ own) view meta.ulid
  was_compacted front text are w meta among =
      let l = last_put w.puts front (record { key = key.Meta ulid; bytes = text }) (subst (AllZip Stores w.puts) are w.stored) in
      record {
        upto = read ++ w.look ∷ l.before;
        put = l.put;
        later = [];
        parts = ap (λ es. read ++ es) (w.parts ∙ ap (λ es. w.look ∷ es) l.parts) ∙ sym (append_assoc read (w.look ∷ l.before) (l.put ∷ []));
        new = ulid;
        text = text;
        puts = (l.own).0;
        stored = (l.own).1;
        made = record {
          read = read;
          look = w.look;
          puts = l.before;
          parts = refl;
          ulid = ulid;
          asks = w.asks;
          absent = w.absent;
          block = block;
          view = view;
          merged = merged;
          done = front;
          left = [];
          objects = are;
          stored = l.stored;
        };
        same = refl;
        input = (meta, among, refl);
      }

  -- for this each of the inputs is marked
  inputs_reasons : (metas : List Meta) → merged.metas ≡ metas → WasPut ulid (block_objects ulid block) own → Reasons rules view (read ++ own) (ulids_of metas)
  inputs_reasons metas same w =
      let object = ends_with_meta ulid block in
      all_members (IsReason rules (read ++ own) view) (ulids_of metas)
      (λ u among.
      let m = of_map (λ (meta : Meta). meta.ulid) metas u among in
      compacted (subst (λ (v : ℕ). WasCompacted rules (read ++ own) view v) m.2 (was_compacted object.0 object.1 object.2 w m.0 (subst (λ (ms : List Meta). Contains ms m.0) (sym same) m.1))))

-- ---- a group

module _ (rules : Rules) (view : View) (of : IsOfPassed view) (groups : List Group) (are : AreGroups rules.replicas (metas_of view.kept) groups) where
  abbrev Is : List Entry → Op → Type 0
  Is = IsCompactOp rules

  -- what is known where these groups are left
  abbrev Left : List Group → List Entry → Type 0
  Left left = SoFar rules view (IsOfNone left)

  abbrev Goes : List Group → Plan CompactEnd → Type 0
  Goes left next = (made : List Entry) → Left left made → AsksFor Is made next

  module _ (group : Group) (left : List Group) (among : Contains groups group) (apart : (m : Meta) → Contains group.members m → IsOfNone left m.ulid) (next : Plan CompactEnd) (goes : Goes left next)
      (first : Meta) (others : List Meta) (planned : IsPlan group.members (first ∷ others)) where
    abbrev metas : List Meta
    metas = first ∷ others

    abbrev Known : List Entry → Type 0
    Known = Left (group ∷ left)

    known_stays : StaysRead Known
    known_stays made e k asks s = so_far_more rules view (IsOfNone (group ∷ left)) made e (reads_mark_none (IsOfNone (group ∷ left)) e k asks) s

    member : (m : Meta) → Contains metas m → Contains group.members m
    member m own = plan_among group.members metas planned m own

    free : (m : Meta) → Contains metas m → IsFree view (IsOfNone (group ∷ left)) m.ulid
    free m own =
        let f = member_found rules.replicas view of groups are group among m (member m own) in
        record { found = f.0; kept = f.1; apart = λ other none same. none.0 m (member m own) (sym same) }

    abbrev retired : Plan CompactEnd
    retired = marking Fault Compacted 0 (ulids_of metas) (λ put. next)

    retired_asks : (made own : List Entry) (ulid : ℕ) (block : BlockFiles) (merged : HasMerged rules view made ulid block) → merged.metas ≡ metas → Known made → WasPut ulid (block_objects ulid block) own
        → AsksFor Is (made ++ own) retired
    retired_asks made own ulid block merged same s w =
        marking_asks rules view (IsOfNone left) Compacted (λ put. next) (λ put now t. goes now t) (ulids_of metas) 0 (made ++ own)
        (all_members (IsOfNone left) (ulids_of metas) (λ u inside.
        let m = of_map (λ (meta : Meta). meta.ulid) metas u inside in subst (IsOfNone left) m.2 (apart m.0 (member m.0 m.1))))
        (so_far_own rules view (IsOfNone left) made own (own_none (IsOfNone left) ulid (block_objects ulid block) own (objects_no_marks ulid block) w)
        (so_far_weaker rules view (IsOfNone (group ∷ left)) (IsOfNone left) made (λ u none. none.1) s))
        (inputs_reasons rules view made ulid block merged own metas same w)

    after_asks : (made own : List Entry) (ulid : ℕ) (block : BlockFiles) (merged : HasMerged rules view made ulid block) → merged.metas ≡ metas → Known made
        → (end : UploadEnd) (last : Option ℕ) → Runs (upload ulid (block_objects ulid block)) own (Some end) → AsksFor Is (made ++ own) (after_upload retired (end, last))
    after_asks made own ulid block merged same s (uploaded.Done count) last run = retired_asks made own ulid block merged same s (upload_done ulid (block_objects ulid block) own count run)
    after_asks made own ulid block merged same s uploaded.Already (Some look) run = tt
    after_asks made own ulid block merged same s uploaded.Already None run = tt
    after_asks made own ulid block merged same s (uploaded.Fault number) last run = tt

    told_asks : (made own : List Entry) (ulid : ℕ) (block : BlockFiles) (merged : HasMerged rules view made ulid block) → merged.metas ≡ metas → Known made
        → (told : UploadEnd × Option ℕ) → Runs (plan.noting last_number None (upload ulid (block_objects ulid block))) own (Some told) → AsksFor Is (made ++ own) (after_upload retired told)
    told_asks made own ulid block merged same s (end, last) run =
        after_asks made own ulid block merged same s end last (noted_end last_number None (upload ulid (block_objects ulid block)) own end last run).0

    uploads_ask : (made : List Entry) (ulid : ℕ) (block : BlockFiles) (merged : HasMerged rules view made ulid block) → merged.metas ≡ metas → Known made
        → AsksFor Is made (after_merge ulid (ulids_of metas) next (merging_is.Merged block))
    uploads_ask made ulid block merged same s =
        then_asks Is (plan.noting last_number None (upload ulid (block_objects ulid block))) (after_upload retired) made
        (noting_asks Is last_number None (upload ulid (block_objects ulid block)) made (upload_asks rules view made ulid block merged))
        (λ own told run. told_asks made own ulid block merged same s told run)

    merge_asks : (made : List Entry) (inputs : List Input) (last : Entry) → Known made → AllZip (WasRead made) metas inputs → IsLast made last
        → (merged : Merging) → IsMerging rules.replicas (new_ulid last.seq last.moment) group.labels inputs merged → AsksFor Is made (after_merge (new_ulid last.seq last.moment) (ulids_of metas) next merged)
    merge_asks made inputs last s read at (merging_is.Merged block) is =
        uploads_ask made (new_ulid last.seq last.moment) block (record {
          synced = s.synced;
          groups = groups;
          grouped = are;
          group = group;
          among = among;
          metas = metas;
          planned = planned;
          some = λ none. cc (none);
          inputs = inputs;
          read = read;
          front = at.0;
          last = last;
          ends = at.1;
          ulid_is = refl;
          merged = is;
        }) refl s
    merge_asks made inputs last s read at (merging_is.Refused number) is = tt
    merge_asks made inputs last s read at merging_is.TooLarge is = tt

    abbrev merges : List Input → Entry → Plan CompactEnd
    merges inputs last = merging rules.replicas group.labels (ulids_of metas) next inputs last.seq last.moment

    compacting_asks : (unplanned : Plan CompactEnd) (made : List Entry) → Known made → AsksFor Is made (compacting rules.replicas group.labels unplanned next (first ∷ others))
    compacting_asks unplanned made s =
        block_asks rules first Known known_stays (λ now t. may_read rules view (IsOfNone (group ∷ left)) now first.ulid t (free first (contains_first first others)))
        (λ input e. reads_blocks read_ends (input ∷ []) e others merges)
        (λ now input later t was at.
        blocks_ask rules Known known_stays metas merges (λ then inputs last u read end. λ merged is. merge_asks then inputs last u read end merged is)
        others (first ∷ []) (input ∷ []) later now refl
        (all_members (λ (m : Meta). (then : List Entry) → Known then → _) others
        (λ m own then u. may_read rules view (IsOfNone (group ∷ left)) then m.ulid u (free m (contains_later first m others own))))
        (t, (was, tt)) at)
        made s

  planned_asks : (group : Group) (left : List Group) → Contains groups group → ((m : Meta) → Contains group.members m → IsOfNone left m.ulid) → (unplanned next : Plan CompactEnd) → Goes left unplanned → Goes left next
      → (metas : List Meta) → IsPlan group.members metas → Goes (group ∷ left) (compacting rules.replicas group.labels unplanned next metas)
  planned_asks group left among apart unplanned next skips goes [] planned made s = skips made (so_far_weaker rules view (IsOfNone (group ∷ left)) (IsOfNone left) made (λ u none. none.1) s)
  planned_asks group left among apart unplanned next skips goes (first ∷ others) planned made s = compacting_asks group left among apart next goes first others planned unplanned made s

  abbrev Any : ℕ → Type 0
  Any ulid = Unit {0}

  groups_ask : (next : ℕ → Plan CompactEnd) → ((count : ℕ) (made : List Entry) → SoFar rules view Any made → AsksFor Is made (next count))
      → (left : List Group) → AllByRecursion (Contains groups) left → AreApart left → (count : ℕ) → Goes left (compacting_groups rules.replicas count left next)
  groups_ask next goes [] among apart count made s = goes count made (so_far_weaker rules view (IsOfNone []) Any made (λ u none. tt) s)
  groups_ask next goes (group ∷ left) among apart count made s = λ metas planned.
      planned_asks group left among.0 apart.0 (compacting_groups rules.replicas count left next) (compacting_groups rules.replicas (count + 1) left next)
      (groups_ask next goes left among.1 apart.1 count) (groups_ask next goes left among.1 apart.1 (count + 1)) metas planned made s

-- ---- the whole

module _ (rules : Rules) where
  abbrev IsOp : List Entry → Op → Type 0
  IsOp = IsCompactOp rules

  module _ (view : View) (of : IsOfPassed view) where
    abbrev IsCovered : ℕ → Type 0
    IsCovered ulid = Contains (names_of view.covered) ulid

    abbrev AnyBlock : ℕ → Type 0
    AnyBlock ulid = Unit {0}

    abbrev old : List ℕ
    old = names_of (expired_at rules.retention view.begin view.kept)

    old_reasons : (made : List Entry) → Reasons rules view made old
    old_reasons made =
        all_members (IsReason rules made view) old
        (λ u among.
        let f = of_map (λ (block : Found). block.ulid) (expired_at rules.retention view.begin view.kept) u among in
        expired f.0 (of_filter (λ (block : Found). is_expired block.meta rules.retention view.begin) view.kept f.0 f.1, f.2)
        (member_passes (λ (block : Found). is_expired block.meta rules.retention view.begin) view.kept f.0 f.1))

    old_ask : (collected count : ℕ) (made : List Entry) → SoFar rules view AnyBlock made → AsksFor IsOp made (marking Fault Expired 0 old (λ marks. plan.ends (Done collected count marks)))
    old_ask collected count made s =
        marking_asks rules view AnyBlock Expired (λ marks. plan.ends (Done collected count marks)) (λ marks now t. tt) old 0 made (all_members AnyBlock old (λ u among. tt)) s (old_reasons made)

    abbrev behind : ℕ → List Group → Plan CompactEnd
    behind collected groups = compacting_groups rules.replicas 0 groups (λ count. marking Fault Expired 0 old (λ marks. plan.ends (Done collected count marks)))

    behind_asks : (collected : ℕ) (made : List Entry) → SoFar rules view IsCovered made → (groups : List Group) → AreGroups rules.replicas (metas_of view.kept) groups → AsksFor IsOp made (behind collected groups)
    behind_asks collected made s groups are =
        groups_ask rules view of groups are (λ count. marking Fault Expired 0 old (λ marks. plan.ends (Done collected count marks))) (old_ask collected) groups
        (all_members (Contains groups) groups (λ g among. among)) (groups_apart rules.replicas view of groups are) 0 made
        (so_far_weaker rules view IsCovered (IsOfNone groups) made (covered_of_none rules.replicas view of groups are) s)

    rounds_ask : (made : List Entry) → SoFar rules view IsCovered made → AsksFor IsOp made (rounds rules.replicas rules.retention view)
    rounds_ask made s =
        marking_asks rules view IsCovered Covered (λ collected. finds (AreGroups rules.replicas (metas_of view.kept)) (one_answer rules.replicas (metas_of view.kept)) (behind collected))
        (λ collected now t. λ groups are. behind_asks collected now t groups are) (names_of view.covered) 0 made
        (all_members IsCovered (names_of view.covered) (λ u among. among)) s
        (all_members (IsReason rules made view) (names_of view.covered) (λ u among. covered among))

  -- ---- the sync

  meta_asks : (made : List Entry) (seq : ℕ) (o : Option MetaFields) (next : MetaFields → Plan Synced) → ((meta : MetaFields) → AsksFor IsOp made (next meta)) → AsksFor IsOp made (if_meta seq o next)
  meta_asks made seq None next all = tt
  meta_asks made seq (Some meta) next all = all meta

  mark_asks : (made : List Entry) (seq : ℕ) (o : Option MarkFields) (next : MarkFields → Plan Synced) → ((mark : MarkFields) → AsksFor IsOp made (next mark)) → AsksFor IsOp made (if_mark seq o next)
  mark_asks made seq None next all = tt
  mark_asks made seq (Some mark) next all = all mark

  metas_ask : (made : List Entry) (ulid : ℕ) (next : MetaFields → Moment → Plan Synced) (absent : Plan Synced) → ((now : List Entry) (meta : MetaFields) (at : Moment) → AsksFor IsOp now (next meta at))
      → ((now : List Entry) → AsksFor IsOp now absent) → AsksFor IsOp made (reads_meta ulid next absent)
  metas_ask made ulid next absent all none =
      gets_ask IsOp made fault (key.Meta ulid) (λ e bytes. if_meta e.seq (block_meta ulid bytes) (λ meta. next meta e.moment)) (λ e. absent) tt
      (λ e bytes is found. meta_asks (made ++ e ∷ []) e.seq (block_meta ulid bytes) (λ meta. next meta e.moment) (λ meta. all (made ++ e ∷ []) meta e.moment))
      (λ e is missing. none (made ++ e ∷ []))

  reading_asks : (ulids : List ℕ) (made : List Entry) (sightings : List Sighting) → AsksFor IsOp made (reading sightings ulids)
  reading_asks [] made sightings = tt
  reading_asks (ulid ∷ ulids) made sightings =
      let Next : Option MarkFields → Moment → MetaFields → Moment → Plan Synced =
      λ mark mark_read meta meta_read. reading (sightings ++ sighting_at ulid mark mark_read meta_read meta ∷ []) ulids in
      let then : (now : List Entry) (mark : Option MarkFields) (mark_read : Moment) → AsksFor IsOp now (reads_meta ulid (Next mark mark_read) (reading sightings ulids)) =
      λ now mark mark_read. metas_ask now ulid (Next mark mark_read) (reading sightings ulids)
      (λ later meta at. reading_asks ulids later (sightings ++ sighting_at ulid mark mark_read at meta ∷ [])) (λ later. reading_asks ulids later sightings) in
      gets_ask IsOp made fault (key.Mark ulid)
      (λ e bytes. if_mark e.seq (block_mark ulid bytes) (λ mark. reads_meta ulid (Next (Some mark) e.moment) (reading sightings ulids)))
      (λ e. reads_meta ulid (Next None e.moment) (reading sightings ulids)) tt
      (λ e bytes is found. mark_asks (made ++ e ∷ []) e.seq (block_mark ulid bytes) (λ mark. reads_meta ulid (Next (Some mark) e.moment) (reading sightings ulids))
      (λ mark. then (made ++ e ∷ []) (Some mark) e.moment))
      (λ e is absent. then (made ++ e ∷ []) None e.moment)

  sync_asks : (how : SyncRules) → AsksFor IsOp [] (sync how)
  sync_asks how =
      noting_asks IsOp with_entry None (listing how most_listed []) []
      (pages_ask walk_ends (λ cursor. op.RootPage cursor how.page_limit) how.page_limit (λ names. reading [] (ulids_in names)) IsOp (λ made cursor. tt) (λ made names. reading_asks (ulids_in names) made []) most_listed [] [])

  sync_marks : (P : ℕ → Type 0) (how : SyncRules) (entries : List Entry) (told : Synced × Option Course) → Runs (sync how) entries (Some told) → (end : SyncEnd) → IsEnd how told end → AllByRecursion (MarksOnly P) entries
  sync_marks P how entries told run end is =
      only_asks (λ (o : Op). (ulid : ℕ) (bytes : List ℕ) → o ≡ op.Put (key.Mark ulid) bytes → P ulid) how (λ cursor ulid bytes no. absurd (cc (no))) (λ looked ulid bytes no. absurd (cc (no))) (λ looked ulid bytes no. absurd (cc (no)))
      entries (Some end) (told, run, is)

  end_asks : (own : List Entry) (told : Synced × Option Course) → Runs (sync (sync_rules rules)) own (Some told) → (end : SyncEnd) → IsEnd (sync_rules rules) told end → AsksFor IsOp own (after_sync rules.replicas rules.retention end)
  end_asks own told run (fetched.View view) is =
      rounds_ask view (of_sync (sync_rules rules) own view (told, run, is)) own (record {
        synced = record { sync = own; others = []; parts = sym (append-nil own); run = (told, run, is) };
        marks = sync_marks (IsCovered view (of_sync (sync_rules rules) own view (told, run, is))) (sync_rules rules) own told run (fetched.View view) is;
      })
  end_asks own told run (fetched.Fault number) is = tt
  end_asks own told run (fetched.Damaged number) is = tt
  end_asks own told run fetched.TooMany is = tt

  compaction_asks : AsksFor IsOp [] (compaction rules)
  compaction_asks =
      then_asks IsOp (sync (sync_rules rules)) (λ told. finds (IsEnd (sync_rules rules) told) (one_end_of (sync_rules rules) told) (after_sync rules.replicas rules.retention)) [] (sync_asks (sync_rules rules))
      (λ own told run. λ end is. end_asks own told run end is)

pub compaction_op : (rules : Rules) (own : List Entry) (e : Entry) (rest : List Entry) (end : Option CompactEnd) → CompactRun rules (own ++ e ∷ rest) end → IsCompactOp rules own e.op
compaction_op rules own e rest end run = each_at (IsCompactOp rules) [] own e rest (asked_are (IsCompactOp rules) (compaction rules) [] (own ++ e ∷ rest) end (compaction_asks rules) run)
