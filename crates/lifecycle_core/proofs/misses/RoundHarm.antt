-- What a compaction shows that ended with damage: its sync's, an index that names no segments, a merge of which an input is refused, or
-- a new block whose meta stands already.
use Rattle.std.proofs.Common.{◌≡◌, ℕ, zero, suc, ◌+◌, List, [], ◌∷◌, ◌++◌, length, Contains, Option, Some, None, refl, sym, ◌∙◌, ap, subst, append_assoc, append-nil, length-append, arith}
use Rattle.std.specs.List.{AllZip}
use Rattle.block_keys.specs.declared.key.Key.{Key}
use Rattle.block_keys.specs.declared.key.Key.TheVariants as key
use Rattle.block_keys.specs.declared.object.Object.{Object}
use Rattle.block_meta.specs.declared.meta.Meta.{Meta}
use Rattle.moment_core.specs.declared.rules.Rules.{Rules}
use Rattle.world_core.specs.Plans.{Plan, ends, finds, puts, noting}
use Rattle.world_core.specs.declared.entry.Entry.{Entry}
use Rattle.world_core.specs.declared.op.Op.TheVariants as op
use Rattle.world_core.specs.declared.reply.Reply.TheVariants as reply
use Rattle.world_core.proofs.PlanLaws.{EndsAre, end_is, nothing_given}
use Rattle.world_core.proofs.PlanWords.{gets_are, puts_are}
use Rattle.shipper.specs.Uploads.{putting, upload}
use Rattle.shipper.specs.declared.upload.UploadEnd.{UploadEnd}
use Rattle.shipper.specs.declared.upload.UploadEnd.TheVariants as shipped
use Rattle.meta_fetcher.specs.Syncs.{SyncRun}
use Rattle.meta_fetcher.specs.declared.sync.SyncEnd.TheVariants as fetched
use Rattle.meta_fetcher.specs.declared.view.View.{View}
use Rattle.group_planner.proofs.GroupLaws.{one_answer}
use Rattle.group_planner.specs.Groups.{AreGroups}
use Rattle.group_planner.specs.Members.{ulids_of}
use Rattle.group_planner.specs.Plans.{IsPlan}
use Rattle.group_planner.specs.declared.group.Group.{Group}
use Rattle.compactor.specs.FoundNames.{expired_at, names_of}
use Rattle.compactor.specs.Marking.{details_of, marking}
use Rattle.compactor.specs.NewMarks.{new_mark_text}
use Rattle.compactor.specs.declared.reason.Reason.{Reason}
use Rattle.compactor.specs.declared.reason.Reason.TheVariants.{Covered, Compacted, Expired}
use Rattle.compactor.specs.Merges.{IsMerging}
use Rattle.compactor.specs.Named.{named_segments}
use Rattle.compactor.specs.Reading.{after_index, read_at, reads, reads_block, reads_blocks, reads_segments}
use Rattle.compactor.specs.declared.input.Input.{Input}
use Rattle.compactor.specs.declared.input.Read.{Read}
use Rattle.compactor.specs.declared.merging.Merging.{Merging}
use Rattle.compactor.specs.declared.merging.Merging.TheVariants as merging_is
use Rattle.compactor.specs.Compactions.{CompactRun, after_merge, after_upload, compacting, compacting_groups, last_number, merging, metas_of, read_ends, rounds, sync_rules}
use Rattle.compactor.specs.NewBlocks.{block_objects, new_ulid}
use Rattle.compactor.specs.declared.compact_end.CompactEnd.{CompactEnd}
use Rattle.compactor.specs.declared.compact_end.CompactEnd.TheVariants as compact
use Rattle.lifecycle_core.specs.CompactionOps.{HasSynced, ReadsObject, WasRead}
use Rattle.lifecycle_core.proofs.activities.CompactionSoFar.{AreRead, inputs_more, object_more, object_now, segments_and, synced_more}
use Rattle.base.proofs.Membership.{contains_first, contains_later}
use Rattle.base.proofs.Pairs.{AllZip-push}
use Rattle.lifecycle_core.proofs.misses.RoundEnds.{EndsIn, both_are, by_rounds, by_sync, ends_in, noting_are}

-- ---- what is shown

-- blocks that the view keeps were read whole, and one of them is refused
pub record IsRefusedMerge (rules : Rules) (own : List Entry) (number : ℕ) : Type 0 where
  pub view : View
  pub synced : HasSynced rules own view
  pub groups : List Group
  pub grouped : AreGroups rules.replicas (metas_of view.kept) groups
  pub group : Group
  pub among : Contains groups group
  pub metas : List Meta
  pub planned : IsPlan group.members metas
  pub inputs : List Input
  pub read : AllZip (WasRead own) metas inputs
  pub ulid : ℕ
  pub refused : IsMerging rules.replicas ulid group.labels inputs (merging_is.Refused number)

pub data IsHarm (rules : Rules) (own : List Entry) (number : ℕ) : Type 0 where
  -- the index that was read last names no segments
  no_index : (front : List Entry) (e : Entry) (ulid : ℕ) (bytes : List ℕ) → own ≡ front ++ e ∷ [] → e.op ≡ op.Get (key.Index ulid) → e.reply ≡ reply.Found bytes → named_segments bytes ≡ None → IsHarm rules own number
  no_merge : IsRefusedMerge rules own number → IsHarm rules own number
  -- the last look found the meta of a new block, right behind the read that names it
  stands_already : (front : List Entry) (last e : Entry) (bytes : List ℕ) → own ≡ (front ++ last ∷ []) ++ e ∷ [] → e.op ≡ op.Get (key.Meta (new_ulid last.seq last.moment)) → e.reply ≡ reply.Found bytes → IsHarm rules own number

-- it is the last of the entries
abbrev IsLast : List Entry → Entry → Type 0
IsLast made last = (front : List Entry) × (made ≡ front ++ last ∷ [])

abbrev Any : Entry → Type 0
Any e = Unit {0}

abbrev Shown : Rules → List Entry → CompactEnd → Type 0
Shown rules made (compact.Done collected compacted expired) = Unit {0}
Shown rules made (compact.Fault number) = Unit {0}
Shown rules made (compact.Missing number) = Unit {0}
Shown rules made (compact.Damaged number) = IsHarm rules made number
Shown rules made compact.TooMany = Unit {0}
Shown rules made compact.TooLarge = Unit {0}

abbrev Ends : Rules → List Entry → Plan CompactEnd → Type 0
Ends rules made plan = EndsAre Any (Shown rules) made plan

module _ (rules : Rules) (view : View) where
  abbrev Goes : Plan CompactEnd → Type 0
  Goes next = (made : List Entry) → HasSynced rules made view → Ends rules made next

  -- ---- marks

  marks_end : (reason : Reason) (put : ℕ) (ulids : List ℕ) (next : ℕ → Plan CompactEnd) (made : List Entry) → ((more : ℕ) → Goes (next more)) → HasSynced rules made view → Ends rules made (marking compact.Fault reason put ulids next)
  marks_end reason put [] next made on s = on put made s
  marks_end reason put (ulid ∷ ulids) next made on s =
      gets_are Any (Shown rules) made compact.Fault (key.Mark ulid)
      (λ e bytes. marking compact.Fault reason put ulids next)
      (λ e. puts compact.Fault (key.Mark ulid) (new_mark_text ulid e.moment (details_of reason)) (λ stored. marking compact.Fault reason (put + 1) ulids next))
      (λ e bytes is given found. marks_end reason put ulids next (made ++ e ∷ []) on (synced_more rules view made e s))
      (λ e is given absent. puts_are Any (Shown rules) (made ++ e ∷ []) compact.Fault (key.Mark ulid) (new_mark_text ulid e.moment (details_of reason)) (λ stored. marking compact.Fault reason (put + 1) ulids next)
      (λ stored is given replied. marks_end reason (put + 1) ulids next ((made ++ e ∷ []) ++ stored ∷ []) on (synced_more rules view (made ++ e ∷ []) stored (synced_more rules view made e s)))
      (λ stored is given failed. tt))
      (λ e is given failed. tt)

  -- ---- reads

  reads_end : (k : Key) (next : Entry → List ℕ → Plan CompactEnd) (made : List Entry) → ((e : Entry) (bytes : List ℕ) → e.op ≡ op.Get k → e.reply ≡ reply.Found bytes → Ends rules (made ++ e ∷ []) (next e bytes)) → Ends rules made (reads read_ends k next)
  reads_end k next made on =
      gets_are Any (Shown rules) made compact.Fault k next (λ e. ends (compact.Missing e.seq)) (λ e bytes is given found. on e bytes is found) (λ e is given absent. tt) (λ e is given failed. tt)

  -- what stays true as more is read
  abbrev Stays : (List Entry → Type 0) → Type 0
  Stays K = (made : List Entry) (e : Entry) → K made → K (made ++ e ∷ [])

  module _ (ulid : ℕ) (K : List Entry → Type 0) (stays : Stays K) (all : ℕ) (next : List Read → Entry → Plan CompactEnd)
      (rest : (made : List Entry) (segments : List Read) (last : Entry) → K made → AreRead made ulid segments → length segments ≡ all → IsLast made last → Ends rules made (next segments last)) where
    segments_end : (more : ℕ) (segments : List Read) (last : Entry) (made : List Entry) → more + length segments ≡ all → K made → AreRead made ulid segments → IsLast made last → Ends rules made (reads_segments read_ends ulid more segments last next)
    segments_end zero segments last made count k were is = rest made segments last k were (omega (arith, count)) is
    segments_end (suc more) segments last made count k were is =
        reads_end (key.Segment ulid (length segments + 1)) (λ e bytes. reads_segments read_ends ulid more (segments ++ read_at e bytes ∷ []) e next) made
        (λ e bytes asks found.
        segments_end more (segments ++ read_at e bytes ∷ []) e (made ++ e ∷ []) (counted more segments (read_at e bytes) count) (stays made e k) (segments_and made e ulid segments bytes asks found were) (made, refl))
      where
        counted : (more : ℕ) (segments : List Read) (one : Read) → suc more + length segments ≡ all → more + length (segments ++ one ∷ []) ≡ all
        counted more segments one is = omega (arith, is, length-append segments (one ∷ []))

  module _ (meta : Meta) (K : List Entry → Type 0) (stays : Stays K) (next : Input → Entry → Plan CompactEnd)
      (rest : (made : List Entry) (input : Input) (last : Entry) → K made → WasRead made meta input → IsLast made last → Ends rules made (next input last)) where
    abbrev Behind : Entry → List ℕ → List Entry → Type 0
    Behind e bytes made = K made × ReadsObject made (key.Index meta.ulid) (read_at e bytes)

    index_end : (e : Entry) (bytes : List ℕ) (named : Option ℕ) (made : List Entry) → named_segments bytes ≡ named → Behind e bytes made → IsLast made e → e.op ≡ op.Get (key.Index meta.ulid) → e.reply ≡ reply.Found bytes
        → Ends rules made (after_index read_ends meta e bytes named next)
    index_end e bytes None made is b last asks found = no_index last.0 e meta.ulid bytes last.1 asks found is
    index_end e bytes (Some count) made is b last asks found =
        segments_end meta.ulid (Behind e bytes) (λ made x b. (stays made x b.0, object_more made x (key.Index meta.ulid) (read_at e bytes) b.1)) count (λ segments last. next (record { meta = meta; index = read_at e bytes; segments = segments }) last)
        (λ now segments later b were long at.
        rest now (record { meta = meta; index = read_at e bytes; segments = segments }) later b.0
        (record { meta_is = refl; index = b.1; named = is ∙ ap (λ (n : ℕ). Some n) (sym long); segments = were }) at)
        count [] e made (omega arith) b (λ place one none. absurd (cc (none))) last

    block_end : (made : List Entry) → K made → Ends rules made (reads_block read_ends meta next)
    block_end made k =
        reads_end (key.Index meta.ulid) (λ e bytes. after_index read_ends meta e bytes (named_segments bytes) next) made
        (λ e bytes asks found. index_end e bytes (named_segments bytes) (made ++ e ∷ []) refl (stays made e k, object_now made e (key.Index meta.ulid) bytes asks found) (made, refl) asks found)

  module _ (all : List Meta) (next : List Input → Entry → Plan CompactEnd)
      (rest : (made : List Entry) (inputs : List Input) (last : Entry) → HasSynced rules made view → AllZip (WasRead made) all inputs → IsLast made last → Ends rules made (next inputs last)) where
    abbrev With : List Meta → List Input → List Entry → Type 0
    With done inputs made = HasSynced rules made view × AllZip (WasRead made) done inputs

    blocks_end : (metas done : List Meta) (inputs : List Input) (last : Entry) (made : List Entry) → done ++ metas ≡ all → With done inputs made → IsLast made last → Ends rules made (reads_blocks read_ends inputs last metas next)
    blocks_end [] done inputs last made are w at = rest made inputs last w.0 (subst (λ (ms : List Meta). AllZip (WasRead made) ms inputs) (sym (append-nil done) ∙ are) w.1) at
    blocks_end (meta ∷ metas) done inputs last made are w at =
        block_end meta (With done inputs) (λ made e w. (synced_more rules view made e w.0, inputs_more made e done inputs w.1)) (λ input e. reads_blocks read_ends (inputs ++ input ∷ []) e metas next)
        (λ now input later w was at. blocks_end metas (done ++ meta ∷ []) (inputs ++ input ∷ []) later now (append_assoc done (meta ∷ []) metas ∙ are) (w.0, AllZip-push (WasRead now) done inputs meta input w.1 was) at)
        made w

  -- ---- the upload

  abbrev Uploads : Plan CompactEnd → List Entry → UploadEnd → Type 0
  Uploads next made end = (noted : Option ℕ) → Ends rules made (after_upload next (end, noted))

  already_end : (next : Plan CompactEnd) (front : List Entry) (last e : Entry) (bytes : List ℕ) (noted : Option ℕ) → e.op ≡ op.Get (key.Meta (new_ulid last.seq last.moment)) → e.reply ≡ reply.Found bytes
      → Ends rules ((front ++ last ∷ []) ++ e ∷ []) (after_upload next (shipped.Already, noted))
  already_end next front last e bytes None asks found = tt
  already_end next front last e bytes (Some look) asks found = stands_already front last e bytes refl asks found

  putting_end : (next : Plan CompactEnd) (total : ℕ) (objects : List Object) (made : List Entry) → Goes next → HasSynced rules made view → EndsAre Any (Uploads next) made (putting total objects)
  putting_end next total [] made on s = λ noted. on made s
  putting_end next total (object ∷ objects) made on s =
      puts_are Any (Uploads next) made shipped.Fault object.key object.bytes (λ e. putting total objects)
      (λ e is given stored. putting_end next total objects (made ++ e ∷ []) on (synced_more rules view made e s))
      (λ e is given failed noted. tt)

  upload_end : (next : Plan CompactEnd) (front : List Entry) (last : Entry) (objects : List Object) → Goes next → HasSynced rules (front ++ last ∷ []) view → EndsAre Any (Uploads next) (front ++ last ∷ []) (upload (new_ulid last.seq last.moment) objects)
  upload_end next front last objects on s =
      gets_are Any (Uploads next) (front ++ last ∷ []) shipped.Fault (key.Meta (new_ulid last.seq last.moment)) (λ e bytes. ends shipped.Already) (λ e. putting (length objects) objects)
      (λ e bytes is given found noted. already_end next front last e bytes noted is found)
      (λ e is given absent. putting_end next (length objects) objects ((front ++ last ∷ []) ++ e ∷ []) on (synced_more rules view (front ++ last ∷ []) e s))
      (λ e is given failed noted. tt)

  -- ---- the groups

  module _ (groups : List Group) (are : AreGroups rules.replicas (metas_of view.kept) groups) (group : Group) (among : Contains groups group) (next : Plan CompactEnd) (on : Goes next) where
    merge_end : (metas : List Meta) (made : List Entry) (inputs : List Input) (last : Entry) (becomes : Merging) → IsPlan group.members metas → HasSynced rules made view → AllZip (WasRead made) metas inputs → IsLast made last
        → IsMerging rules.replicas (new_ulid last.seq last.moment) group.labels inputs becomes → Ends rules made (after_merge (new_ulid last.seq last.moment) (ulids_of metas) next becomes)
    merge_end metas made inputs last (merging_is.Merged block) planned s read at is =
        let marks : Plan CompactEnd = marking compact.Fault Compacted 0 (ulids_of metas) (λ put. next) in
        let ulid = new_ulid last.seq last.moment in
        let goes : Goes marks = λ now t. marks_end Compacted 0 (ulids_of metas) (λ put. next) now (λ more later u. on later u) t in
        let uploaded = upload_end marks at.0 last (block_objects ulid block) goes (subst (λ es. HasSynced rules es view) at.1 s) in
        both_are (Shown rules) (noting last_number None (upload ulid (block_objects ulid block))) (after_upload marks) made
        (noting_are (λ all told. Ends rules all (after_upload marks told)) last_number None made (upload ulid (block_objects ulid block))
        (subst (λ es. EndsAre Any (Uploads marks) es (upload ulid (block_objects ulid block))) (sym at.1) uploaded))
    merge_end metas made inputs last (merging_is.Refused number) planned s read at is =
        no_merge (record {
          view = view;
          synced = s;
          groups = groups;
          grouped = are;
          group = group;
          among = among;
          metas = metas;
          planned = planned;
          inputs = inputs;
          read = read;
          ulid = new_ulid last.seq last.moment;
          refused = is;
        })
    merge_end metas made inputs last merging_is.TooLarge planned s read at is = tt

    group_end : (unplanned : Plan CompactEnd) (plan : List Meta) (made : List Entry) → IsPlan group.members plan → Goes unplanned → HasSynced rules made view → Ends rules made (compacting rules.replicas group.labels unplanned next plan)
    group_end unplanned [] made planned off s = off made s
    group_end unplanned (first ∷ metas) made planned off s =
        let merges : List Input → Entry → Plan CompactEnd = λ inputs last. merging rules.replicas group.labels (ulids_of (first ∷ metas)) next inputs last.seq last.moment in
        block_end first (λ now. HasSynced rules now view) (λ now e t. synced_more rules view now e t) (λ input e. reads_blocks read_ends (input ∷ []) e metas merges)
        (λ now input later t was at.
        blocks_end (first ∷ metas) merges (λ then inputs last u read end. λ becomes is. merge_end (first ∷ metas) then inputs last becomes planned u read end is)
        metas (first ∷ []) (input ∷ []) later now refl (t, (was, tt)) at)
        made s

  module _ (groups : List Group) (are : AreGroups rules.replicas (metas_of view.kept) groups) where
    groups_end : (compacted : ℕ) (left : List Group) (next : ℕ → Plan CompactEnd) (made : List Entry) → ((g : Group) → Contains left g → Contains groups g) → ((all : ℕ) → Goes (next all)) → HasSynced rules made view
        → Ends rules made (compacting_groups rules.replicas compacted left next)
    groups_end compacted [] next made inside on s = on compacted made s
    groups_end compacted (group ∷ left) next made inside on s = λ plan is.
        group_end groups are group (inside group (contains_first group left)) (compacting_groups rules.replicas (compacted + 1) left next)
        (λ now t. groups_end (compacted + 1) left next now (λ g among. inside g (contains_later group g left among)) on t)
        (compacting_groups rules.replicas compacted left next) plan made is
        (λ now t. groups_end compacted left next now (λ g among. inside g (contains_later group g left among)) on t) s

  rounds_end : (made : List Entry) → HasSynced rules made view → Ends rules made (rounds rules.replicas rules.retention view)
  rounds_end made s =
      let gone : List ℕ = names_of (expired_at rules.retention view.begin view.kept) in
      marks_end Covered 0 (names_of view.covered) (λ collected. finds (AreGroups rules.replicas (metas_of view.kept)) (one_answer rules.replicas (metas_of view.kept)) (λ groups.
      compacting_groups rules.replicas 0 groups (λ compacted. marking compact.Fault Expired 0 gone (λ expired. ends (compact.Done collected compacted expired))))) made
      (λ collected now t groups are. groups_end groups are 0 groups (λ compacted. marking compact.Fault Expired 0 gone (λ expired. ends (compact.Done collected compacted expired))) now (λ g among. among)
      (λ compacted then u. marks_end Expired 0 gone (λ expired. ends (compact.Done collected compacted expired)) then (λ expired last v. tt) u) t) s

-- ---- the whole

module _ (rules : Rules) (entries : List Entry) (number : ℕ) where
  -- of its sync, or of what is done with its view
  pub data HasHarm : Type 0 where
    in_sync : (own others : List Entry) → entries ≡ own ++ others → SyncRun (sync_rules rules) own (Some (fetched.Damaged number)) → HasHarm
    in_rounds : IsHarm rules entries number → HasHarm

  of_end : EndsIn rules entries (compact.Damaged number) → HasHarm
  of_end (by_sync own others (fetched.View view) same first is) = absurd is
  of_end (by_sync own others (fetched.Fault n) same first is) = absurd (cc (is))
  of_end (by_sync own others (fetched.Damaged n) same first is) =
      let one : n ≡ number = cc (is) in in_sync own others same (subst (λ (m : ℕ). SyncRun (sync_rules rules) own (Some (fetched.Damaged m))) one first)
  of_end (by_sync own others fetched.TooMany same first is) = absurd (cc (is))
  of_end (by_rounds own others view same first run) =
      let s : HasSynced rules own view = record { sync = own; others = []; parts = sym (append-nil own); run = first } in
      in_rounds (subst (λ es. IsHarm rules es number) (sym same)
      (end_is Any (Shown rules) (rounds rules.replicas rules.retention view) own others (compact.Damaged number) (rounds_end rules view own s) (nothing_given others) run))

  pub harm_shown : CompactRun rules entries (Some (compact.Damaged number)) → HasHarm
  harm_shown run = of_end (ends_in rules entries (compact.Damaged number) run)
