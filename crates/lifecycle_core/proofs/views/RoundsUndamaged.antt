-- No compaction of an honest journal finds bytes or names that are not of the form.
use Rattle.base.proofs.Membership.{contains_later, contains_place, into_filter, member_cases, no_member, of_map}
use Rattle.base.proofs.Pairs.{AllZip-first}
use Rattle.base.proofs.Lists.{slice_get-below}
use Rattle.std.proofs.Common.{◌≡◌, inl, inr, ℕ, zero, suc, ◌+◌, ◌<◌, ◌≤◌, ◌^◌, ◌==◌, true, List, [], ◌∷◌, ◌++◌, length, map, Contains, Some, None, sym, ◌∙◌, ap, subst, append_assoc, arith}
use Rattle.std.specs.Prelude.{slice_get}
use Rattle.std.proofs.lemmas.Bool.Decides.{nat_tests}
use Rattle.std.proofs.lemmas.List.{length-append}
use Rattle.std.proofs.lemmas.List.Elements.{Contains-append_cases, Contains-append_left, Contains-append_right}
use Rattle.block_keys.specs.Keys.{key_ulid}
use Rattle.block_keys.specs.declared.key.Key.{Key}
use Rattle.block_keys.specs.declared.key.Key.TheVariants as key
use Rattle.block_meta.specs.Built.{objects_of}
use Rattle.block_meta.specs.MetaFields.{MetaFields, fields_of}
use Rattle.block_meta.specs.MetaReading.{meta_of_text}
use Rattle.block_meta.specs.MetaValue.{meta_text}
use Rattle.block_meta.specs.declared.meta.Meta.{Meta}
use Rattle.block_content.specs.Content.{IsContent}
use Rattle.block_content.specs.ContentRefusals.{RefusesContent}
use Rattle.block_content.specs.declared.check_refusal.CheckRefusal.{CheckRefusal}
use Rattle.block_content.proofs.ContentLaws.{content_again, content_refuses}
use Rattle.block_meta.specs.declared.block_files.BlockFiles.{BlockFiles}
use Rattle.sync_filters.specs.declared.found.Found.{Found}
use Rattle.meta_fetcher.specs.declared.view.View.{View}
use Rattle.compactor.specs.Inputs.{IsInput}
use Rattle.compactor.specs.declared.input.Input.{Input}
use Rattle.compactor.specs.declared.input.Read.{Read}
use Rattle.compactor.specs.Named.{last_named, named_segments}
use Rattle.world_core.specs.Operations.{IsLawful}
use Rattle.world_core.specs.Standing.{IsHonest}
use Rattle.world_core.specs.Worlds.{IsOfBytes}
use Rattle.world_core.specs.declared.op.Op.TheVariants as op
use Rattle.world_core.specs.declared.reply.Reply.TheVariants as reply
use Rattle.world_core.specs.declared.entry.Entry.{Entry}
use Rattle.compactor.specs.Compactions.{CompactRun, metas_of, sync_rules}
use Rattle.compactor.specs.NewBlocks.{new_ulid}
use Rattle.compactor.specs.declared.compact_end.CompactEnd.TheVariants as compact
use Rattle.script_core.specs.Lawful.{IsLawfulScript}
use Rattle.script_fields.specs.Values.{is_reserved}
use Rattle.lifecycle_core.specs.CompactionOps.{HasSynced, IsCompactOp, IsInputRead, IsObjectMade, ReadsObject, WasRead}
use Rattle.lifecycle_core.specs.Sights.{IsSeen}
use Rattle.lifecycle_core.proofs.activities.CompactionAsks.{compaction_op}
use Rattle.lifecycle_core.proofs.activities.CompactionGroups.{plan_among, named_is}
use Rattle.world_core.specs.Journals.{of_seat}
use Rattle.lifecycle_core.specs.PutBlocks.{WasPutBefore}
use Rattle.lifecycle_core.specs.Setting.{Setting}
use Rattle.lifecycle_core.proofs.blocks.Contents.{IsHeldWhole, complete_holds}
use Rattle.lifecycle_core.proofs.blocks.Declared.{declared_lawful, declared_ulid}
use Rattle.lifecycle_core.proofs.blocks.Known.{put_is_complete}
use Rattle.lifecycle_core.proofs.blocks.NamedSegments.{named_some}
use Rattle.lifecycle_core.proofs.blocks.Objects.{object_is, object_ulid}
use Rattle.lifecycle_core.proofs.blocks.PlanMembers.{member_within}
use Rattle.lifecycle_core.proofs.blocks.ReadAgain.{named_last, read_content}
use Rattle.lifecycle_core.proofs.deeds.Orders.{front_is_earlier, in_seat, one_entry, stands_whole}
use Rattle.lifecycle_core.proofs.deeds.Sources.{IsSource, by_compaction, by_upload, new_small, object_source}
use Rattle.lifecycle_core.proofs.deeds.Stood.{found_stands, stood}
use Rattle.lifecycle_core.proofs.deeds.Words.{AreDeeds}
use Rattle.lifecycle_core.proofs.journals.Positions.{stands_in}
use Rattle.lifecycle_core.proofs.journals.Rising.{journal_rises}
use Rattle.lifecycle_core.proofs.journals.Standing.{parted}
use Rattle.lifecycle_core.proofs.journals.Told.{Rises}
use Rattle.lifecycle_core.proofs.marks.Reasons.{kept_seen}
use Rattle.lifecycle_core.proofs.misses.RoundHarm.{HasHarm, IsHarm, IsRefusedMerge, harm_shown, in_rounds, in_sync, no_index, no_merge, stands_already}
use Rattle.lifecycle_core.proofs.views.Undamaged.{syncs_undamaged, was_put_before}
use Rattle.lifecycle_core.proofs.blocks.OneKey.{reserved_new, same_number}

mapped : {A B : Type 0} (g : A → B) (xs : List A) (place : ℕ) (x : A) → slice_get xs place ≡ Some x → slice_get (map g xs) place ≡ Some (g x)
mapped g [] place x at = absurd (cc (at))
mapped g (y ∷ xs) zero x at = let same : y ≡ x = cc (at) in ap (λ z. Some (g z)) same
mapped g (y ∷ xs) (suc place) x at = mapped g xs place x at

module _ (setting : Setting) (journal : List Entry) (lawful : IsLawfulScript setting.script) (deeds : AreDeeds setting journal) (of_bytes : IsOfBytes journal) (honest : IsHonest journal) where
  rising : Rises journal
  rising = journal_rises setting.script.rules.tick.ms journal deeds.kept

  number_low : (x : Entry) → Contains journal x → (1 ≤ x.seq) × (x.seq ≤ 2 ^ 20)
  number_low x among =
      let at = parted journal x among in
      let number = deeds.kept.numbered at.0 at.1 x at.2 in
      (omega (arith, number), omega (arith, number, deeds.kept.few, ap (length {A = Entry}) at.2, length-append at.0 (x ∷ at.1)))

  -- ---- a new block's meta stands nowhere before it is put

  -- it would have been put by the same seat, behind the read that names it
  module _ (before after : List Entry) (e : Entry) (parts : journal ≡ before ++ e ∷ after) (front : List Entry) (last : Entry) (own : of_seat e.seat before ≡ front ++ last ∷ []) where
    last_own : Contains before last × (last.seat ≡ e.seat)
    last_own = in_seat e.seat before last (subst (λ es. Contains es last) (sym own) (stands_in front [] last))

    last_in : Contains journal last
    last_in = subst (λ es. Contains es last) (sym parts) (Contains-append_left before (e ∷ after) last last_own.0)

    -- nothing of the seat before the entry is behind the last one
    none_behind : (x : Entry) → Contains before x → x.seat ≡ e.seat → x.seq ≤ last.seq
    none_behind x among seat =
        let test : (x.seat == e.seat) ≡ true = grind (arith, nat_tests, seat) in
        let l = stands_whole e.seat before front [] last own in
        let here : journal ≡ l.before ++ last ∷ (l.after ++ e ∷ after) = parts ∙ ap (λ es. es ++ e ∷ after) l.parts ∙ append_assoc l.before (last ∷ l.after) (e ∷ after) in
        elim (Contains-append_cases front (last ∷ []) x (subst (λ es. Contains es x) own (into_filter (λ (z : Entry). z.seat == e.seat) before x among test))) [
          | inl first ↦
              let inside = (in_seat e.seat l.before x (subst (λ es. Contains es x) (sym l.own) first)).0 in
              let less = front_is_earlier l.before (l.after ++ e ∷ after) last x (subst Rises here rising) inside in omega (arith, less.0)
          | inr rest ↦ elim (member_cases last x [] rest) [ inl same ↦ omega (arith, ap (λ (z : Entry). z.seq) same) | inr none ↦ absurd (no_member x none) ]
        ]

    module _ (p : Entry) (pf pb : List Entry) (bytes : List ℕ) (place : journal ≡ pf ++ p ∷ pb) (inside : Contains before p) where
      not_made : IsObjectMade setting.script.rules (of_seat p.seat pf) (key.Meta (new_ulid last.seq last.moment)) bytes → ⊥
      not_made m =
          let one = (m.merged).last in
          let one_own = subst (λ es. Contains es one) (sym m.parts) (Contains-append_left m.read (m.look ∷ m.puts) one (subst (λ es. Contains es one) (sym (m.merged).ends) (stands_in (m.merged).front [] one))) in
          let one_before = in_seat p.seat pf one one_own in
          let one_in : Contains journal one = subst (λ es. Contains es one) (sym place) (Contains-append_left pf (p ∷ pb) one one_before.0) in
          let one_early = front_is_earlier pf pb p one (subst Rises place rising) one_before.0 in
          let text : List ℕ = meta_text (fields_of (m.block).meta) in
          let all : Contains (objects_of m.ulid (m.block).segments (m.block).index text) (record { key = key.Meta (new_ulid last.seq last.moment); bytes = bytes }) =
          subst (λ os. Contains os (record { key = key.Meta (new_ulid last.seq last.moment); bytes = bytes })) (sym m.objects) (stands_in m.done m.left (record { key = key.Meta (new_ulid last.seq last.moment); bytes = bytes })) in
          let ulid : new_ulid last.seq last.moment ≡ m.ulid =
          object_ulid m.ulid (m.block).segments (m.block).index text (key.Meta (new_ulid last.seq last.moment)) bytes (object_is m.ulid (m.block).segments (m.block).index text (key.Meta (new_ulid last.seq last.moment)) bytes all) in
          let a = number_low last last_in in
          let b = number_low one one_in in
          let number : last.seq ≡ one.seq = same_number last.seq one.seq last.moment.ms one.moment.ms a.0 a.1 b.0 b.1 (ulid ∙ (m.merged).ulid_is) in
          let same : last ≡ one = one_entry journal rising last one last_in one_in number in
          let seat : p.seat ≡ e.seat = sym one_before.1 ∙ sym (ap (λ (z : Entry). z.seat) same) ∙ last_own.1 in
          let low = none_behind p inside seat in
          omega (arith, low, one_early.0, number)

      not_put : IsSource setting (of_seat p.seat pf) (key.Meta (new_ulid last.seq last.moment)) bytes → ⊥
      not_put (by_compaction m) = not_made m
      not_put (by_upload s) =
          let block = (s.is).block in
          let free = (declared_lawful setting (new_ulid last.seq last.moment) block (s.is).is lawful).not_reserved in
          let yes : is_reserved block.ulid ≡ true = ap is_reserved (declared_ulid setting (new_ulid last.seq last.moment) block (s.is).is) ∙ reserved_new last.seq last.moment.ms in
          cc (yes, free)

    stands_nowhere : (bytes : List ℕ) → e.op ≡ op.Get (key.Meta (new_ulid last.seq last.moment)) → e.reply ≡ reply.Found bytes → ⊥
    stands_nowhere bytes asks found =
        let at = parted journal last last_in in
        let small = new_small last.seq last.moment (deeds.kept.small at.0 at.1 last at.2) in
        let holds = found_stands setting journal before after e honest parts (key.Meta (new_ulid last.seq last.moment)) bytes asks found in
        let p = stood setting journal lawful deeds before (e ∷ after) parts (key.Meta (new_ulid last.seq last.moment)) small tt bytes holds in
        let place : journal ≡ p.front ++ p.put ∷ (p.back ++ e ∷ after) = parts ∙ ap (λ es. es ++ e ∷ after) p.parts ∙ append_assoc p.front (p.put ∷ p.back) (e ∷ after) in
        let inside : Contains before p.put = subst (λ es. Contains es p.put) (sym p.parts) (stands_in p.front p.back p.put) in
        not_put p.put p.front (p.back ++ e ∷ after) bytes place inside (object_source setting journal deeds p.front (p.back ++ e ∷ after) p.put place (key.Meta (new_ulid last.seq last.moment)) bytes (p.puts).0 tt)

  -- ---- a compaction's whole seat

  module _ (seat number : ℕ) (run : CompactRun setting.script.rules (of_seat seat journal) (Some (compact.Damaged number))) where
    abbrev own : List Entry
    own = of_seat seat journal

    into_journal : (x : Entry) → Contains own x → Contains journal x
    into_journal x among = (in_seat seat journal x among).0

    -- an index that names no segments
    module _ (front : List Entry) (e : Entry) (ulid : ℕ) (bytes : List ℕ) (is : own ≡ front ++ e ∷ []) (asks : e.op ≡ op.Get (key.Index ulid)) (found : e.reply ≡ reply.Found bytes) where
      input : IsInputRead setting.script.rules front ulid
      input = subst (IsCompactOp setting.script.rules front) asks
          (compaction_op setting.script.rules front e [] (Some (compact.Damaged number)) (subst (λ es. CompactRun setting.script.rules es (Some (compact.Damaged number))) is run))

      seen : IsSeen front input.found
      seen = kept_seen setting.script.rules front input.view input.synced input.found input.kept.0

      read_in : Contains journal seen.read
      read_in =
          let inside = Contains-append_right seen.front (seen.looked ∷ (seen.middle ++ seen.read ∷ seen.back)) seen.read (contains_later seen.looked seen.read (seen.middle ++ seen.read ∷ seen.back) (stands_in seen.middle seen.back seen.read)) in
          let early : Contains front seen.read = subst (λ es. Contains es seen.read) (sym seen.parts) inside in
          into_journal seen.read (subst (λ es. Contains es seen.read) (sym is) (Contains-append_left front (e ∷ []) seen.read early))

      e_in : Contains journal e
      e_in = into_journal e (subst (λ es. Contains es e) (sym is) (stands_in front [] e))

      small : ulid < 2 ^ 128
      small = subst (λ (n : ℕ). n < 2 ^ 128) input.kept.1 seen.small

      names_some : named_segments bytes ≡ None → ⊥
      names_some none =
          let put = was_put_before setting journal lawful deeds honest seen.read (key.Meta ulid) seen.bytes read_in small tt (subst (λ (n : ℕ). seen.read.op ≡ op.Get (key.Meta n)) input.kept.1 seen.asks_meta) seen.shows in
          let c = put_is_complete setting journal lawful deeds honest ulid put.0 seen.bytes put.1 in
          let h = complete_holds setting journal lawful deeds of_bytes honest ulid c.0 c.1 c.2 in
          let index = was_put_before setting journal lawful deeds honest e (key.Index ulid) bytes e_in small tt asks found in
          let same : bytes ≡ h.files.index = h.put.one_index bytes index.0 index.1 in
          let some = named_some h.files h.list h.content h.bytes h.few in
          let told : named_segments bytes ≡ Some some.0 = ap named_segments same ∙ some.1 in
          cc (none, told)

    -- ---- inputs

    -- what was read was put
    object_put : (k : Key) (one : Read) → key_ulid k < 2 ^ 128 → ReadsObject own k one → (number : ℕ) × WasPutBefore journal k one.bytes number
    object_put k one small (e, among, asks, found, is) =
        let inside = into_journal e among in
        let at = parted journal e inside in
        was_put_before setting journal lawful deeds honest e k one.bytes inside small (subst IsLawful asks (deeds.kept.lawful at.0 at.1 e at.2)) asks found

    -- a block that was read as a kept one's holds what that one does
    module _ (view : View) (synced : HasSynced setting.script.rules own view) (f : Found) (kept : Contains view.kept f) (input : Input) (was : WasRead own f.meta input) (block : BlockFiles) (is : IsInput input block) where
      sight : IsSeen own f
      sight = kept_seen setting.script.rules own view synced f kept

      met : Contains journal sight.read
      met =
          let inside = Contains-append_right sight.front (sight.looked ∷ (sight.middle ++ sight.read ∷ sight.back)) sight.read (contains_later sight.looked sight.read (sight.middle ++ sight.read ∷ sight.back) (stands_in sight.middle sight.back sight.read)) in
          into_journal sight.read (subst (λ es. Contains es sight.read) (sym sight.parts) inside)

      name : f.meta.ulid ≡ f.ulid
      name = named_is f.ulid (meta_of_text sight.bytes) (fields_of f.meta) sight.meta_is

      record IsHeldInput : Type 0 where
        seq : ℕ
        meta : MetaFields
        meta_is : meta ≡ fields_of f.meta
        holds : IsHeldWhole setting journal f.ulid seq meta

      held_input : IsHeldInput
      held_input =
          let put = was_put_before setting journal lawful deeds honest sight.read (key.Meta f.ulid) sight.bytes met sight.small tt sight.asks_meta sight.shows in
          let c = put_is_complete setting journal lawful deeds honest f.ulid put.0 sight.bytes put.1 in
          let both : Some c.1 ≡ Some (fields_of f.meta) = sym c.4 ∙ sight.meta_is in
          record { seq = c.0; meta = c.1; meta_is = cc (both); holds = complete_holds setting journal lawful deeds of_bytes honest f.ulid c.0 c.1 c.2 }

      abbrev h : IsHeldWhole setting journal f.ulid held_input.seq held_input.meta
      h = held_input.holds

      index_is : input.index.bytes ≡ h.files.index
      index_is =
          let read : ReadsObject own (key.Index f.ulid) input.index = subst (λ (u : ℕ). ReadsObject own (key.Index u) input.index) name was.index in
          let put = object_put (key.Index f.ulid) input.index sight.small read in
          h.put.one_index input.index.bytes put.0 put.1

      segment_is : (place : ℕ) (one : Read) → slice_get input.segments place ≡ Some one → slice_get h.files.segments place ≡ Some one.bytes
      segment_is place one at =
          let read : ReadsObject own (key.Segment f.ulid (place + 1)) one = subst (λ (u : ℕ). ReadsObject own (key.Segment u (place + 1)) one) name (was.segments place one at) in
          let put = object_put (key.Segment f.ulid (place + 1)) one sight.small read in
          h.put.one_segment place one.bytes put.0 put.1

      count : last_named h.content.indexed ≡ length input.segments
      count = named_last h.files h.list h.content h.bytes (length input.segments) (ap named_segments (sym index_is) ∙ was.named)

      fields : fields_of block.meta ≡ fields_of h.files.meta
      fields = ap fields_of (is.meta ∙ was.meta_is) ∙ sym held_input.meta_is ∙ sym h.meta_is

      there : (place : ℕ) → place < last_named h.content.indexed → (s : List ℕ) × (slice_get block.segments place ≡ Some s) × (slice_get h.files.segments place ≡ Some s)
      there place below =
          let one = slice_get-below input.segments place (omega (arith, below, count)) in
          ((one.0).bytes, ap (λ (ss : List (List ℕ)). slice_get ss place) is.segments ∙ mapped (λ (r : Read). r.bytes) input.segments place one.0 one.1, segment_is place one.0 one.1)

      content : IsContent block h.list
      content = read_content h.files block h.list h.content fields (is.index ∙ index_is) there

      not_refused : (cause : CheckRefusal) → RefusesContent block cause → ⊥
      not_refused cause refuses =
          let good = content_again block is.bytes.index is.bytes.segments h.list content in
          let bad = content_refuses block is.bytes.index is.bytes.segments cause refuses in
          cc (good, bad)

    -- so no input is refused
    merge_undamaged : IsRefusedMerge setting.script.rules own number → ⊥
    merge_undamaged r =
        let given = (r.refused).0 in
        let first = ((r.refused).1).first in
        let i = AllZip-first IsInput r.inputs given.blocks first.member given.read (contains_place given.blocks ((r.refused).1).place first.member first.stands) in
        let w = AllZip-first (WasRead own) r.metas r.inputs i.0 r.read i.1 in
        let member = plan_among (r.group).members r.metas r.planned w.0 w.1 in
        let inside = member_within setting.script.rules.replicas (metas_of (r.view).kept) r.groups r.grouped r.group r.among w.0 member in
        let f = of_map (λ (b : Found). b.meta) (r.view).kept w.0 inside in
        not_refused r.view r.synced f.0 f.1 i.0 (subst (λ (m : Meta). WasRead own m i.0) (sym f.2) w.2) first.member i.2 ((r.refused).1).cause first.bad

    harmless : IsHarm setting.script.rules own number → ⊥
    harmless (no_index front e ulid bytes is asks found none) = names_some front e ulid bytes is asks found none
    harmless (no_merge r) = merge_undamaged r
    harmless (stands_already front last e bytes is asks found) =
        let w = stands_whole seat journal (front ++ last ∷ []) [] e is in
        let sits : e.seat ≡ seat = (in_seat seat journal e (subst (λ es. Contains es e) (sym is) (stands_in (front ++ last ∷ []) [] e))).1 in
        stands_nowhere w.before w.after e w.parts front last (ap (λ (n : ℕ). of_seat n w.before) sits ∙ w.own) bytes asks found

    damage : HasHarm setting.script.rules own number → ⊥
    damage (in_sync one others is synced) =
        syncs_undamaged setting journal lawful deeds honest (sync_rules setting.script.rules) one number (λ x among. into_journal x (subst (λ es. Contains es x) (sym is) (Contains-append_left one others x among))) synced
    damage (in_rounds h) = harmless h

  -- no compaction that is all that its seat did finds damage
  pub compactions_undamaged : (seat number : ℕ) → ¬ CompactRun setting.script.rules (of_seat seat journal) (Some (compact.Damaged number))
  compactions_undamaged seat number run = damage seat number run (harm_shown setting.script.rules (of_seat seat journal) number run)
