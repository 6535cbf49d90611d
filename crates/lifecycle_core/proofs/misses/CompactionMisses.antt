-- Why a compaction misses an object.
use Rattle.base.proofs.Membership.{contains_later, into_filter, member_cases, no_member}
use Rattle.std.proofs.Common.{◌≡◌, ◌⊎◌, inl, inr, ℕ, ◌+◌, ◌<◌, ◌≤◌, ◌/◌, ◌^◌, ◌==◌, true, List, [], ◌∷◌, ◌++◌, length, Contains, Some, refl, sym, ◌∙◌, ap, subst, append_assoc, arith}
use Rattle.std.specs.Prelude.{slice_get}
use Rattle.std.proofs.lemmas.Bool.Decides.{nat_tests}
use Rattle.std.proofs.lemmas.List.Elements.{All-contains, Contains-append_cases, Contains-append_left, Contains-append_right}
use Rattle.std.proofs.lemmas.Option.{slice_get_cases}
use Rattle.block_keys.specs.Keys.{IsLawfulKey, key_ulid}
use Rattle.block_keys.specs.declared.key.Key.{Key}
use Rattle.block_keys.specs.declared.key.Key.TheVariants as key
use Rattle.block_meta.specs.MetaFields.{MetaFields}
use Rattle.compactor.specs.Named.{named_segments}
use Rattle.world_core.specs.Standing.{IsHonest}
use Rattle.world_core.specs.Worlds.{IsOfBytes}
use Rattle.world_core.specs.declared.op.Op.TheVariants as op
use Rattle.world_core.specs.declared.reply.Reply.TheVariants as reply
use Rattle.world_core.specs.declared.entry.Entry.{Entry}
use Rattle.sync_filters.specs.declared.found.Found.{Found}
use Rattle.compactor.specs.Compactions.{CompactRun}
use Rattle.compactor.specs.declared.compact_end.CompactEnd.TheVariants as compacting
use Rattle.script_core.specs.Lawful.{IsLawfulScript}
use Rattle.lifecycle_core.specs.CompactionOps.{IsCompactOp, IsInputRead}
use Rattle.lifecycle_core.specs.Sights.{IsSeen}
use Rattle.lifecycle_core.proofs.activities.CompactionAsks.{compaction_op}
use Rattle.lifecycle_core.specs.Acting.{IsReading}
use Rattle.lifecycle_core.specs.Breaches.{Rule, Watch, honesty, read_key, read_time, upload_time, watched_compaction}
use Rattle.lifecycle_core.specs.Causes.{IsBlamedInCompaction, IsExplainedBy}
use Rattle.world_core.specs.Journals.{of_seat}
use Rattle.lifecycle_core.specs.PutBlocks.{WasPutBefore}
use Rattle.lifecycle_core.specs.Setting.{Setting}
use Rattle.lifecycle_core.specs.TimeRules.{IsBlockObject, PutsObject}
use Rattle.lifecycle_core.proofs.blocks.NamedSegments.{named_within}
use Rattle.lifecycle_core.proofs.blocks.Contents.{IsHeldWhole, complete_holds}
use Rattle.lifecycle_core.proofs.blocks.Known.{put_is_complete}
use Rattle.lifecycle_core.proofs.deeds.Fronts.{deeds_front, front_compacts}
use Rattle.lifecycle_core.proofs.deeds.Orders.{StandsWhole, front_is_earlier, in_seat, stands_whole}
use Rattle.lifecycle_core.proofs.deeds.Stood.{found_stands, stood}
use Rattle.lifecycle_core.proofs.deeds.Words.{AreDeeds, Compacts}
use Rattle.lifecycle_core.proofs.journals.Positions.{stands_in}
use Rattle.lifecycle_core.proofs.journals.Rising.{journal_rises}
use Rattle.lifecycle_core.proofs.journals.Standing.{parted, the_entry}
use Rattle.lifecycle_core.proofs.journals.Told.{Rises}
use Rattle.lifecycle_core.proofs.marks.Reasons.{kept_seen}
use Rattle.lifecycle_core.proofs.misses.Deleted.{input_is_found}
use Rattle.lifecycle_core.proofs.misses.Refused.{HasRefused, honest_or, timely_or, within_or}
use Rattle.lifecycle_core.proofs.phases.TasksMade.{part_filter, part_whole}
use Rattle.lifecycle_core.proofs.misses.RoundEnds.{IsOwed, ShowsMissing, owed_index, owed_segment}
use Rattle.lifecycle_core.proofs.misses.RoundMisses.{compaction_misses}

-- ---- an index names no segment that its block has not

segment_there : (segments : List (List ℕ)) (place : ℕ) → place < length segments → (segment : List ℕ) × (slice_get segments place ≡ Some segment)
segment_there segments place below = elim (slice_get_cases segments place).1 [ inl c ↦ (c.0, c.2) | inr c ↦ absurd (omega (arith, below, c.0)) ]

-- ---- a compaction's last entry

module _ (setting : Setting) (journal : List Entry) (lawful : IsLawfulScript setting.script) (deeds : AreDeeds setting journal) (of_bytes : IsOfBytes journal) (seat number : ℕ) (compacts : Compacts (deeds.deed seat))
    (run : CompactRun setting.script.rules (of_seat seat journal) (Some (compacting.Missing number))) where
  shows : ShowsMissing (of_seat seat journal) number
  shows = compaction_misses setting.script.rules (of_seat seat journal) number run

  abbrev e : Entry
  e = shows.missed

  at : StandsWhole seat journal shows.front e
  at = stands_whole seat journal shows.front [] e shows.are

  rises : Rises journal
  rises = journal_rises setting.script.rules.tick.ms journal deeds.kept

  own_seat : e.seat ≡ seat
  own_seat = (in_seat seat journal e (subst (λ (es : List Entry). Contains es e) (sym shows.are) (stands_in shows.front [] e))).1

  -- the journal up to it
  abbrev upto : List Entry
  upto = at.before ++ e ∷ []

  whole : journal ≡ upto ++ at.after
  whole = at.parts ∙ sym (append_assoc at.before (e ∷ []) at.after)

  moved : (d : AreDeeds setting (upto ++ at.after)) × Compacts (d.deed seat)
  moved = subst (λ (es : List Entry). (d : AreDeeds setting es) × Compacts (d.deed seat)) whole (deeds, compacts)

  abbrev deeds_upto : AreDeeds setting upto
  deeds_upto = deeds_front setting upto at.after moved.0

  compacts_upto : Compacts (deeds_upto.deed e.seat)
  compacts_upto = subst (λ (n : ℕ). Compacts (deeds_upto.deed n)) (sym own_seat) (front_compacts setting upto at.after moved.0 seat moved.1)

  bytes_upto : IsOfBytes upto
  bytes_upto before after x is = of_bytes before (after ++ at.after) x (whole ∙ ap (λ (es : List Entry). es ++ at.after) is ∙ append_assoc before (x ∷ after) at.after)

  abbrev watch : Watch
  watch = watched_compaction journal seat

  early : (x : Entry) → Contains upto x → x.seq ≤ number
  early x among = elim (Contains-append_cases at.before (e ∷ []) x among) [
    | inl before ↦ let less = front_is_earlier at.before at.after e x (subst Rises at.parts rises) before in omega (arith, less.0, shows.is)
    | inr last ↦ elim (member_cases e x [] last) [ inl same ↦ let equal : e.seq ≡ x.seq = ap (λ (z : Entry). z.seq) same in omega (arith, equal, shows.is) | inr none ↦ absurd (no_member x none) ]
  ]

  numbered : number ≡ length at.before + 1
  numbered = sym shows.is ∙ deeds.kept.numbered at.before at.after e at.parts

  -- what is to be blamed
  explains : (k : Key) → read_key e.op ≡ Some k → (rule : Rule) (Is : Entry → Type 0) → ((x : Entry) → Is x → IsBlamedInCompaction e (key_ulid k) rule x) → HasRefused setting watch upto rule Is
      → IsExplainedBy setting watch IsBlamedInCompaction journal number
  explains k reads rule Is blames r = record {
    missed = e;
    key = k;
    at = the_entry journal at.before at.after e number at.parts numbered;
    reads = reads;
    absent = shows.absent;
    rule = rule;
    before = r.before;
    entry = r.entry;
    after = r.after ++ at.after;
    x = r.x;
    y = r.y;
    parts = whole ∙ ap (λ (es : List Entry). es ++ at.after) r.parts ∙ append_assoc r.before (r.entry ∷ r.after) at.after;
    early = early r.entry (subst (λ (es : List Entry). Contains es r.entry) (sym r.parts) (stands_in r.before r.after r.entry));
    refused = r.refused;
    blamed = blames r.entry r.is;
  }

  -- its reads are in time, or this one is late
  in_time_or : IsReading e.op → ((one : Entry) → Contains (of_seat seat journal) one → e.moment.ms ≤ one.moment.ms + setting.script.rules.delete.ms / 2) ⊎ HasRefused setting watch upto read_time (λ (x : Entry). x.seat ≡ e.seat)
  in_time_or reading = by (of_seat seat journal) refl
    where
      late : (first : Entry) (others : List Entry) → of_seat seat journal ≡ first ∷ others → first.moment.ms + setting.script.rules.delete.ms / 2 < e.moment.ms → HasRefused setting watch upto read_time (λ (x : Entry). x.seat ≡ e.seat)
      late first others are over = record {
        before = at.before;
        entry = e;
        after = [];
        x = e.moment.ms;
        y = first.moment.ms + setting.script.rules.delete.ms / 2;
        parts = refl;
        refused = (first.moment, (own_seat, reading, (first, others, are, refl)), (refl, refl, over));
        is = refl;
      }

      since : (first : Entry) (others : List Entry) → Rises (first ∷ others) → (one : Entry) → Contains (first ∷ others) one → first.moment.ms ≤ one.moment.ms
      since first others up one among = elim (member_cases first one others among) [
        | inl same ↦ let equal : first.moment.ms ≡ one.moment.ms = ap (λ (z : Entry). z.moment.ms) same in omega (arith, equal)
        | inr later ↦ (All-contains (λ (z : Entry). (first.seq < z.seq) × (first.moment.ms ≤ z.moment.ms)) others one up.0 later).1
      ]

      own_rises : Rises (of_seat seat journal)
      own_rises = (part_filter journal (λ (x : Entry). x.seat == seat) journal (part_whole journal rises)).rises

      by : (own : List Entry) → of_seat seat journal ≡ own → ((one : Entry) → Contains (of_seat seat journal) one → e.moment.ms ≤ one.moment.ms + setting.script.rules.delete.ms / 2) ⊎ HasRefused setting watch upto read_time (λ (x : Entry). x.seat ≡ e.seat)
      by [] are = inl (λ one among. absurd (no_member one (subst (λ (es : List Entry). Contains es one) are among)))
      by (first ∷ others) are = elim (within_or e.moment.ms (first.moment.ms + setting.script.rules.delete.ms / 2)) [
        | inl low ↦ inl (λ one among. let s = since first others (subst Rises are own_rises) one (subst (λ (es : List Entry). Contains es one) are among) in omega (arith, low, s))
        | inr over ↦ inr (late first others are over)
      ]

  -- ---- where all is honest

  module _ (honest : IsHonest upto) where
    here : upto ≡ at.before ++ e ∷ []
    here = refl

    seat_before : of_seat e.seat at.before ≡ shows.front
    seat_before = ap (λ (n : ℕ). of_seat n at.before) own_seat ∙ at.own

    asked : IsCompactOp setting.script.rules (of_seat e.seat at.before) e.op
    asked = subst (λ (es : List Entry). IsCompactOp setting.script.rules es e.op) (sym seat_before)
        (compaction_op setting.script.rules shows.front e [] (Some (compacting.Missing number)) (subst (λ (es : List Entry). CompactRun setting.script.rules es (Some (compacting.Missing number))) shows.are run))

    -- the block that is read is complete
    module _ (ulid : ℕ) (input : IsInputRead setting.script.rules (of_seat e.seat at.before) ulid) where
      abbrev found : Found
      found = input.found

      seen : IsSeen (of_seat e.seat at.before) found
      seen = kept_seen setting.script.rules (of_seat e.seat at.before) input.view input.synced found input.kept.0

      read_own : Contains (of_seat e.seat at.before) seen.read
      read_own = subst (λ (es : List Entry). Contains es seen.read) (sym seen.parts)
          (Contains-append_right seen.front (seen.looked ∷ (seen.middle ++ seen.read ∷ seen.back)) seen.read (contains_later seen.looked seen.read (seen.middle ++ seen.read ∷ seen.back) (stands_in seen.middle seen.back seen.read)))

      in_upto : (x : Entry) → Contains (of_seat e.seat at.before) x → Contains upto x
      in_upto x among = Contains-append_left at.before (e ∷ []) x (in_seat e.seat at.before x among).0

      -- what an own entry found was put before
      was_put : (x : Entry) (k : Key) (bytes : List ℕ) → Contains (of_seat e.seat at.before) x → key_ulid k < 2 ^ 128 → IsLawfulKey k → x.op ≡ op.Get k → x.reply ≡ reply.Found bytes → WasPutBefore upto k bytes x.seq
      was_put x k bytes among small written asks shown =
          let place = parted upto x (in_upto x among) in
          let holds = found_stands setting upto place.0 place.1 x honest place.2 k bytes asks shown in
          let last = stood setting upto lawful deeds_upto place.0 (x ∷ place.1) place.2 k small written bytes holds in
          let inside : Contains place.0 last.put = subst (λ (es : List Entry). Contains es last.put) (sym last.parts) (stands_in last.front last.back last.put) in
          let less = front_is_earlier place.0 place.1 x last.put (subst Rises place.2 (journal_rises setting.script.rules.tick.ms upto deeds_upto.kept)) inside in
          (last.put, subst (λ (es : List Entry). Contains es last.put) (sym place.2) (Contains-append_left place.0 (x ∷ place.1) last.put inside), last.puts.0, last.puts.1, less.0)

      small : ulid < 2 ^ 128
      small = subst (λ (n : ℕ). n < 2 ^ 128) input.kept.1 seen.small

      record IsHeldInput : Type 0 where
        seq : ℕ
        meta : MetaFields
        holds : IsHeldWhole setting upto ulid seq meta

      held : IsHeldInput
      held =
          let put = was_put seen.read (key.Meta ulid) seen.bytes read_own small tt (subst (λ (n : ℕ). seen.read.op ≡ op.Get (key.Meta n)) input.kept.1 seen.asks_meta) seen.shows in
          let c = put_is_complete setting upto lawful deeds_upto honest ulid seen.read.seq seen.bytes put in
          record { seq = c.0; meta = c.1; holds = complete_holds setting upto lawful deeds_upto bytes_upto honest ulid c.0 c.1 c.2 }

      found_or : (k : Key) → key_ulid k ≡ ulid → IsBlockObject k → e.op ≡ op.Get k → (bytes : List ℕ) → WasPutBefore upto k bytes held.seq → IsReading e.op → IsExplainedBy setting watch IsBlamedInCompaction journal number
      found_or k own object asks bytes put reading = elim (timely_or setting watch upto (key_ulid k)) [
        | inr r ↦ explains k (ap read_key asks) upload_time (PutsObject (key_ulid k)) (λ x is. is) r
        | inl timely ↦ elim (in_time_or reading) [
          | inr r ↦ explains k (ap read_key asks) read_time (λ (x : Entry). x.seat ≡ e.seat) (λ x is. is) r
          | inl quick ↦
              absurd (input_is_found setting upto lawful deeds_upto honest at.before [] e here k object bytes held.seq (ap read_key asks) timely compacts_upto
              (subst (IsInputRead setting.script.rules (of_seat e.seat at.before)) (sym own) input) put
              (λ one among. quick one (into_whole one among)) shows.absent)
        ]
      ]
        where
          into_whole : (one : Entry) → Contains (of_seat e.seat upto) one → Contains (of_seat seat journal) one
          into_whole one among =
              let o = in_seat e.seat upto one among in
              let inside : Contains journal one = subst (λ (es : List Entry). Contains es one) (sym whole) (Contains-append_left upto at.after one o.0) in
              let test : (one.seat == seat) ≡ true = let s = o.1 in grind (arith, nat_tests, s, own_seat) in
              into_filter (λ (z : Entry). z.seat == seat) journal one inside test

    explained : IsOwed shows.front e → IsExplainedBy setting watch IsBlamedInCompaction journal number
    explained (owed_index ulid asks) =
        let input : IsInputRead setting.script.rules (of_seat e.seat at.before) ulid = subst (IsCompactOp setting.script.rules (of_seat e.seat at.before)) asks asked in
        let h = held ulid input in
        found_or ulid input (key.Index ulid) refl tt asks h.holds.files.index h.holds.put.index (subst IsReading (sym asks) tt)
    explained (owed_segment ulid place asks one among index bytes shown count named below) =
        let input : IsInputRead setting.script.rules (of_seat e.seat at.before) ulid = subst (IsCompactOp setting.script.rules (of_seat e.seat at.before)) asks asked in
        let h = held ulid input in
        let put = was_put ulid input one (key.Index ulid) bytes (subst (λ (es : List Entry). Contains es one) (sym seat_before) among) (small ulid input) tt index shown in
        let same : bytes ≡ h.holds.files.index = h.holds.put.one_index bytes one.seq put in
        let few = named_within h.holds.files h.holds.list h.holds.content h.holds.bytes count (subst (λ (b : List ℕ). named_segments b ≡ Some count) same named) in
        let s = segment_there h.holds.files.segments place (omega (arith, few, below)) in
        found_or ulid input (key.Segment ulid (place + 1)) refl tt asks s.0 (h.holds.put.segments place s.0 s.1) (subst IsReading (sym asks) tt)

  -- Its last entry found nothing. If the front up to it is honest, its block was uploaded in time and no read of the compaction came too
  -- late, then the object was never put, and what was read before named it: that is a lie; or it stands.
  miss : IsExplainedBy setting watch IsBlamedInCompaction journal number
  miss = elim (honest_or setting watch upto deeds_upto.kept bytes_upto) [
    | inl honest ↦ explained honest shows.owed
    | inr r ↦ by shows.owed r
  ]
    where
      by : IsOwed shows.front e → HasRefused setting watch upto honesty (λ x. Unit {0}) → IsExplainedBy setting watch IsBlamedInCompaction journal number
      by (owed_index ulid asks) r = explains (key.Index ulid) (ap read_key asks) honesty (λ x. Unit {0}) (λ x is. tt) r
      by (owed_segment ulid place asks one among index bytes shown count named below) r = explains (key.Segment ulid (place + 1)) (ap read_key asks) honesty (λ x. Unit {0}) (λ x is. tt) r

pub compaction_miss : (setting : Setting) (journal : List Entry) → IsLawfulScript setting.script → (deeds : AreDeeds setting journal) → IsOfBytes journal → (seat number : ℕ) → Compacts (deeds.deed seat)
    → CompactRun setting.script.rules (of_seat seat journal) (Some (compacting.Missing number)) → IsExplainedBy setting (watched_compaction journal seat) IsBlamedInCompaction journal number
compaction_miss setting journal lawful deeds of_bytes seat number compacts run = miss setting journal lawful deeds of_bytes seat number compacts run
