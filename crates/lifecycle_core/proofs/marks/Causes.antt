-- Why the marks of a journal were put.
use Rattle.base.proofs.Membership.{contains_first, member_of_any, member_passes, of_filter, of_map, only_member}
use Rattle.std.proofs.Common.{◌≡◌, ◌⊎◌, inl, inr, ℕ, ◌<◌, ◌≤◌, ◌^◌, ◌==◌, ℤ, true, ◌&&◌, List, [], ◌∷◌, ◌++◌, length, Contains, Option, Some, None, refl, sym, ◌∙◌, ap, subst, append_assoc, arith}
use Rattle.std.specs.Prelude.{int_lt, nat_lt, pos, ◌+ℤ◌, ◌<ℤ◌}
use Rattle.std.specs.Ordering.{int_eq}
use Rattle.std.specs.Bool.{IsTrue}
use Rattle.std.proofs.lemmas.Bool.{and_parts, or_cases}
use Rattle.std.proofs.lemmas.Bool.Decides.{Decides-int_eq, nat_tests}
use Rattle.std.proofs.lemmas.Int.{ints}
use Rattle.std.proofs.lemmas.List.Elements.{All-contains, Contains-append_cases, Contains-append_left}
use Rattle.block_keys.specs.declared.key.Key.TheVariants as key
use Rattle.block_meta.specs.MetaFields.{MetaFields, fields_of}
use Rattle.block_meta.specs.MetaReading.{meta_of_text}
use Rattle.block_meta.specs.MetaValue.{meta_text}
use Rattle.block_meta.specs.OfBlocks.{block_meta}
use Rattle.block_meta.specs.declared.meta.Meta.{Meta}
use Rattle.moment_core.specs.declared.moment.Moment.{Moment}
use Rattle.moment_core.specs.declared.span.Span.{Span}
use Rattle.world_core.specs.Standing.{IsHonest, has_landed}
use Rattle.world_core.specs.declared.op.Op.TheVariants as op
use Rattle.world_core.specs.declared.reply.Reply.TheVariants as reply
use Rattle.world_core.specs.declared.entry.Entry.{Entry}
use Rattle.sync_filters.specs.Filters.{has_all, has_more, is_better, is_covered, is_expired}
use Rattle.sync_filters.specs.declared.found.Found.{Found}
use Rattle.sync_filters.proofs.HolderLaws.{has_source}
use Rattle.meta_fetcher.specs.Sightings.{passed_by}
use Rattle.compactor.specs.Compactions.{metas_of, sync_rules}
use Rattle.lifecycle_core.specs.CompactionOps.{HasMerged, IsMarkMade, IsObjectMade, IsReason, WasCompacted, compacted, covered, expired}
use Rattle.lifecycle_core.specs.Sights.{IsSeen, IsSight}
use Rattle.lifecycle_core.proofs.activities.CompactionGroups.{plan_among, named_is}
use Rattle.script_core.specs.Lawful.{IsLawfulScript}
use Rattle.lifecycle_core.specs.Completed.{IsCompletedAt, IsExpired}
use Rattle.world_core.specs.Journals.{of_seat}
use Rattle.lifecycle_core.specs.Marked.{HasBetterBefore, IsBetter, IsMarkedFor}
use Rattle.lifecycle_core.specs.PutBlocks.{WasPutBefore}
use Rattle.lifecycle_core.specs.Setting.{Setting}
use Rattle.lifecycle_core.specs.TimeRules.{PutsMark}
use Rattle.lifecycle_core.proofs.blocks.Known.{put_is_complete, read_put as meta_put, sound_put}
use Rattle.lifecycle_core.proofs.blocks.NewMetas.{IsSound, named_again, new_read, new_ulid_is, new_whole, source_in}
use Rattle.lifecycle_core.proofs.blocks.Objects.{object, object_is}
use Rattle.lifecycle_core.proofs.blocks.PlanMembers.{member_within}
use Rattle.lifecycle_core.proofs.blocks.PlanPairs.{merged_other}
use Rattle.lifecycle_core.proofs.deeds.Orders.{IsEarlier, front_is_earlier, in_seat}
use Rattle.lifecycle_core.proofs.deeds.Sources.{put_is_small}
use Rattle.lifecycle_core.proofs.deeds.Stood.{found_stands, stood}
use Rattle.lifecycle_core.proofs.deeds.Words.{AreDeeds}
use Rattle.lifecycle_core.proofs.journals.Positions.{stands_in}
use Rattle.lifecycle_core.proofs.journals.Rising.{journal_rises}
use Rattle.lifecycle_core.proofs.journals.Standing.{parted}
use Rattle.lifecycle_core.proofs.journals.Told.{Rises}
use Rattle.lifecycle_core.proofs.marks.Better.{fewer_or_same, none_within}
use Rattle.lifecycle_core.proofs.marks.Looks.{WasLookedAt, looked_at}
use Rattle.lifecycle_core.proofs.marks.Reasons.{kept_seen, seen_by_more, sight}

-- ---- what a better block is

more_of : (one other : Meta) → has_more one other ≡ true → (length other.sources < length one.sources) ⊎ ((length other.sources ≡ length one.sources) × (one.ulid < other.ulid))
more_of one other is = elim (or_cases (nat_lt (length other.sources) (length one.sources)) _ is) [
  | inl more ↦ inl (grind (arith, nat_tests, more))
  | inr same ↦
      let both = and_parts (length one.sources == length other.sources) (nat_lt one.ulid other.ulid) same in
      let equal = both.0 in
      let less = both.1 in
      inr (sym (grind (arith, nat_tests, equal)), grind (arith, nat_tests, less))
]

better_is : (one other : Meta) → is_better one other ≡ true → IsBetter (fields_of one) (fields_of other)
better_is one other is =
    let last = and_parts (int_eq one.resolution (pos 0) && int_eq other.resolution (pos 0) && has_more one other) (has_all one.sources other.sources) is in
    let third = and_parts (int_eq one.resolution (pos 0) && int_eq other.resolution (pos 0)) (has_more one other) last.0 in
    let first = and_parts (int_eq one.resolution (pos 0)) (int_eq other.resolution (pos 0)) third.0 in
    record {
      whole = (Decides-int_eq one.resolution (pos 0)).0 first.0;
      also = (Decides-int_eq other.resolution (pos 0)).0 first.1;
      all = λ source. has_source one.sources other.sources source last.1;
      more = more_of one other third.1;
    }

-- ---- what had expired

later_sum : (a : ℤ) (m n : ℕ) → m ≤ n → int_lt a (pos m) ≡ true → a <ℤ pos n
later_sum a m n late less = grind (arith, ints, late, less)

expired_at_look : (o : Option Span) (meta : Meta) (begin look : Moment) → begin.ms ≤ look.ms → is_expired meta o begin ≡ true → IsExpired o (fields_of meta) look
expired_at_look None meta begin look late is = absurd (cc (is))
expired_at_look (Some span) meta begin look late is =
    let both = and_parts (int_eq meta.resolution (pos 0)) (int_lt (meta.max_time +ℤ pos span.ms) (pos begin.ms)) is in
    ((Decides-int_eq meta.resolution (pos 0)).0 both.0, later_sum (meta.max_time +ℤ pos span.ms) begin.ms look.ms late both.1)

-- ---- a compaction's mark

module _ (setting : Setting) (journal : List Entry) (lawful : IsLawfulScript setting.script) (deeds : AreDeeds setting journal) (honest : IsHonest journal) (before after : List Entry) (e : Entry) (parts : journal ≡ before ++ e ∷ after) (ulid second : ℕ)
    (marks : PutsMark ulid second e) where
  rises : Rises journal
  rises = journal_rises setting.script.rules.tick.ms journal deeds.kept

  own : List Entry
  own = of_seat e.seat before

  was : WasLookedAt setting journal before e ulid second deeds
  was = looked_at setting journal lawful deeds before after e parts ulid second marks

  abbrev made : IsMarkMade setting.script.rules (of_seat e.seat before) ulid was.bytes
  made = was.made

  abbrev look : Entry
  look = made.look

  -- places
  in_before : (x : Entry) → Contains (of_seat e.seat before) x → Contains before x
  in_before x among = (in_seat e.seat before x among).0

  in_journal : (x : Entry) → Contains before x → Contains journal x
  in_journal x among = subst (λ es. Contains es x) (sym parts) (Contains-append_left before (e ∷ after) x among)

  look_place : journal ≡ was.at.before ++ look ∷ (was.at.after ++ e ∷ after)
  look_place = parts ∙ ap (λ es. es ++ e ∷ after) was.at.parts ∙ append_assoc was.at.before (look ∷ was.at.after) (e ∷ after)

  look_in : Contains before look
  look_in = subst (λ es. Contains es look) (sym was.at.parts) (stands_in was.at.before was.at.after look)

  -- what stands among its own entries, and is not the look, is before it
  is_before_look : (x : Entry) → Contains (of_seat e.seat before) x → (x ≡ look → ⊥) → IsEarlier x look
  is_before_look x among other = elim (Contains-append_cases made.front (look ∷ []) x (subst (λ es. Contains es x) made.parts among)) [
    | inl first ↦
        let inside : Contains was.at.before x = (in_seat e.seat was.at.before x (subst (λ es. Contains es x) (sym was.at.own) first)).0 in
        front_is_earlier was.at.before (was.at.after ++ e ∷ after) look x (subst Rises look_place rises) inside
    | inr last ↦ absurd (other (sym (only_member look x last)))
  ]

  -- ---- complete blocks

  record IsWhole (u : ℕ) (meta : MetaFields) (number : ℕ) : Type 0 where
    seq : ℕ
    completed : IsCompletedAt journal u seq meta
    earlier : seq < number

  put_whole : (u : ℕ) (bytes : List ℕ) (meta : MetaFields) (number : ℕ) → WasPutBefore journal (key.Meta u) bytes number → block_meta u bytes ≡ Some meta → IsWhole u meta number
  put_whole u bytes meta number put reads =
      let c = put_is_complete setting journal lawful deeds honest u number bytes put in
      let same : c.1 ≡ meta = cc (c.4, reads) in
      record { seq = c.0; completed = subst (IsCompletedAt journal u c.0) same c.2; earlier = c.3 }

  read_put : (x : Entry) → Contains journal x → (u : ℕ) → u < 2 ^ 128 → (bytes : List ℕ) → x.op ≡ op.Get (key.Meta u) → x.reply ≡ reply.Found bytes → WasPutBefore journal (key.Meta u) bytes x.seq
  read_put x among u small bytes asks shows =
      let at = parted journal x among in
      let last = stood setting journal lawful deeds at.0 (x ∷ at.1) at.2 (key.Meta u) small tt bytes (found_stands setting journal at.0 at.1 x honest at.2 (key.Meta u) bytes asks shows) in
      let inside : Contains at.0 last.put = subst (λ es. Contains es last.put) (sym last.parts) (stands_in last.front last.back last.put) in
      let early : IsEarlier last.put x = front_is_earlier at.0 at.1 x last.put (subst Rises at.2 rises) inside in
      (last.put, subst (λ es. Contains es last.put) (sym at.2) (Contains-append_left at.0 (x ∷ at.1) last.put inside), last.puts.0, last.puts.1, early.0)

  read_in : (f : Found) (s : IsSeen (of_seat e.seat before) f) → Contains (of_seat e.seat before) s.read
  read_in f s =
      subst (λ es. Contains es s.read) (sym s.parts)
      (subst (λ es. Contains es s.read) (append_assoc s.front (s.looked ∷ s.middle) (s.read ∷ s.back)) (stands_in (s.front ++ s.looked ∷ s.middle) s.back s.read))

  -- a block that the compaction saw was complete before the look
  seen_whole : (f : Found) → IsSeen (of_seat e.seat before) f → IsWhole f.ulid (fields_of f.meta) look.seq
  seen_whole f s =
      let inside : Contains (of_seat e.seat before) s.read = read_in f s in
      let no_look : s.read ≡ look → ⊥ = λ same. let ops : op.Get (key.Meta f.ulid) ≡ op.Get (key.Mark ulid) = sym s.asks_meta ∙ ap (λ (x : Entry). x.op) same ∙ made.asks in cc (ops) in
      let early = is_before_look s.read inside no_look in
      let w = put_whole f.ulid s.bytes (fields_of f.meta) s.read.seq (read_put s.read (in_journal s.read (in_before s.read inside)) f.ulid s.small s.bytes s.asks_meta s.shows) s.meta_is in
      record { seq = w.seq; completed = w.completed; earlier = omega (arith, w.earlier, early.0) }

  -- so the mark has its cause
  marked_for : (f : Found) → IsSeen (of_seat e.seat before) f → f.ulid ≡ ulid → HasBetterBefore journal (fields_of f.meta) look.seq ⊎ IsExpired setting.script.rules.retention (fields_of f.meta) look.moment → IsMarkedFor setting journal ulid second e
  marked_for f s name cause =
      let w = seen_whole f s in
      let early : IsEarlier look e = front_is_earlier before after e look (subst Rises parts rises) look_in in
      record {
        look = look;
        looked = in_journal look look_in;
        same = (in_seat e.seat before look (subst (λ es. Contains es look) (sym made.parts) (stands_in made.front [] look))).1;
        before = early.0;
        asks = made.asks;
        absent = made.absent;
        from = was.from;
        upto = was.upto;
        seq = w.seq;
        meta = fields_of f.meta;
        completed = subst (λ (u : ℕ). IsCompletedAt journal u w.seq (fields_of f.meta)) name w.completed;
        earlier = w.earlier;
        cause = cause;
      }

  better_before : (meta : MetaFields) (u : ℕ) (better : MetaFields) → IsWhole u better look.seq → IsBetter better meta → HasBetterBefore journal meta look.seq
  better_before meta u better w is = record { ulid = u; seq = w.seq; better = better; completed = w.completed; earlier = w.earlier; is = is }

  -- ---- the reasons

  saw : IsSight (sync_rules setting.script.rules) made.synced.sync made.view
  saw = sight setting.script.rules (of_seat e.seat before) made.view made.synced

  passed_seen : (f : Found) → Contains (passed_by (sync_rules setting.script.rules) saw.found) f → IsSeen (of_seat e.seat before) f
  passed_seen f among =
      let found = of_filter _ saw.found f (of_filter _ _ f (of_filter _ _ f among)) in
      subst (λ es. IsSeen es f) (sym made.synced.parts) (seen_by_more made.synced.sync made.synced.others f (All-contains (IsSeen made.synced.sync) saw.found f saw.seen found))

  by_cover : (f : Found) → Contains made.view.covered f → f.ulid ≡ ulid → IsMarkedFor setting journal ulid second e
  by_cover f among name =
      let passed = passed_by (sync_rules setting.script.rules) saw.found in
      let inside = subst (λ fs. Contains fs f) saw.covered among in
      let test = member_passes (is_covered passed) passed f inside in
      let o = member_of_any (λ (other : Found). is_better other.meta f.meta) passed test in
      marked_for f (passed_seen f (of_filter (is_covered passed) passed f inside)) name
      (inl (better_before (fields_of f.meta) o.0.ulid (fields_of o.0.meta) (seen_whole o.0 (passed_seen o.0 o.1)) (better_is o.0.meta f.meta o.2)))

  -- the sync began before the look
  first_own : Contains (of_seat e.seat before) saw.first
  first_own = subst (λ es. Contains es saw.first) (sym (made.synced.parts ∙ ap (λ es. es ++ made.synced.others) saw.are)) (contains_first saw.first (saw.others ++ made.synced.others))

  begun : made.view.begin.ms ≤ look.moment.ms
  begun =
      let begin : made.view.begin.ms ≡ saw.first.moment.ms = ap (λ (m : Moment). m.ms) saw.begin in
      elim (Contains-append_cases made.front (look ∷ []) saw.first (subst (λ es. Contains es saw.first) made.parts first_own)) [
        | inl inside ↦
            let among : Contains was.at.before saw.first = (in_seat e.seat was.at.before saw.first (subst (λ es. Contains es saw.first) (sym was.at.own) inside)).0 in
            let early : IsEarlier saw.first look = front_is_earlier was.at.before (was.at.after ++ e ∷ after) look saw.first (subst Rises look_place rises) among in
            omega (arith, begin, early.1)
        | inr last ↦
            let same : look.moment.ms ≡ saw.first.moment.ms = ap (λ (x : Entry). x.moment.ms) (only_member look saw.first last) in
            omega (arith, begin, same)
      ]

  -- ---- a block that others were compacted into

  module _ (was : WasCompacted setting.script.rules (of_seat e.seat before) made.view ulid) where
    abbrev new : IsObjectMade setting.script.rules was.upto (key.Meta was.new) was.text
    new = was.made

    abbrev merged : HasMerged setting.script.rules new.view new.read new.ulid new.block
    merged = new.merged

    abbrev text : List ℕ
    text = meta_text (fields_of (new.block).meta)

    abbrev more : List Entry
    more = new.look ∷ (new.puts ++ was.put ∷ was.later)

    own_parts : of_seat e.seat before ≡ new.read ++ more
    own_parts = was.parts ∙ ap (λ es. es ++ was.put ∷ was.later) new.parts ∙ append_assoc new.read (new.look ∷ new.puts) (was.put ∷ was.later)

    kept_of : (m : Meta) → Contains merged.metas m → (f : Found) × Contains (new.view).kept f × (f.meta ≡ m)
    kept_of m among =
        let member = plan_among (merged.group).members merged.metas merged.planned m among in
        let own_meta = member_within setting.script.rules.replicas (metas_of (new.view).kept) merged.groups merged.grouped merged.group merged.among m member in
        of_map (λ (b : Found). b.meta) (new.view).kept m own_meta

    seen : (f : Found) → Contains (new.view).kept f → IsSeen (of_seat e.seat before) f
    seen f among = subst (λ es. IsSeen es f) (sym own_parts) (seen_by_more new.read more f (kept_seen setting.script.rules new.read new.view merged.synced f among))

    sound : (f : Found) → Contains (new.view).kept f → IsSound (fields_of f.meta)
    sound f among =
        let s = seen f among in
        let at = parted journal s.read (in_journal s.read (in_before s.read (read_in f s))) in
        let p = meta_put setting journal lawful deeds honest at.0 at.1 s.read at.2 f.ulid s.small s.bytes s.asks_meta s.shows in
        let q = sound_put setting journal lawful deeds honest p.front p.back p.put p.at f.ulid s.bytes p.puts in
        let same : q.meta ≡ fields_of f.meta = let both = sym q.read ∙ s.meta_is in cc (both) in
        subst IsSound same q.sound

    inputs : (m : Meta) → Contains merged.metas m → IsSound (fields_of m)
    inputs m among = let f = kept_of m among in subst (λ (x : Meta). IsSound (fields_of x)) f.2 (sound f.0 f.1)

    own_is : (was.new ≡ new.ulid) × (was.text ≡ text)
    own_is = object_is new.ulid (new.block).segments (new.block).index text (key.Meta was.new) was.text (subst (λ os. Contains os (object (key.Meta was.new) was.text)) (sym new.objects) (stands_in new.done new.left (object (key.Meta was.new) was.text)))

    put_in : Contains (of_seat e.seat before) was.put
    put_in = subst (λ es. Contains es was.put) (sym was.parts) (stands_in was.upto was.later was.put)

    small : was.new < 2 ^ 128
    small = let at = parted journal was.put (in_journal was.put (in_before was.put put_in)) in put_is_small setting journal deeds at.0 at.1 was.put at.2 lawful (key.Meta was.new) was.text was.puts

    reads : block_meta was.new was.text ≡ Some (fields_of (new.block).meta)
    reads =
        let again = new_read setting.script.rules new.view new.read new.ulid new.block merged (subst (λ (u : ℕ). u < 2 ^ 128) own_is.0 small) inputs in
        named_again was.new (meta_of_text was.text) (fields_of (new.block).meta) (ap meta_of_text own_is.1 ∙ again) (new_ulid_is setting.script.rules new.view new.read new.ulid new.block merged ∙ sym own_is.0)

    new_whole_before : IsWhole was.new (fields_of (new.block).meta) look.seq
    new_whole_before =
        let no_look : was.put ≡ look → ⊥ = λ same. let ops : op.Put (key.Meta was.new) was.text ≡ op.Get (key.Mark ulid) = sym was.puts ∙ ap (λ (x : Entry). x.op) same ∙ made.asks in cc (ops) in
        let early = is_before_look was.put put_in no_look in
        put_whole was.new was.text (fields_of (new.block).meta) look.seq
        (was.put, in_journal was.put (in_before was.put put_in), was.puts, subst (λ r. IsTrue (has_landed r)) (sym was.stored) refl, early.0) reads

    -- it has the sources of each input, and another one's too
    has_sources : (u : ℕ) (m : Meta) → Contains merged.metas m → Contains m.sources u → Contains (new.block).meta.sources u
    has_sources u m among inside = source_in setting.script.rules new.view new.read new.ulid new.block merged u m among inside

    has_others : (m : Meta) → Contains merged.metas m → (f : Found) → Contains (new.view).kept f → f.meta ≡ m → f.meta.sources ≡ (new.block).meta.sources → ⊥
    has_others m among f kept same all =
        let o = merged_other setting.script.rules new.view new.read new.ulid new.block merged m among in
        let g = kept_of o.0 o.1 in
        none_within (sync_rules setting.script.rules) (merged.synced).sync new.view (sight setting.script.rules new.read new.view merged.synced) f g.0 kept g.1 (sound f kept).whole (sound g.0 g.1).whole
        (λ ulids. o.2 (sym (ap (λ (x : Meta). x.ulid) g.2) ∙ ulids ∙ ap (λ (x : Meta). x.ulid) same))
        (λ u inside. subst (λ us. Contains us u) (sym all) (has_sources u o.0 o.1 (subst (λ (x : Meta). Contains x.sources u) g.2 inside)))

    by_compaction : IsMarkedFor setting journal ulid second e
    by_compaction =
        let m = was.input.0 in
        let among = was.input.1 in
        let f = kept_of m among in
        let s = seen f.0 f.1 in
        let own_ulid : (f.0).meta.ulid ≡ (f.0).ulid = named_is (f.0).ulid (meta_of_text s.bytes) (fields_of (f.0).meta) s.meta_is in
        let within : (u : ℕ) → Contains (f.0).meta.sources u → Contains (new.block).meta.sources u = λ u inside. has_sources u m among (subst (λ (x : Meta). Contains x.sources u) f.2 inside) in
        let more_sources : length (f.0).meta.sources < length (new.block).meta.sources = elim (fewer_or_same (f.0).meta.sources (new.block).meta.sources (f.0).meta.distinct (new.block).meta.distinct within) [
          | inl fewer ↦ fewer
          | inr same ↦ absurd (has_others m among f.0 f.1 f.2 same)
        ] in
        let better : IsBetter (fields_of (new.block).meta) (fields_of (f.0).meta) = record {
          whole = new_whole setting.script.rules new.view new.read new.ulid new.block merged;
          also = (sound f.0 f.1).whole;
          all = within;
          more = inl more_sources;
        } in
        marked_for f.0 s (sym own_ulid ∙ ap (λ (x : Meta). x.ulid) f.2 ∙ was.input.2)
        (inl (better_before (fields_of (f.0).meta) was.new (fields_of (new.block).meta) new_whole_before better))

  by_reason : IsReason setting.script.rules (of_seat e.seat before) made.view ulid → IsMarkedFor setting journal ulid second e
  by_reason (covered among) = let f = of_map (λ (b : Found). b.ulid) made.view.covered ulid among in by_cover f.0 f.1 f.2
  by_reason (expired f kept old) =
      marked_for f (kept_seen setting.script.rules (of_seat e.seat before) made.view made.synced f kept.0) kept.1 (inr (expired_at_look setting.script.rules.retention f.meta made.view.begin look.moment begun old))
  by_reason (compacted was) = by_compaction was

  the_cause : IsMarkedFor setting journal ulid second e
  the_cause = by_reason made.reason

pub mark_cause : (setting : Setting) (journal : List Entry) → IsLawfulScript setting.script → AreDeeds setting journal → IsHonest journal → (before after : List Entry) (e : Entry) → journal ≡ before ++ e ∷ after
    → (ulid second : ℕ) → PutsMark ulid second e → IsMarkedFor setting journal ulid second e
mark_cause setting journal lawful deeds honest before after e parts ulid second marks = the_cause setting journal lawful deeds honest before after e parts ulid second marks
