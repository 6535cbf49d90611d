-- Why a read of a block that a view keeps finds nothing.
use Rattle.base.proofs.Membership.{contains_later, member_cases, no_member}
use Rattle.base.proofs.Lists.{middle_not_nil}
use Rattle.std.proofs.Common.{◌≡◌, ◌⊎◌, inl, inr, ℕ, ◌+◌, ◌<◌, ◌≤◌, ◌==◌, List, [], ◌∷◌, ◌++◌, Contains, Some, IsTrue, refl, sym, ◌∙◌, ap, subst, append_assoc, arith}
use Rattle.std.proofs.lemmas.List.Elements.{Contains-append_cases, Contains-append_left, Contains-append_right}
use Rattle.block_keys.specs.Keys.{key_ulid}
use Rattle.block_keys.specs.declared.key.Key.{Key}
use Rattle.block_keys.specs.declared.key.Key.TheVariants as key
use Rattle.block_keys.specs.declared.object.Object.{Object}
use Rattle.world_core.specs.Standing.{IsHonest, has_landed}
use Rattle.world_core.specs.Worlds.{IsOfBytes}
use Rattle.world_core.specs.declared.reply.Reply.{Reply}
use Rattle.world_core.specs.declared.reply.Reply.TheVariants as reply
use Rattle.world_core.specs.declared.entry.Entry.{Entry}
use Rattle.sync_filters.specs.declared.found.Found.{Found}
use Rattle.script_core.specs.Lawful.{IsLawfulScript}
use Rattle.script_core.specs.declared.block.Block.{Block}
use Rattle.lifecycle_core.specs.Sights.{IsSeen, IsSight}
use Rattle.lifecycle_core.proofs.activities.SyncSights.{sync_sight}
use Rattle.lifecycle_core.specs.Breaches.{HoldsSamples, Rule, Watch, honesty, mark_time, read_key, upload_time, view_time}
use Rattle.lifecycle_core.specs.Causes.{IsBlamed, IsExplainedUnder}
use Rattle.world_core.specs.Journals.{of_seat}
use Rattle.lifecycle_core.specs.Holdings.{Use}
use Rattle.lifecycle_core.specs.PutBlocks.{WasPutBefore}
use Rattle.lifecycle_core.specs.Setting.{Setting}
use Rattle.lifecycle_core.specs.Shipped.{IsShipped, IsShippedUnder}
use Rattle.lifecycle_core.specs.SyncsAndCalls.{IsViewOf}
use Rattle.lifecycle_core.specs.Tasks.{sync_rules}
use Rattle.lifecycle_core.specs.TimeRules.{IsBlockObject, IsReadInTime, PutsMark, PutsObject}
use Rattle.lifecycle_core.proofs.blocks.Objects.{IsOfSamples}
use Rattle.lifecycle_core.proofs.blocks.OneKey.{not_declared}
use Rattle.lifecycle_core.proofs.blocks.OneShipped.{EndsWithMeta, ends_with_meta}
use Rattle.lifecycle_core.proofs.blocks.Declared.{declared_ulid}
use Rattle.lifecycle_core.proofs.blocks.Readable.{is_readable}
use Rattle.lifecycle_core.proofs.deeds.Fronts.{deeds_front}
use Rattle.lifecycle_core.proofs.deeds.Orders.{IsEarlier, front_is_earlier, in_seat, lower_is_in_front}
use Rattle.lifecycle_core.proofs.deeds.Sources.{IsSource, by_compaction, by_upload, object_source}
use Rattle.lifecycle_core.proofs.deeds.Stood.{WasPutLast, found_stands, stood}
use Rattle.lifecycle_core.proofs.deeds.Words.{AreDeeds, Cleans}
use Rattle.lifecycle_core.proofs.journals.Positions.{split, stands_in}
use Rattle.lifecycle_core.proofs.journals.Rising.{journal_rises}
use Rattle.lifecycle_core.proofs.journals.Standing.{parted, the_entry}
use Rattle.lifecycle_core.proofs.journals.Told.{IsPart, IsShippedObject, Rises}
use Rattle.lifecycle_core.proofs.marks.Reasons.{kept_is_seen}
use Rattle.lifecycle_core.proofs.misses.Deleted.{seen_is_found, undeleted_is_found}
use Rattle.lifecycle_core.proofs.misses.Refused.{HasRefused, honest_or, marked_or, timely_or, within_or}
use Rattle.lifecycle_core.proofs.phases.TasksMade.{part_filter, part_middle, part_whole}
use Rattle.lifecycle_core.proofs.journals.LastNumbers.{within_last}

-- who holds samples is an object of a block
pub is_object : (k : Key) → HoldsSamples k → IsBlockObject k
is_object (key.Meta ulid) holds = tt
is_object (key.Index ulid) holds = tt
is_object (key.Segment ulid number) holds = tt
is_object (key.Mark ulid) holds = absurd holds

-- what is shipped and holds samples is put before the meta
before_the_meta : (ulid : ℕ) (objects : List Object) → EndsWithMeta ulid objects → (done left : List Object) (bytes : List ℕ) → objects ≡ done ++ record { key = key.Meta ulid; bytes = bytes } ∷ left
    → (o : Object) → HoldsSamples o.key → Contains objects o → Contains done o
before_the_meta ulid objects ends done left bytes parts o holds among =
    elim (split ends.front (ends.last ∷ []) done left (record { key = key.Meta ulid; bytes = bytes }) (sym ends.parts ∙ parts)) [
      | inl (rest, here, two) ↦
          let inside : Contains ends.front (record { key = key.Meta ulid; bytes = bytes }) = subst (λ (os : List Object). Contains os (record { key = key.Meta ulid; bytes = bytes })) (sym here) (stands_in done rest (record { key = key.Meta ulid; bytes = bytes })) in
          absurd (ends.other (record { key = key.Meta ulid; bytes = bytes }) inside)
      | inr ([], here, two) ↦
          let rest : left ≡ [] = sym (cc (two)) in
          elim (Contains-append_cases done (record { key = key.Meta ulid; bytes = bytes } ∷ left) o (subst (λ (os : List Object). Contains os o) parts among)) [
            | inl early ↦ early
            | inr late ↦ elim (member_cases (record { key = key.Meta ulid; bytes = bytes }) o left late) [
              | inl same ↦ absurd (subst (λ (x : Object). HoldsSamples x.key) (sym same) holds)
              | inr later ↦ absurd (no_member o (subst (λ (os : List Object). Contains os o) rest later))
            ]
          ]
      | inr (x ∷ more, here, two) ↦ absurd (middle_not_nil more (record { key = key.Meta ulid; bytes = bytes }) left (sym (cc (two))))
    ]

module _ (setting : Setting) (journal : List Entry) (lawful : IsLawfulScript setting.script) (deeds : AreDeeds setting journal) (gateway : ℕ) (used : Use) (sync : List Entry)
    (gave : IsViewOf (sync_rules setting gateway) journal used sync) (found : Found) (kept : Contains used.view.kept found) (before after : List Entry) (e : Entry) (parts : journal ≡ before ++ e ∷ after)
    (behind : used.last < e.seq) (k : Key) (samples : HoldsSamples k) (reads : read_key e.op ≡ Some k) (own : key_ulid k ≡ found.ulid) (absent : e.reply ≡ reply.Absent) where
  -- the journal up to it
  abbrev upto : List Entry
  upto = before ++ e ∷ []

  whole : journal ≡ upto ++ after
  whole = parts ∙ sym (append_assoc before (e ∷ []) after)

  pub deeds_upto : AreDeeds setting upto
  deeds_upto = deeds_front setting upto after (subst (AreDeeds setting) whole deeds)

  pub bytes_upto : IsOfBytes journal → IsOfBytes upto
  bytes_upto of_bytes front back x is = of_bytes front (back ++ after) x (whole ∙ ap (λ (es : List Entry). es ++ after) is ∙ append_assoc front (x ∷ back) after)

  rises : Rises journal
  rises = journal_rises setting.script.rules.tick.ms journal deeds.kept

  rises_upto : Rises upto
  rises_upto = journal_rises setting.script.rules.tick.ms upto deeds_upto.kept

  early : (x : Entry) → Contains upto x → x.seq ≤ e.seq
  early x among = elim (Contains-append_cases before (e ∷ []) x among) [
    | inl first ↦ let less = front_is_earlier before after e x (subst Rises parts rises) first in omega (arith, less.0)
    | inr last ↦ elim (member_cases e x [] last) [ inl same ↦ let equal : e.seq ≡ x.seq = ap (λ (z : Entry). z.seq) same in omega (arith, equal) | inr none ↦ absurd (no_member x none) ]
  ]

  in_upto : (x : Entry) → Contains journal x → x.seq < e.seq → Contains upto x
  in_upto x among less = Contains-append_left before (e ∷ []) x (lower_is_in_front before after e x (subst Rises parts rises) (subst (λ (es : List Entry). Contains es x) parts among) less)

  -- ---- the sync

  pub sees : IsSight (sync_rules setting gateway) sync used.view
  sees = sync_sight (sync_rules setting gateway) sync used.view gave.sync.run

  part : IsPart journal sync
  part =
      let its : IsPart journal (of_seat gave.seat journal) = part_filter journal (λ (x : Entry). x.seat == gave.seat) journal (part_whole journal rises) in
      part_middle journal gave.sync.before sync gave.sync.after (subst (IsPart journal) (gave.sync.parts ∙ append_assoc gave.sync.before sync gave.sync.after) its)

  after_sync : (x : Entry) → Contains sync x → x.seq < e.seq
  after_sync x among = let w = within_last x sync part.rises among in omega (arith, w, gave.last, behind)

  pub part_upto : IsPart upto sync
  part_upto = record { among = λ x among. in_upto x (part.among x among) (after_sync x among); rises = part.rises }

  -- ---- an object with which the block is shipped

  module _ (s : IsShippedUnder setting found.ulid k) (honest : IsHonest upto) where
    abbrev ulid : ℕ
    ulid = found.ulid

    seen : IsSeen sync found
    seen = kept_is_seen (sync_rules setting gateway) sync used.view sees found kept

    read_in : Contains sync seen.read
    read_in = subst (λ (es : List Entry). Contains es seen.read) (sym seen.parts)
        (Contains-append_right seen.front (seen.looked ∷ (seen.middle ++ seen.read ∷ seen.back)) seen.read (contains_later seen.looked seen.read (seen.middle ++ seen.read ∷ seen.back) (stands_in seen.middle seen.back seen.read)))

    read_at : (front : List Entry) × (back : List Entry) × (upto ≡ front ++ seen.read ∷ back)
    read_at = parted upto seen.read (part_upto.among seen.read read_in)

    last : WasPutLast read_at.0 (key.Meta ulid) seen.bytes
    last = stood setting upto lawful deeds_upto read_at.0 (seen.read ∷ read_at.1) read_at.2 (key.Meta ulid) seen.small tt seen.bytes
        (found_stands setting upto read_at.0 read_at.1 seen.read honest read_at.2 (key.Meta ulid) seen.bytes seen.asks_meta seen.shows)

    abbrev put : Entry
    put = last.put

    put_first : IsEarlier put seen.read
    put_first = front_is_earlier read_at.0 read_at.1 seen.read put (subst Rises read_at.2 rises_upto) (subst (λ (es : List Entry). Contains es put) (sym last.parts) (stands_in last.front last.back put))

    put_at : upto ≡ last.front ++ put ∷ (last.back ++ seen.read ∷ read_at.1)
    put_at = read_at.2 ∙ ap (λ (es : List Entry). es ++ seen.read ∷ read_at.1) last.parts ∙ append_assoc last.front (put ∷ last.back) (seen.read ∷ read_at.1)

    its_meta : EndsWithMeta s.block.ulid s.objects
    its_meta = ends_with_meta setting s.block s.block.body s.objects s.shipped

    block_is : s.block.ulid ≡ ulid
    block_is = declared_ulid setting ulid s.block s.is

    shipped_meta : IsShippedObject setting (key.Meta ulid) its_meta.last.bytes
    shipped_meta =
        let same : its_meta.last.key ≡ key.Meta ulid = its_meta.meta ∙ ap key.Meta block_is in
        let among : Contains s.objects its_meta.last = subst (λ (os : List Object). Contains os its_meta.last) (sym its_meta.parts) (stands_in its_meta.front [] its_meta.last) in
        record {
          block = s.block;
          is = s.is;
          objects = s.objects;
          shipped = s.shipped;
          among = subst (Contains s.objects) (λ i. record { key = same i; bytes = its_meta.last.bytes }) among;
        }

    by_source : IsSource setting (of_seat put.seat last.front) (key.Meta ulid) seen.bytes → (bytes : List ℕ) × WasPutBefore upto k bytes e.seq
    by_source (by_compaction m) = absurd (not_declared setting upto lawful deeds_upto last.front (last.back ++ seen.read ∷ read_at.1) put put_at (key.Meta ulid) seen.bytes its_meta.last.bytes m shipped_meta)
    by_source (by_upload u) =
        let blocks : s.block ≡ u.is.block = let both = sym s.is ∙ u.is.is in cc (both) in
        let also : IsShipped setting u.is.block s.objects = subst (λ (b : Block). IsShipped setting b s.objects) blocks s.shipped in
        let objects : s.objects ≡ u.is.objects = (is_readable setting lawful).once ulid u.is.block u.is.is s.objects u.is.objects also u.is.shipped in
        let ends : EndsWithMeta ulid u.is.objects = subst (λ (os : List Object). EndsWithMeta ulid os) objects (subst (λ (n : ℕ). EndsWithMeta n s.objects) block_is its_meta) in
        let among : Contains u.is.objects (record { key = k; bytes = s.bytes }) = subst (λ (os : List Object). Contains os (record { key = k; bytes = s.bytes })) objects s.among in
        let done = before_the_meta ulid u.is.objects ends u.done u.left seen.bytes u.objects (record { key = k; bytes = s.bytes }) samples among in
        let stored = u.stored (record { key = k; bytes = s.bytes }) done in
        let inside = (in_seat put.seat last.front stored.0 stored.1).0 in
        let first = front_is_earlier last.front (last.back ++ seen.read ∷ read_at.1) put stored.0 (subst Rises put_at rises_upto) inside in
        let late = after_sync seen.read read_in in (
          s.bytes,
          (
            stored.0,
            subst (λ (es : List Entry). Contains es stored.0) (sym put_at) (Contains-append_left last.front (put ∷ (last.back ++ seen.read ∷ read_at.1)) stored.0 inside),
            stored.2.0,
            subst (λ (r : Reply). IsTrue (has_landed r)) (sym stored.2.1) refl,
            omega (arith, first.0, put_first.0, late),
          ),
        )

    was_put : (bytes : List ℕ) × WasPutBefore upto k bytes e.seq
    was_put = by_source (object_source setting upto deeds_upto last.front (last.back ++ seen.read ∷ read_at.1) put put_at (key.Meta ulid) seen.bytes last.puts.0 tt)

  -- where nothing is deleted, it is found
  pub shipped_stands : IsShippedUnder setting found.ulid k → IsHonest journal → ((seat : ℕ) → ¬ Cleans (deeds.deed seat)) → ⊥
  shipped_stands s honest undeleted =
      let honest_upto : IsHonest upto = λ front back x is. honest front (back ++ after) x (whole ∙ ap (λ (es : List Entry). es ++ after) is ∙ append_assoc front (x ∷ back) after) in
      let w = was_put s honest_upto in
      let p = w.1 in
      let among : Contains journal p.0 = subst (λ (es : List Entry). Contains es p.0) (sym whole) (Contains-append_left upto after p.0 p.1) in
      undeleted_is_found setting journal lawful deeds honest before after e parts k (is_object k samples) w.0 e.seq reads undeleted (p.0, among, p.2, p.3, p.4) absent

  -- ---- where the read is watched

  module _ (watch : Watch) (watches : IsHonest upto → watch.reads e used.view) where
    explains : (rule : Rule) (Is : Entry → Type 0) → ((x : Entry) → Is x → IsBlamed e (key_ulid k) rule x) → HasRefused setting watch upto rule Is → IsExplainedUnder setting watch journal e.seq
    explains rule Is blames r = record {
      missed = e;
      key = k;
      at = the_entry journal before after e e.seq parts (deeds.kept.numbered before after e parts);
      reads = reads;
      absent = absent;
      rule = rule;
      before = r.before;
      entry = r.entry;
      after = r.after ++ after;
      x = r.x;
      y = r.y;
      parts = whole ∙ ap (λ (es : List Entry). es ++ after) r.parts ∙ append_assoc r.before (r.entry ∷ r.after) after;
      early = early r.entry (subst (λ (es : List Entry). Contains es r.entry) (sym r.parts) (stands_in r.before r.after r.entry));
      refused = r.refused;
      blamed = blames r.entry r.is;
    }

    in_time_or : IsHonest upto → IsReadInTime setting.script.rules used.view e ⊎ HasRefused setting watch upto view_time (λ (x : Entry). x.seq ≡ e.seq)
    in_time_or honest = elim (within_or (e.moment.ms + setting.script.rules.ignore.ms) (used.view.begin.ms + setting.script.rules.delete.ms)) [
      | inl low ↦ inl low
      | inr over ↦ inr (record {
        before = before;
        entry = e;
        after = [];
        x = e.moment.ms + setting.script.rules.ignore.ms;
        y = used.view.begin.ms + setting.script.rules.delete.ms;
        parts = refl;
        refused = (used.view, watches honest, (refl, refl, over));
        is = refl;
      })
    ]

    found_or : (bytes : List ℕ) → WasPutBefore upto k bytes e.seq → IsHonest upto → IsExplainedUnder setting watch journal e.seq
    found_or bytes put honest = elim (timely_or setting watch upto (key_ulid k)) [
      | inr r ↦ explains upload_time (PutsObject (key_ulid k)) (λ x is. is) r
      | inl timely ↦ elim (marked_or setting watch upto (key_ulid k)) [
        | inr r ↦ explains mark_time (λ (x : Entry). (second : ℕ) × PutsMark (key_ulid k) second x) (λ x is. is) r
        | inl marked ↦ elim (in_time_or honest) [
          | inr r ↦ explains view_time (λ (x : Entry). x.seq ≡ e.seq) (λ x is. is) r
          | inl quick ↦
              absurd (seen_is_found setting upto lawful deeds_upto honest before [] e refl k (is_object k samples) bytes e.seq reads timely gateway sync used.view sees part_upto found kept (sym own) after_sync put marked quick absent)
        ]
      ]
    ]

    pub explained : IsOfBytes journal → (IsHonest upto → (bytes : List ℕ) × WasPutBefore upto k bytes e.seq) → IsExplainedUnder setting watch journal e.seq
    explained of_bytes put = elim (honest_or setting watch upto deeds_upto.kept (bytes_upto of_bytes)) [
      | inl honest ↦ let p = put honest in found_or p.0 p.1 honest
      | inr r ↦ explains honesty (λ x. Unit {0}) (λ x is. tt) r
    ]

    -- an object that was put before it
    pub put_explained : IsOfBytes journal → (bytes : List ℕ) → WasPutBefore journal k bytes e.seq → IsExplainedUnder setting watch journal e.seq
    put_explained of_bytes bytes (p, among, puts, landed, less) = explained of_bytes (λ honest. (bytes, (p, in_upto p among less, puts, landed, less)))

    -- an object with which the block is shipped
    pub shipped_explained : IsOfBytes journal → IsShippedUnder setting found.ulid k → IsExplainedUnder setting watch journal e.seq
    shipped_explained of_bytes s = explained of_bytes (λ honest. was_put s honest)

-- ---- what is shipped under a key

to_samples : (k : Key) → IsOfSamples k → HoldsSamples k
to_samples (key.Meta own) is = absurd is
to_samples (key.Index own) is = tt
to_samples (key.Segment own number) is = tt
to_samples (key.Mark own) is = absurd is

-- it is an index or a segment of the block
pub shipped_is : (setting : Setting) (ulid : ℕ) (k : Key) → IsShippedUnder setting ulid k → HoldsSamples k × (key_ulid k ≡ ulid)
shipped_is setting ulid k s =
    let ends = ends_with_meta setting s.block s.block.body s.objects s.shipped in
    let block_is : s.block.ulid ≡ ulid = declared_ulid setting ulid s.block s.is in
    let name : key_ulid k ≡ ulid = ends.under (record { key = k; bytes = s.bytes }) s.among ∙ block_is in
    elim (Contains-append_cases ends.front (ends.last ∷ []) (record { key = k; bytes = s.bytes }) (subst (λ (os : List Object). Contains os (record { key = k; bytes = s.bytes })) ends.parts s.among)) [
      | inl early ↦ (to_samples k (ends.other (record { key = k; bytes = s.bytes }) early), name)
      | inr late ↦ elim (member_cases ends.last (record { key = k; bytes = s.bytes }) [] late) [
        | inl same ↦ absurd (s.other (ap (λ (o : Object). o.key) (sym same) ∙ ends.meta ∙ ap key.Meta block_is))
        | inr none ↦ absurd (no_member (record { key = k; bytes = s.bytes }) none)
      ]
    ]
