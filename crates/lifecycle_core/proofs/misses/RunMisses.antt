-- A compaction's miss is explained where the script's gateways and compactions are watched; and where nothing deletes, an honest bucket
-- misses nothing of a compaction.
use Rattle.base.proofs.Membership.{contains_later}
use Rattle.base.proofs.Lists.{slice_get-below}
use Rattle.std.proofs.Common.{◌≡◌, ℕ, ◌+◌, ◌<◌, ◌^◌, List, [], ◌∷◌, ◌++◌, Contains, Some, refl, sym, subst, arith}
use Rattle.std.proofs.lemmas.List.Elements.{Contains-append_left, Contains-append_right}
use Rattle.block_keys.specs.Keys.{IsLawfulKey, key_ulid}
use Rattle.block_keys.specs.declared.key.Key.{Key}
use Rattle.block_keys.specs.declared.key.Key.TheVariants as key
use Rattle.block_meta.specs.MetaFields.{MetaFields}
use Rattle.compactor.specs.Named.{named_segments}
use Rattle.world_core.specs.Operations.{IsLawful}
use Rattle.world_core.specs.Standing.{IsHonest}
use Rattle.world_core.specs.Worlds.{IsOfBytes}
use Rattle.world_core.specs.declared.op.Op.TheVariants as op
use Rattle.world_core.specs.declared.entry.Entry.{Entry}
use Rattle.compactor.specs.Compactions.{CompactRun}
use Rattle.compactor.specs.declared.compact_end.CompactEnd.TheVariants as compact
use Rattle.script_core.specs.Lawful.{IsLawfulScript}
use Rattle.lifecycle_core.specs.CompactionOps.{IsCompactOp, IsInputRead}
use Rattle.lifecycle_core.specs.Sights.{IsSeen}
use Rattle.lifecycle_core.proofs.activities.CompactionAsks.{compaction_op}
use Rattle.lifecycle_core.specs.Breaches.{IsCompactorSeat, RefusesUnder, Rule, honesty, mark_time, read_time, sync_time, upload_time, view_time, watched, watched_compaction}
use Rattle.lifecycle_core.specs.Causes.{IsBlamedInCompaction, IsExplainedBy}
use Rattle.world_core.specs.Journals.{of_seat}
use Rattle.lifecycle_core.specs.PutBlocks.{WasPutBefore}
use Rattle.lifecycle_core.specs.Setting.{Setting}
use Rattle.lifecycle_core.proofs.blocks.Contents.{IsHeldWhole, complete_holds}
use Rattle.lifecycle_core.proofs.blocks.Known.{put_is_complete}
use Rattle.lifecycle_core.proofs.blocks.NamedSegments.{named_within}
use Rattle.lifecycle_core.proofs.deeds.Orders.{StandsWhole, front_is_earlier, in_seat, lower_is_in_front, stands_whole}
use Rattle.lifecycle_core.proofs.deeds.Stood.{absent_stands, deleted_since}
use Rattle.lifecycle_core.proofs.deeds.Words.{AreDeeds, Cleans}
use Rattle.lifecycle_core.proofs.journals.Positions.{stands_in}
use Rattle.lifecycle_core.proofs.journals.Rising.{journal_rises}
use Rattle.lifecycle_core.proofs.journals.Standing.{parted}
use Rattle.lifecycle_core.proofs.journals.Told.{Rises}
use Rattle.lifecycle_core.proofs.marks.Reasons.{kept_seen}
use Rattle.lifecycle_core.proofs.misses.Deleted.{delete_cleans}
use Rattle.lifecycle_core.proofs.misses.RoundEnds.{IsOwed, ShowsMissing, owed_index, owed_segment}
use Rattle.lifecycle_core.proofs.misses.RoundMisses.{compaction_misses}
use Rattle.lifecycle_core.proofs.views.Undamaged.{put_before_read}

-- ---- under the script's watch

-- what is refused of one compaction is refused of the script's
refuses_watched : (setting : Setting) (journal : List Entry) (seat : ℕ) → IsCompactorSeat setting seat → (rule : Rule) (before : List Entry) (e : Entry) (x y : ℕ) → RefusesUnder setting (watched_compaction journal seat) rule before e x y
    → RefusesUnder setting (watched setting journal) rule before e x y
refuses_watched setting journal seat compactor honesty before e x y r = r
refuses_watched setting journal seat compactor upload_time before e x y r = r
refuses_watched setting journal seat compactor mark_time before e x y r = r
refuses_watched setting journal seat compactor sync_time before e x y (entries, end, first, others, front, none, begins, ends, over) = absurd none
refuses_watched setting journal seat compactor view_time before e x y (view, none, over) = absurd none
refuses_watched setting journal seat compactor read_time before e x y (begin, (same, reading, since), over) = (
  begin,
  (
    subst (IsCompactorSeat setting) (sym same) compactor,
    (refl, reading, subst (λ (s : ℕ). (first : Entry) × (others : List Entry) × (of_seat s journal ≡ first ∷ others) × (first.moment ≡ begin)) (sym same) since),
  ),
  over,
)

pub compaction_is_explained : (setting : Setting) (journal : List Entry) (seat number : ℕ) → IsCompactorSeat setting seat → IsExplainedBy setting (watched_compaction journal seat) IsBlamedInCompaction journal number
    → IsExplainedBy setting (watched setting journal) IsBlamedInCompaction journal number
compaction_is_explained setting journal seat number compactor is = record {
  missed = is.missed;
  key = is.key;
  at = is.at;
  reads = is.reads;
  absent = is.absent;
  rule = is.rule;
  before = is.before;
  entry = is.entry;
  after = is.after;
  x = is.x;
  y = is.y;
  parts = is.parts;
  early = is.early;
  refused = refuses_watched setting journal seat compactor is.rule is.before is.entry is.x is.y is.refused;
  blamed = is.blamed;
}

-- ---- where nothing deletes

module _ (setting : Setting) (journal : List Entry) (lawful : IsLawfulScript setting.script) (deeds : AreDeeds setting journal) (of_bytes : IsOfBytes journal) (honest : IsHonest journal) (undeleted : (seat : ℕ) → ¬ Cleans (deeds.deed seat))
    (seat number : ℕ) (run : CompactRun setting.script.rules (of_seat seat journal) (Some (compact.Missing number))) where
  shows : ShowsMissing (of_seat seat journal) number
  shows = compaction_misses setting.script.rules (of_seat seat journal) number run

  abbrev e : Entry
  e = shows.missed

  at : StandsWhole seat journal shows.front e
  at = stands_whole seat journal shows.front [] e shows.are

  rising : Rises (at.before ++ e ∷ at.after)
  rising = subst Rises at.parts (journal_rises setting.script.rules.tick.ms journal deeds.kept)

  -- what the compaction did before is before the entry
  own_before : (x : Entry) → Contains shows.front x → Contains at.before x
  own_before x among = (in_seat seat at.before x (subst (λ es. Contains es x) (sym at.own) among)).0

  into_journal : (x : Entry) → Contains at.before x → Contains journal x
  into_journal x among = subst (λ es. Contains es x) (sym at.parts) (Contains-append_left at.before (e ∷ at.after) x among)

  -- what was put before stands
  not_absent : (k : Key) → key_ulid k < 2 ^ 128 → e.op ≡ op.Get k → (bytes : List ℕ) (upto : ℕ) → WasPutBefore journal k bytes upto → upto < e.seq → ⊥
  not_absent k small asks bytes upto (p, among, puts, landed, early) late =
      let written : IsLawfulKey k = subst IsLawful asks (deeds.kept.lawful at.before at.after e at.parts) in
      let inside = lower_is_in_front at.before at.after e p rising (subst (λ es. Contains es p) at.parts among) (omega (arith, early, late)) in
      let none = absent_stands setting journal at.before at.after e honest at.parts k asks shows.absent in
      let gone = deleted_since setting journal lawful deeds at.before (e ∷ at.after) at.parts k small written p bytes inside (puts, landed) none in
      let d : Entry = gone.delete in
      let there : Contains journal d = into_journal d (subst (λ es. Contains es d) (sym gone.parts) (stands_in gone.before gone.after d)) in
      let place = parted journal d there in
      undeleted d.seat (delete_cleans setting journal deeds place.0 place.1 d place.2 k (gone.deletes).0)

  asked : IsCompactOp setting.script.rules shows.front e.op
  asked = compaction_op setting.script.rules shows.front e [] (Some (compact.Missing number)) (subst (λ es. CompactRun setting.script.rules es (Some (compact.Missing number))) shows.are run)

  module _ (ulid : ℕ) (input : IsInputRead setting.script.rules shows.front ulid) where
    seen : IsSeen shows.front input.found
    seen = kept_seen setting.script.rules shows.front input.view input.synced input.found input.kept.0

    small : ulid < 2 ^ 128
    small = subst (λ (n : ℕ). n < 2 ^ 128) input.kept.1 seen.small

    read_before : Contains at.before seen.read
    read_before =
        let inside = Contains-append_right seen.front (seen.looked ∷ (seen.middle ++ seen.read ∷ seen.back)) seen.read (contains_later seen.looked seen.read (seen.middle ++ seen.read ∷ seen.back) (stands_in seen.middle seen.back seen.read)) in
        own_before seen.read (subst (λ es. Contains es seen.read) (sym seen.parts) inside)

    record IsHeldInput : Type 0 where
      seq : ℕ
      meta : MetaFields
      early : seq < e.seq
      holds : IsHeldWhole setting journal ulid seq meta

    held : IsHeldInput
    held =
        let put = put_before_read setting journal lawful deeds honest seen.read (key.Meta ulid) seen.bytes (into_journal seen.read read_before) small tt (subst (λ (n : ℕ). seen.read.op ≡ op.Get (key.Meta n)) input.kept.1 seen.asks_meta) seen.shows in
        let c = put_is_complete setting journal lawful deeds honest ulid seen.read.seq seen.bytes put in
        let less = front_is_earlier at.before at.after e seen.read rising read_before in
        record { seq = c.0; meta = c.1; early = omega (arith, c.3, less.0); holds = complete_holds setting journal lawful deeds of_bytes honest ulid c.0 c.1 c.2 }

  finds : IsOwed shows.front e → ⊥
  finds (owed_index ulid asks) =
      let input : IsInputRead setting.script.rules shows.front ulid = subst (IsCompactOp setting.script.rules shows.front) asks asked in
      let h = held ulid input in
      not_absent (key.Index ulid) (small ulid input) asks h.holds.files.index h.seq h.holds.put.index h.early
  finds (owed_segment ulid place asks one among index bytes found count named below) =
      let input : IsInputRead setting.script.rules shows.front ulid = subst (IsCompactOp setting.script.rules shows.front) asks asked in
      let h = held ulid input in
      let put = put_before_read setting journal lawful deeds honest one (key.Index ulid) bytes (into_journal one (own_before one among)) (small ulid input) tt index found in
      let same : bytes ≡ h.holds.files.index = h.holds.put.one_index bytes one.seq put in
      let few = named_within h.holds.files h.holds.list h.holds.content h.holds.bytes count (subst (λ (b : List ℕ). named_segments b ≡ Some count) same named) in
      let s = slice_get-below h.holds.files.segments place (omega (arith, few, below)) in
      not_absent (key.Segment ulid (place + 1)) (small ulid input) asks s.0 h.seq (h.holds.put.segments place s.0 s.1) h.early

  missed_none : ⊥
  missed_none = finds shows.owed

-- no compaction that is all that its seat did misses an object
pub compactions_find : (setting : Setting) (journal : List Entry) → IsLawfulScript setting.script → (deeds : AreDeeds setting journal) → IsOfBytes journal → IsHonest journal → ((seat : ℕ) → ¬ Cleans (deeds.deed seat))
    → (seat number : ℕ) → ¬ CompactRun setting.script.rules (of_seat seat journal) (Some (compact.Missing number))
compactions_find setting journal lawful deeds of_bytes honest undeleted seat number run = missed_none setting journal lawful deeds of_bytes honest undeleted seat number run
