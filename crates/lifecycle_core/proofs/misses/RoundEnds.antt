-- How the rounds of a compaction end: a fault has an entry that was answered so; where an object was missing the last entry is a read of an
-- index that shows nothing, or of a segment that an index which was read before names; and behind the sync no names are listed.
use Rattle.std.proofs.Common.{◌≡◌, ℕ, zero, suc, ◌+◌, true, List, [], ◌∷◌, ◌++◌, length, Contains, Option, Some, None, refl, ◌<◌, arith, inl, inr}
use Rattle.std.proofs.lemmas.List.Elements.{Contains-append_left}
use Rattle.label_sets.specs.declared.label.Label.{Label}
use Rattle.block_keys.specs.declared.key.Key.{Key}
use Rattle.block_keys.specs.declared.key.Key.TheVariants as key
use Rattle.block_keys.specs.declared.object.Object.{Object}
use Rattle.block_meta.specs.declared.meta.Meta.{Meta}
use Rattle.moment_core.specs.declared.rules.Rules.{Rules}
use Rattle.moment_core.specs.declared.span.Span.{Span}
use Rattle.world_core.specs.Operations.{has_failed}
use Rattle.world_core.specs.Plans.{Plan, Runs, ends, never, asks, finds, puts, and_then, noting}
use Rattle.world_core.specs.declared.entry.Entry.{Entry}
use Rattle.world_core.specs.declared.op.Op.TheVariants as op
use Rattle.world_core.specs.declared.reply.Reply.TheVariants as reply
use Rattle.world_core.proofs.PlanLaws.{EndsAre}
use Rattle.world_core.proofs.PlanParts.{Parts, broken, both, parts}
use Rattle.world_core.proofs.PlanWords.{gets_are, puts_are}
use Rattle.shipper.specs.Uploads.{putting, upload}
use Rattle.shipper.specs.declared.upload.UploadEnd.{UploadEnd}
use Rattle.shipper.specs.declared.upload.UploadEnd.TheVariants as shipped
use Rattle.meta_fetcher.specs.OneView.{one_end_of}
use Rattle.meta_fetcher.specs.Syncs.{Course, IsEnd, SyncRun, Synced, sync}
use Rattle.meta_fetcher.specs.declared.sync.SyncEnd.{SyncEnd}
use Rattle.meta_fetcher.specs.declared.sync.SyncEnd.TheVariants as fetched
use Rattle.meta_fetcher.specs.declared.view.View.{View}
use Rattle.group_planner.proofs.GroupLaws.{one_answer}
use Rattle.group_planner.specs.Groups.{AreGroups}
use Rattle.group_planner.specs.Members.{ulids_of}
use Rattle.group_planner.specs.declared.group.Group.{Group}
use Rattle.compactor.specs.FoundNames.{expired_at, names_of}
use Rattle.compactor.specs.Marking.{details_of, marking}
use Rattle.compactor.specs.NewMarks.{new_mark_text}
use Rattle.compactor.specs.declared.reason.Reason.{Reason}
use Rattle.compactor.specs.declared.reason.Reason.TheVariants.{Covered, Compacted, Expired}
use Rattle.compactor.specs.Named.{named_segments}
use Rattle.compactor.specs.Reading.{after_index, read_at, reads, reads_block, reads_blocks, reads_segments}
use Rattle.compactor.specs.declared.input.Input.{Input}
use Rattle.compactor.specs.declared.input.Read.{Read}
use Rattle.compactor.specs.declared.merging.Merging.{Merging}
use Rattle.compactor.specs.declared.merging.Merging.TheVariants as merging_is
use Rattle.compactor.specs.Compactions.{CompactRun, after_merge, after_sync, after_upload, compacting, compacting_groups, last_number, merging, metas_of, read_ends, rounds, sync_rules}
use Rattle.compactor.specs.NewBlocks.{block_objects, new_ulid}
use Rattle.compactor.specs.declared.compact_end.CompactEnd.{CompactEnd}
use Rattle.compactor.specs.declared.compact_end.CompactEnd.TheVariants as compact
use Rattle.lifecycle_core.proofs.journals.Positions.{stands_in}
use Rattle.lifecycle_core.proofs.misses.Faults.{ShowsFault}
use Rattle.std.proofs.lemmas.List.{length-append}

abbrev pub Any : Entry → Type 0
Any e = Unit {0}

pub shown_failed : (made : List Entry) (e : Entry) → has_failed e.reply ≡ true → ShowsFault (made ++ e ∷ []) e.seq
shown_failed made e failed = (e, stands_in made [] e, refl, failed)

-- ---- plans of plans

-- the ends of a plan that takes notes, whatever they are
pub noting_are : {S A : Type 0} (Is : List Entry → A × S → Type 0) (note : S → Entry → S) (noted : S) (made : List Entry) (plan : Plan A) → EndsAre Any (λ all last. (own : S) → Is all (last, own)) made plan → EndsAre Any Is made (noting note noted plan)
noting_are Is note noted made (ends last) are = are noted
noting_are Is note noted made never are = tt
noting_are Is note noted made (asks op on) are = λ e is given. noting_are Is note (note noted e) (made ++ e ∷ []) (on e) (are e is given)
noting_are Is note noted made (finds Such one on) are = λ found is. noting_are Is note noted made (on found) (are found is)

pub both_are : {A E : Type 0} (Is : List Entry → E → Type 0) (first : Plan A) (next : A → Plan E) (made : List Entry) → EndsAre Any (λ all last. EndsAre Any Is all (next last)) made first → EndsAre Any Is made (and_then first next)
both_are Is (ends last) next made are = are
both_are Is never next made are = tt
both_are Is (asks op on) next made are = λ e is given. both_are Is (on e) next (made ++ e ∷ []) (are e is given)
both_are Is (finds Such one on) next made are = λ found is. both_are Is (on found) next made (are found is)

-- ---- what is owed

-- an index that was read among these entries, and names so many segments
record NamesSegments (entries : List Entry) (ulid count : ℕ) : Type 0 where
  one : Entry
  among : Contains entries one
  asks : one.op ≡ op.Get (key.Index ulid)
  bytes : List ℕ
  shows : one.reply ≡ reply.Found bytes
  named : named_segments bytes ≡ Some count

-- what a read asks for that has to be there: an index, or one of the segments that an index names
pub data IsOwed (before : List Entry) (e : Entry) : Type 0 where
  owed_index : (ulid : ℕ) → e.op ≡ op.Get (key.Index ulid) → IsOwed before e
  owed_segment : (ulid place : ℕ) → e.op ≡ op.Get (key.Segment ulid (place + 1)) → (one : Entry) → Contains before one → one.op ≡ op.Get (key.Index ulid) → (bytes : List ℕ) → one.reply ≡ reply.Found bytes
      → (count : ℕ) → named_segments bytes ≡ Some count → place < count → IsOwed before e

-- the last of the entries, of that number, found nothing of that
pub record ShowsMissing (entries : List Entry) (number : ℕ) : Type 0 where
  pub front : List Entry
  pub missed : Entry
  pub are : entries ≡ front ++ missed ∷ []
  pub is : missed.seq ≡ number
  pub absent : missed.reply ≡ reply.Absent
  pub owed : IsOwed front missed

-- ---- rounds

abbrev pub Shown : List Entry → CompactEnd → Type 0
Shown made (compact.Fault number) = ShowsFault made number
Shown made (compact.Done collected compacted expired) = Unit {0}
Shown made (compact.Missing number) = ShowsMissing made number
Shown made (compact.Damaged number) = Unit {0}
-- once it has a view it lists no more names
Shown made compact.TooMany = ⊥
Shown made compact.TooLarge = Unit {0}

abbrev Ends : List Entry → Plan CompactEnd → Type 0
Ends made plan = EndsAre Any Shown made plan

reads_end : (k : Key) (next : Entry → List ℕ → Plan CompactEnd) (made : List Entry) → ((e : Entry) → e.op ≡ op.Get k → IsOwed made e)
    → ((e : Entry) (bytes : List ℕ) → e.op ≡ op.Get k → e.reply ≡ reply.Found bytes → Ends (made ++ e ∷ []) (next e bytes)) → Ends made (reads read_ends k next)
reads_end k next made owed on =
    gets_are Any Shown made compact.Fault k next (λ e. ends (compact.Missing e.seq)) (λ e bytes is given found. on e bytes is found)
    (λ e is given absent. record { front = made; missed = e; are = refl; is = refl; absent = absent; owed = owed e is }) (λ e is given failed. shown_failed made e failed)

marks_end : (reason : Reason) (put : ℕ) (ulids : List ℕ) (next : ℕ → Plan CompactEnd) (made : List Entry) → ((more : ℕ) (made : List Entry) → Ends made (next more)) → Ends made (marking compact.Fault reason put ulids next)
marks_end reason put [] next made on = on put made
marks_end reason put (ulid ∷ ulids) next made on =
    gets_are Any Shown made compact.Fault (key.Mark ulid)
    (λ e bytes. marking compact.Fault reason put ulids next)
    (λ e. puts compact.Fault (key.Mark ulid) (new_mark_text ulid e.moment (details_of reason)) (λ stored. marking compact.Fault reason (put + 1) ulids next))
    (λ e bytes is given found. marks_end reason put ulids next (made ++ e ∷ []) on)
    (λ e is given absent. puts_are Any Shown (made ++ e ∷ []) compact.Fault (key.Mark ulid) (new_mark_text ulid e.moment (details_of reason)) (λ stored. marking compact.Fault reason (put + 1) ulids next)
    (λ stored is given replied. marks_end reason (put + 1) ulids next ((made ++ e ∷ []) ++ stored ∷ []) on)
    (λ stored is given failed. shown_failed (made ++ e ∷ []) stored failed))
    (λ e is given failed. shown_failed made e failed)

names_more : (made : List Entry) (e : Entry) (ulid count : ℕ) → NamesSegments made ulid count → NamesSegments (made ++ e ∷ []) ulid count
names_more made e ulid count n = record { one = n.one; among = Contains-append_left made (e ∷ []) n.one n.among; asks = n.asks; bytes = n.bytes; shows = n.shows; named = n.named }

segments_end : (ulid count more : ℕ) (segments : List Read) (last : Entry) (next : List Read → Entry → Plan CompactEnd) (made : List Entry) → NamesSegments made ulid count → length segments + more ≡ count
    → ((segments : List Read) (last : Entry) (made : List Entry) → Ends made (next segments last)) → Ends made (reads_segments read_ends ulid more segments last next)
segments_end ulid count zero segments last next made n all on = on segments last made
segments_end ulid count (suc more) segments last next made n all on =
    reads_end (key.Segment ulid (length segments + 1)) (λ e bytes. reads_segments read_ends ulid more (segments ++ read_at e bytes ∷ []) e next) made
    (λ e wants. owed_segment ulid (length segments) wants n.one n.among n.asks n.bytes n.shows count n.named (omega (arith, all)))
    (λ e bytes wants found. segments_end ulid count more (segments ++ read_at e bytes ∷ []) e next (made ++ e ∷ []) (names_more made e ulid count n) (omega (arith, all, length-append segments (read_at e bytes ∷ []))) on)

index_end : (meta : Meta) (e : Entry) (bytes : List ℕ) (count : Option ℕ) (next : Input → Entry → Plan CompactEnd) (made : List Entry) → Contains made e → e.op ≡ op.Get (key.Index meta.ulid) → e.reply ≡ reply.Found bytes → named_segments bytes ≡ count
    → ((input : Input) (last : Entry) (made : List Entry) → Ends made (next input last)) → Ends made (after_index read_ends meta e bytes count next)
index_end meta e bytes None next made among wants found named on = tt
index_end meta e bytes (Some count) next made among wants found named on =
    segments_end meta.ulid count count [] e (λ segments last. next (record { meta = meta; index = read_at e bytes; segments = segments }) last) made
    (record { one = e; among = among; asks = wants; bytes = bytes; shows = found; named = named }) (omega arith)
    (λ segments last made. on (record { meta = meta; index = read_at e bytes; segments = segments }) last made)

block_end : (meta : Meta) (next : Input → Entry → Plan CompactEnd) (made : List Entry) → ((input : Input) (last : Entry) (made : List Entry) → Ends made (next input last)) → Ends made (reads_block read_ends meta next)
block_end meta next made on =
    reads_end (key.Index meta.ulid) (λ e bytes. after_index read_ends meta e bytes (named_segments bytes) next) made
    (λ e wants. owed_index meta.ulid wants)
    (λ e bytes wants found. index_end meta e bytes (named_segments bytes) next (made ++ e ∷ []) (stands_in made [] e) wants found refl on)

blocks_end : (inputs : List Input) (last : Entry) (metas : List Meta) (next : List Input → Entry → Plan CompactEnd) (made : List Entry) → ((inputs : List Input) (last : Entry) (made : List Entry) → Ends made (next inputs last)) → Ends made (reads_blocks read_ends inputs last metas next)
blocks_end inputs last [] next made on = on inputs last made
blocks_end inputs last (meta ∷ metas) next made on =
    block_end meta (λ input e. reads_blocks read_ends (inputs ++ input ∷ []) e metas next) made
    (λ input e made. blocks_end (inputs ++ input ∷ []) e metas next made on)

-- after an upload, whatever was noted of its entries
abbrev Uploads : Plan CompactEnd → List Entry → UploadEnd → Type 0
Uploads next made end = (noted : Option ℕ) → Ends made (after_upload next (end, noted))

already_end : (next : Plan CompactEnd) (made : List Entry) (noted : Option ℕ) → Ends made (after_upload next (shipped.Already, noted))
already_end next made None = tt
already_end next made (Some look) = tt

putting_end : (next : Plan CompactEnd) (total : ℕ) (objects : List Object) (made : List Entry) → ((made : List Entry) → Ends made next) → EndsAre Any (Uploads next) made (putting total objects)
putting_end next total [] made on = λ noted. on made
putting_end next total (object ∷ objects) made on =
    puts_are Any (Uploads next) made shipped.Fault object.key object.bytes (λ e. putting total objects)
    (λ e is given stored. putting_end next total objects (made ++ e ∷ []) on)
    (λ e is given failed noted. shown_failed made e failed)

upload_end : (next : Plan CompactEnd) (ulid : ℕ) (objects : List Object) (made : List Entry) → ((made : List Entry) → Ends made next) → EndsAre Any (Uploads next) made (upload ulid objects)
upload_end next ulid objects made on =
    gets_are Any (Uploads next) made shipped.Fault (key.Meta ulid) (λ e bytes. ends shipped.Already) (λ e. putting (length objects) objects)
    (λ e bytes is given found noted. already_end next (made ++ e ∷ []) noted)
    (λ e is given absent. putting_end next (length objects) objects (made ++ e ∷ []) on)
    (λ e is given failed noted. shown_failed made e failed)

merge_end : (ulid : ℕ) (parents : List ℕ) (next : Plan CompactEnd) (becomes : Merging) (made : List Entry) → ((made : List Entry) → Ends made next) → Ends made (after_merge ulid parents next becomes)
merge_end ulid parents next (merging_is.Merged block) made on =
    let marks : Plan CompactEnd = marking compact.Fault Compacted 0 parents (λ put. next) in
    both_are Shown (noting last_number None (upload ulid (block_objects ulid block))) (after_upload marks) made
    (noting_are (λ all last. Ends all (after_upload marks last)) last_number None made (upload ulid (block_objects ulid block))
    (upload_end marks ulid (block_objects ulid block) made (λ made. marks_end Compacted 0 parents (λ put. next) made (λ more made. on made))))
merge_end ulid parents next (merging_is.Refused number) made on = tt
merge_end ulid parents next merging_is.TooLarge made on = tt

group_end : (replicas : List (List ℕ)) (labels : List Label) (unplanned next : Plan CompactEnd) (plan : List Meta) (made : List Entry) → ((made : List Entry) → Ends made unplanned) → ((made : List Entry) → Ends made next) → Ends made (compacting replicas labels unplanned next plan)
group_end replicas labels unplanned next [] made off on = off made
group_end replicas labels unplanned next (first ∷ metas) made off on =
    block_end first (λ input e. reads_blocks read_ends (input ∷ []) e metas (λ inputs last. merging replicas labels (ulids_of (first ∷ metas)) next inputs last.seq last.moment)) made
    (λ input e made. blocks_end (input ∷ []) e metas (λ inputs last. merging replicas labels (ulids_of (first ∷ metas)) next inputs last.seq last.moment) made
    (λ inputs last made becomes is. merge_end (new_ulid last.seq last.moment) (ulids_of (first ∷ metas)) next becomes made on))

groups_end : (replicas : List (List ℕ)) (compacted : ℕ) (groups : List Group) (next : ℕ → Plan CompactEnd) (made : List Entry) → ((all : ℕ) (made : List Entry) → Ends made (next all)) → Ends made (compacting_groups replicas compacted groups next)
groups_end replicas compacted [] next made on = on compacted made
groups_end replicas compacted (group ∷ groups) next made on = λ plan is.
    group_end replicas group.labels (compacting_groups replicas compacted groups next) (compacting_groups replicas (compacted + 1) groups next) plan made
    (λ made. groups_end replicas compacted groups next made on) (λ made. groups_end replicas (compacted + 1) groups next made on)

pub rounds_end : (replicas : List (List ℕ)) (retention : Option Span) (view : View) (made : List Entry) → Ends made (rounds replicas retention view)
rounds_end replicas retention view made =
    let gone : List ℕ = names_of (expired_at retention view.begin view.kept) in
    marks_end Covered 0 (names_of view.covered) (λ collected. finds (AreGroups replicas (metas_of view.kept)) (one_answer replicas (metas_of view.kept)) (λ groups.
    compacting_groups replicas 0 groups (λ compacted. marking compact.Fault Expired 0 gone (λ expired. ends (compact.Done collected compacted expired))))) made
    (λ collected made groups are. groups_end replicas 0 groups (λ compacted. marking compact.Fault Expired 0 gone (λ expired. ends (compact.Done collected compacted expired))) made
    (λ compacted made. marks_end Expired 0 gone (λ expired. ends (compact.Done collected compacted expired)) made (λ expired made. tt)))

-- ---- a whole compaction

-- the end of a sync that is the end of its compaction
abbrev pub IsItsEnd : SyncEnd → CompactEnd → Type 0
IsItsEnd (fetched.View view) last = ⊥
IsItsEnd (fetched.Fault number) last = compact.Fault number ≡ last
IsItsEnd (fetched.Damaged number) last = compact.Damaged number ≡ last
IsItsEnd fetched.TooMany last = compact.TooMany ≡ last

-- a compaction ended so in its sync, or in its rounds
pub data EndsIn (rules : Rules) (entries : List Entry) (last : CompactEnd) : Type 0 where
  by_sync : (own others : List Entry) (told : SyncEnd) → entries ≡ own ++ others → SyncRun (sync_rules rules) own (Some told) → IsItsEnd told last → EndsIn rules entries last
  by_rounds : (own others : List Entry) (view : View) → entries ≡ own ++ others → SyncRun (sync_rules rules) own (Some (fetched.View view)) → Runs (rounds rules.replicas rules.retention view) others (Some last) → EndsIn rules entries last

module _ (rules : Rules) (entries : List Entry) (last : CompactEnd) where
  after : (own others : List Entry) (told : Synced × Option Course) (end : SyncEnd) → entries ≡ own ++ others → Runs (sync (sync_rules rules)) own (Some told) → IsEnd (sync_rules rules) told end
      → Runs (after_sync rules.replicas rules.retention end) others (Some last) → EndsIn rules entries last
  after own others told (fetched.View view) same first is run = by_rounds own others view same (told, first, is) run
  after own others told (fetched.Fault n) same first is (nil, inl none) = absurd (cc (none))
  after own others told (fetched.Fault n) same first is (nil, inr so) = by_sync own others (fetched.Fault n) same (told, first, is) (cc (so))
  after own others told (fetched.Damaged n) same first is (nil, inl none) = absurd (cc (none))
  after own others told (fetched.Damaged n) same first is (nil, inr so) = by_sync own others (fetched.Damaged n) same (told, first, is) (cc (so))
  after own others told fetched.TooMany same first is (nil, inl none) = absurd (cc (none))
  after own others told fetched.TooMany same first is (nil, inr so) = by_sync own others fetched.TooMany same (told, first, is) (cc (so))

  abbrev next : Synced × Option Course → Plan CompactEnd
  next told = finds (IsEnd (sync_rules rules) told) (one_end_of (sync_rules rules) told) (after_sync rules.replicas rules.retention)

  by_parts : Parts (sync (sync_rules rules)) next entries (Some last) → EndsIn rules entries last
  by_parts (broken one none) = absurd (cc (none))
  by_parts (both own others told same first (inl none)) = absurd (cc (none.1))
  by_parts (both own others told same first (inr (end, is, run))) = after own others told end same first is run

  pub ends_in : CompactRun rules entries (Some last) → EndsIn rules entries last
  ends_in run = by_parts (parts (sync (sync_rules rules)) next entries (Some last) run)
