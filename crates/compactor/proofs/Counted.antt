-- A compaction counts the groups that have a plan.
use Rattle.std.proofs.Common.{◌≡◌, ℕ, zero, suc, ◌+◌, List, [], ◌∷◌, ◌++◌, length, Option, Some, None, refl, sym, ap, ◌∙◌, subst, arith, inl, inr, zero-add}
use Rattle.std.specs.List.{AllByRecursion}
use Rattle.label_sets.specs.declared.label.Label.{Label}
use Rattle.block_keys.specs.declared.key.Key.{Key}
use Rattle.block_keys.specs.declared.key.Key.TheVariants as key
use Rattle.block_meta.specs.declared.meta.Meta.{Meta}
use Rattle.moment_core.specs.declared.rules.Rules.{Rules}
use Rattle.moment_core.specs.declared.span.Span.{Span}
use Rattle.world_core.specs.Plans.{Plan, Runs, ends, never, asks, finds, puts, and_then, noting}
use Rattle.world_core.specs.declared.entry.Entry.{Entry}
use Rattle.world_core.proofs.PlanLaws.{EndsAre, end_is}
use Rattle.world_core.proofs.PlanParts.{Parts, broken, both, parts}
use Rattle.world_core.proofs.PlanWords.{gets_are, puts_are}
use Rattle.shipper.specs.Uploads.{upload}
use Rattle.shipper.specs.declared.upload.UploadEnd.{UploadEnd}
use Rattle.shipper.specs.declared.upload.UploadEnd.TheVariants as uploaded
use Rattle.meta_fetcher.specs.Syncs.{Synced, Course, IsEnd, sync}
use Rattle.meta_fetcher.specs.declared.sync.SyncEnd.{SyncEnd}
use Rattle.meta_fetcher.specs.declared.sync.SyncEnd.TheVariants as ended
use Rattle.meta_fetcher.specs.declared.view.View.{View}
use Rattle.group_planner.specs.Groups.{AreGroups}
use Rattle.group_planner.specs.Members.{ulids_of}
use Rattle.group_planner.specs.Plans.{IsPlan}
use Rattle.group_planner.specs.declared.group.Group.{Group}
use Rattle.group_planner.proofs.GroupLaws.{one_answer}
use Rattle.compactor.specs.NewMarks.{new_mark_text}
use Rattle.compactor.specs.NewBlocks.{new_ulid, block_objects}
use Rattle.compactor.specs.Marking.{details_of, marking}
use Rattle.compactor.specs.Named.{named_segments}
use Rattle.compactor.specs.Reading.{read_at, reads, reads_segments, after_index, reads_block, reads_blocks}
use Rattle.compactor.specs.declared.input.Input.{Input}
use Rattle.compactor.specs.declared.input.Read.{Read}
use Rattle.compactor.specs.declared.reason.Reason.{Reason}
use Rattle.compactor.specs.declared.reason.Reason.TheVariants.{Covered, Compacted, Expired}
use Rattle.compactor.specs.declared.merging.Merging.{Merging}
use Rattle.compactor.specs.declared.merging.Merging.TheVariants as merging_is
use Rattle.meta_fetcher.specs.OneView.{one_end_of}
use Rattle.group_planner.proofs.PlanLaws.{one_plan}
use Rattle.compactor.specs.Jobs.{IsUnplanned}
use Rattle.compactor.specs.Counts.{with_planned, HavePlans, IsCounted}
use Rattle.compactor.specs.FoundNames.{names_of, expired_at}
use Rattle.compactor.specs.Compactions.{read_ends, last_number, after_upload, after_merge, merging, compacting, compacting_groups, metas_of, rounds, sync_rules, after_sync, CompactRun}
use Rattle.compactor.specs.declared.compact_end.CompactEnd.{CompactEnd}
use Rattle.compactor.specs.declared.compact_end.CompactEnd.TheVariants.{Done, Fault, Missing}

-- ---- plans of plans

any_ends : {E : Type 0} (Given : Entry → Type 0) (Is : List Entry → E → Type 0) (plan : Plan E) (made : List Entry) → ((made : List Entry) (last : E) → Is made last) → EndsAre Given Is made plan
any_ends Given Is (ends last) made all = all made last
any_ends Given Is never made all = tt
any_ends Given Is (asks op next) made all = λ e is given. any_ends Given Is (next e) (made ++ e ∷ []) all
any_ends Given Is (finds Such one next) made all = λ found is. any_ends Given Is (next found) made all

ends_of_both : {A E : Type 0} (Given : Entry → Type 0) (Is : List Entry → E → Type 0) (first : Plan A) (next : A → Plan E) (made : List Entry) → EndsAre Given (λ all last. EndsAre Given Is all (next last)) made first → EndsAre Given Is made (and_then first next)
ends_of_both Given Is (ends last) next made are = are
ends_of_both Given Is never next made are = tt
ends_of_both Given Is (asks op on) next made are = λ e is given. ends_of_both Given Is (on e) next (made ++ e ∷ []) (are e is given)
ends_of_both Given Is (finds Such one on) next made are = λ found is. ends_of_both Given Is (on found) next made (are found is)

-- ---- one group

-- an end tells of so many groups as have a plan, where all were done
abbrev Counts : List Group → CompactEnd → Type 0
Counts groups (Done collected compacted expired) = HavePlans groups compacted
Counts groups other = Unit {0}

abbrev Any : Entry → Type 0
Any e = Unit {0}

module _ (all : List Group) where
  abbrev Is : List Entry → CompactEnd → Type 0
  Is made end = Counts all end

  abbrev Ends : List Entry → Plan CompactEnd → Type 0
  Ends made plan = EndsAre Any Is made plan

  reads_end : (key : Key) (next : Entry → List ℕ → Plan CompactEnd) (made : List Entry) → ((e : Entry) (bytes : List ℕ) (made : List Entry) → Ends made (next e bytes)) → Ends made (reads read_ends key next)
  reads_end key next made on =
      gets_are Any Is made Fault key next (λ e. ends (Missing e.seq)) (λ e bytes is given reply. on e bytes (made ++ e ∷ [])) (λ e is given reply. tt) (λ e is given reply. tt)

  marks_end : (reason : Reason) (put : ℕ) (ulids : List ℕ) (next : ℕ → Plan CompactEnd) (made : List Entry) → ((more : ℕ) (made : List Entry) → Ends made (next more)) → Ends made (marking Fault reason put ulids next)
  marks_end reason put [] next made on = on put made
  marks_end reason put (ulid ∷ ulids) next made on =
      gets_are Any Is made Fault (key.Mark ulid)
      (λ e bytes. marking Fault reason put ulids next)
      (λ e. puts Fault (key.Mark ulid) (new_mark_text ulid e.moment (details_of reason)) (λ stored. marking Fault reason (put + 1) ulids next))
      (λ e bytes is given reply. marks_end reason put ulids next (made ++ e ∷ []) on)
      (λ e is given reply. puts_are Any Is (made ++ e ∷ []) Fault (key.Mark ulid) (new_mark_text ulid e.moment (details_of reason)) (λ stored. marking Fault reason (put + 1) ulids next)
      (λ stored is given reply. marks_end reason (put + 1) ulids next ((made ++ e ∷ []) ++ stored ∷ []) on)
      (λ stored is given reply. tt))
      (λ e is given reply. tt)

  segments_end : (ulid more : ℕ) (segments : List Read) (last : Entry) (next : List Read → Entry → Plan CompactEnd) (made : List Entry) → ((segments : List Read) (last : Entry) (made : List Entry) → Ends made (next segments last)) → Ends made (reads_segments read_ends ulid more segments last next)
  segments_end ulid zero segments last next made on = on segments last made
  segments_end ulid (suc more) segments last next made on =
      reads_end (key.Segment ulid (length segments + 1)) (λ e bytes. reads_segments read_ends ulid more (segments ++ read_at e bytes ∷ []) e next) made
      (λ e bytes made. segments_end ulid more (segments ++ read_at e bytes ∷ []) e next made on)

  index_end : (meta : Meta) (e : Entry) (bytes : List ℕ) (count : Option ℕ) (next : Input → Entry → Plan CompactEnd) (made : List Entry) → ((input : Input) (last : Entry) (made : List Entry) → Ends made (next input last)) → Ends made (after_index read_ends meta e bytes count next)
  index_end meta e bytes None next made on = tt
  index_end meta e bytes (Some count) next made on =
      segments_end meta.ulid count [] e (λ segments last. next (record { meta = meta; index = read_at e bytes; segments = segments }) last) made
      (λ segments last made. on (record { meta = meta; index = read_at e bytes; segments = segments }) last made)

  block_end : (meta : Meta) (next : Input → Entry → Plan CompactEnd) (made : List Entry) → ((input : Input) (last : Entry) (made : List Entry) → Ends made (next input last)) → Ends made (reads_block read_ends meta next)
  block_end meta next made on =
      reads_end (key.Index meta.ulid) (λ e bytes. after_index read_ends meta e bytes (named_segments bytes) next) made
      (λ e bytes made. index_end meta e bytes (named_segments bytes) next made on)

  blocks_end : (inputs : List Input) (last : Entry) (metas : List Meta) (next : List Input → Entry → Plan CompactEnd) (made : List Entry) → ((inputs : List Input) (last : Entry) (made : List Entry) → Ends made (next inputs last)) → Ends made (reads_blocks read_ends inputs last metas next)
  blocks_end inputs last [] next made on = on inputs last made
  blocks_end inputs last (meta ∷ metas) next made on =
      block_end meta (λ input e. reads_blocks read_ends (inputs ++ input ∷ []) e metas next) made
      (λ input e made. blocks_end (inputs ++ input ∷ []) e metas next made on)

  uploaded_end : (next : Plan CompactEnd) (last : UploadEnd × Option ℕ) (made : List Entry) → Ends made next → Ends made (after_upload next last)
  uploaded_end next (uploaded.Done objects, last) made is = is
  uploaded_end next (uploaded.Already, Some look) made is = tt
  uploaded_end next (uploaded.Already, None) made is = tt
  uploaded_end next (uploaded.Fault number, last) made is = tt

  merge_end : (ulid : ℕ) (parents : List ℕ) (next : Plan CompactEnd) (becomes : Merging) (made : List Entry) → ((made : List Entry) → Ends made next) → Ends made (after_merge ulid parents next becomes)
  merge_end ulid parents next (merging_is.Merged block) made on =
      ends_of_both Any Is (noting last_number None (upload ulid (block_objects ulid block))) (after_upload (marking Fault Compacted 0 parents (λ put. next))) made
      (any_ends Any (λ all last. Ends all (after_upload (marking Fault Compacted 0 parents (λ put. next)) last)) (noting last_number None (upload ulid (block_objects ulid block))) made
      (λ made last. uploaded_end (marking Fault Compacted 0 parents (λ put. next)) last made (marks_end Compacted 0 parents (λ put. next) made (λ more made. on made))))
  merge_end ulid parents next (merging_is.Refused number) made on = tt
  merge_end ulid parents next merging_is.TooLarge made on = tt

  group_end : (replicas : List (List ℕ)) (labels : List Label) (unplanned next : Plan CompactEnd) (first : Meta) (metas : List Meta) (made : List Entry) → ((made : List Entry) → Ends made next) → Ends made (compacting replicas labels unplanned next (first ∷ metas))
  group_end replicas labels unplanned next first metas made on =
      block_end first (λ input e. reads_blocks read_ends (input ∷ []) e metas (λ inputs last. merging replicas labels (ulids_of (first ∷ metas)) next inputs last.seq last.moment)) made
      (λ input e made. blocks_end (input ∷ []) e metas (λ inputs last. merging replicas labels (ulids_of (first ∷ metas)) next inputs last.seq last.moment) made
      (λ inputs last made becomes is. merge_end (new_ulid last.seq last.moment) (ulids_of (first ∷ metas)) next becomes made on))

-- ---- all groups

one_more : (compacted n : ℕ) → compacted + (n + 1) ≡ (compacted + 1) + n
one_more compacted n = omega arith

no_more : (compacted : ℕ) → compacted + 0 ≡ compacted
no_more compacted = omega arith

all_any : (entries : List Entry) → AllByRecursion Any entries
all_any [] = tt
all_any (e ∷ entries) = (tt, all_any entries)

module _ (all : List Group) where
  -- a group by its plan
  planned_end : (replicas : List (List ℕ)) (labels : List Label) (unplanned next : Plan CompactEnd) (plan : List Meta) (made : List Entry) → (plan ≡ [] → Ends all made unplanned) → ((first : Meta) (metas : List Meta) → plan ≡ first ∷ metas → (made : List Entry) → Ends all made next) → Ends all made (compacting replicas labels unplanned next plan)
  planned_end replicas labels unplanned next [] made none some = none refl
  planned_end replicas labels unplanned next (first ∷ metas) made none some = group_end all replicas labels unplanned next first metas made (some first metas refl)

  groups_end : (replicas : List (List ℕ)) (compacted : ℕ) (groups : List Group) (next : ℕ → Plan CompactEnd) (made : List Entry) → ((n : ℕ) (made : List Entry) → HavePlans groups n → Ends all made (next (compacted + n))) → Ends all made (compacting_groups replicas compacted groups next)
  groups_end replicas compacted [] next made on = subst (λ n. Ends all made (next n)) (no_more compacted) (on 0 made refl)
  groups_end replicas compacted (group ∷ groups) next made on = λ plan is.
      planned_end replicas group.labels (compacting_groups replicas compacted groups next) (compacting_groups replicas (compacted + 1) groups next) plan made
      (λ nil. groups_end replicas compacted groups next made (λ n made have. on n made ([], n, subst (IsPlan group.members) nil is, have, refl)))
      (λ first metas same made. groups_end replicas (compacted + 1) groups next made
      (λ n made have. subst (λ k. Ends all made (next k)) (one_more compacted n) (on (n + 1) made (first ∷ metas, n, subst (IsPlan group.members) same is, have, refl))))

  module _ (replicas : List (List ℕ)) (retention : Option Span) (view : View) where
    abbrev finish : ℕ → ℕ → Plan CompactEnd
    finish collected compacted = marking Fault Expired 0 (names_of (expired_at retention view.begin view.kept)) (λ expired. ends (Done collected compacted expired))

    abbrev compact : ℕ → List Group → Plan CompactEnd
    compact collected groups = compacting_groups replicas 0 groups (λ compacted. finish collected compacted)

    finish_end : (collected n : ℕ) (made : List Entry) → HavePlans all n → Ends all made (finish collected (0 + n))
    finish_end collected n made have =
        marks_end all Expired 0 (names_of (expired_at retention view.begin view.kept)) (λ expired. ends (Done collected (0 + n) expired)) made
        (λ expired made. subst (HavePlans all) (sym (zero-add n)) have)

    rounds_end : (made : List Entry) → AreGroups replicas (metas_of view.kept) all → Ends all made (rounds replicas retention view)
    rounds_end made are =
        marks_end all Covered 0 (names_of view.covered) (λ collected. finds (AreGroups replicas (metas_of view.kept)) (one_answer replicas (metas_of view.kept)) (λ groups. compact collected groups)) made
        (λ collected made found is. subst (λ groups. Ends all made (compact collected groups)) (one_answer replicas (metas_of view.kept) all found are is)
        (groups_end replicas 0 all (λ compacted. finish collected compacted) made (λ n made have. finish_end collected n made have)))

-- ---- none has a plan

none_planned : (groups : List Group) (count : ℕ) → HavePlans groups count → count ≡ 0 → AllByRecursion IsUnplanned groups
none_planned [] count have none = tt
none_planned (group ∷ groups) count ([], others, is, have, same) none = (is, none_planned groups others have (sym same ∙ none))
none_planned (group ∷ groups) count (first ∷ metas, others, is, have, same) none = let more : others + 1 ≡ 0 = sym same ∙ none in absurd (omega (arith, more))

all_unplanned : (groups : List Group) (count : ℕ) → HavePlans groups count → AllByRecursion IsUnplanned groups → count ≡ 0
all_unplanned [] count have all = have
all_unplanned (group ∷ groups) count (plan, others, is, have, same) all =
    same ∙ ap (λ (p : List Meta). with_planned p others) (one_plan group.members plan [] is all.0) ∙ all_unplanned groups others have all.1

module _ (rules : Rules) (entries : List Entry) (collected compacted expired : ℕ) where
  abbrev done : CompactEnd
  done = Done collected compacted expired

  have_plans : (view : View) (others : List Entry) → Runs (rounds rules.replicas rules.retention view) others (Some done) → (groups : List Group) → AreGroups rules.replicas (metas_of view.kept) groups → HavePlans groups compacted
  have_plans view others run groups are =
      end_is Any (λ made end. Counts groups end) (rounds rules.replicas rules.retention view) [] others done (rounds_end groups rules.replicas rules.retention view [] are) (all_any others) run

  after : (own others : List Entry) (told : Synced × Option Course) (end : SyncEnd) → entries ≡ own ++ others → Runs (sync (sync_rules rules)) own (Some told) → IsEnd (sync_rules rules) told end → Runs (after_sync rules.replicas rules.retention end) others (Some done) → IsCounted rules entries compacted
  after own others told (ended.View view) same first is run = record {
    own = own;
    others = others;
    are = same;
    view = view;
    synced = (told, first, is);
    counted = have_plans view others run;
    none = λ groups are. (none_planned groups compacted (have_plans view others run groups are), all_unplanned groups compacted (have_plans view others run groups are));
  }
  after own others told (ended.Fault number) same first is (nil, inl none) = absurd (cc (none))
  after own others told (ended.Fault number) same first is (nil, inr end) = absurd (cc (end))
  after own others told (ended.Damaged number) same first is (nil, inl none) = absurd (cc (none))
  after own others told (ended.Damaged number) same first is (nil, inr end) = absurd (cc (end))
  after own others told ended.TooMany same first is (nil, inl none) = absurd (cc (none))
  after own others told ended.TooMany same first is (nil, inr end) = absurd (cc (end))

  abbrev next : Synced × Option Course → Plan CompactEnd
  next told = finds (IsEnd (sync_rules rules) told) (one_end_of (sync_rules rules) told) (after_sync rules.replicas rules.retention)

  counted_parts : Parts (sync (sync_rules rules)) next entries (Some done) → IsCounted rules entries compacted
  counted_parts (broken one none) = absurd (cc (none))
  counted_parts (both own others told same first (inl none)) = absurd (cc (none.1))
  counted_parts (both own others told same first (inr (end, is, run))) = after own others told end same first is run

  pub counted : CompactRun rules entries (Some done) → IsCounted rules entries compacted
  counted run = counted_parts (parts (sync (sync_rules rules)) next entries (Some done) run)
