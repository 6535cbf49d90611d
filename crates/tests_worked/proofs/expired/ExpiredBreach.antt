-- What the run of the block that expired shows: its breach, and why the mark was put.
use Rattle.std.proofs.Common.{◌≡◌, ◌≢◌, ◌⊎◌, inl, inr, ℕ, zero, suc, ◌+◌, ◌*◌, ◌<◌, ◌≤◌, pos, List, [], ◌∷◌, ◌++◌, Contains, Ok, Option, Some, None, ◌==◌, refl, sym, ◌∙◌, ap, subst, arith, lit<, lit≤}
use Rattle.std.specs.Prelude.{drop, fold, slice_get}
use Rattle.std.specs.List.{All}
use Rattle.std.proofs.lemmas.Int.{ints}
use Rattle.std.proofs.lemmas.List.Elements.{All-cons, All-contains, All-contains_itself, All-from_recursion, All-head, All-nil, All-tail, All-weaker, Contains-append_left, Contains-append_right}
use Rattle.base.proofs.Membership.{contains_first, no_member, only_member}
use Rattle.block_keys.specs.declared.key.Key.{Key}
use Rattle.block_keys.specs.declared.key.Key.TheVariants as key
use Rattle.block_meta.specs.MetaFields.{MetaFields, fields_of}
use Rattle.block_meta.specs.MetaReading.{mark_of_text, meta_of_text}
use Rattle.block_meta.specs.MetaText.{IsMarkText, IsMetaText}
use Rattle.block_meta.proofs.FoundTexts.{mark_text_only, meta_text_only}
use Rattle.ulid_core.specs.Times.{time_of}
use Rattle.world_core.specs.Operations.{IsReplyTo}
use Rattle.world_core.specs.Standing.{Tells, stands}
use Rattle.world_core.specs.declared.entry.Entry.{Entry}
use Rattle.world_core.specs.declared.op.Op.TheVariants as op
use Rattle.meta_fetcher.specs.declared.sync.SyncEnd.{SyncEnd}
use Rattle.meta_fetcher.specs.declared.sync.SyncEnd.TheVariants as fetched
use Rattle.meta_fetcher.specs.declared.view.View.{View}
use Rattle.script_core.specs.Workers.{workers_of}
use Rattle.script_workers.specs.declared.phase.Phase.{Phase}
use Rattle.script_workers.specs.declared.task.Task.{Task}
use Rattle.script_workers.specs.declared.work.Work.{Work}
use Rattle.script_workers.specs.declared.work.Work.TheVariants as works
use Rattle.script_workers.specs.declared.worker.Worker.{Worker}
use Rattle.lifecycle_core.specs.Breaches.{IsBreach, IsCompactorSeat, IsKept, IsSeatOf, IsSyncIn, IsViewAt, IsWorkAt, Refuses, Rule, honesty, mark_time, rank, read_time, sync_time, upload_time, view_time}
use Rattle.lifecycle_core.specs.Causes.{IsExplained}
use Rattle.lifecycle_core.specs.Completed.{IsCompletedAt, IsExpired, IsSettled, PutsMeta}
use Rattle.lifecycle_core.specs.Decisions.{DecidesToDelete}
use Rattle.lifecycle_core.specs.Guarantees.{LeavesNoneOut, NamesAll}
use Rattle.lifecycle_core.specs.Marked.{IsFirstMark, IsMarkedFor, PutsSomeMark}
use Rattle.lifecycle_core.specs.Setting.{Setting}
use Rattle.lifecycle_core.specs.Tasks.{last_number, sync_rules}
use Rattle.lifecycle_core.specs.TimeRules.{IsBlockObject, PutsMark, PutsObject}
use Rattle.lifecycle_core.proofs.deeds.Orders.{in_seat}
use Rattle.lifecycle_core.proofs.journals.Honesty.{no_lie}
use Rattle.world_core.specs.Journals.{Each, of_seat}
use Rattle.world_core.proofs.Growing.{Each-push}
use Rattle.tests_worked.specs.Entries.{absent, clock, deleted, entry, found, listed, stored}
use Rattle.tests_worked.specs.ExpiredBlock as row
use Rattle.tests_worked.specs.SmallBlock as small
use Rattle.tests_worked.specs.SmallRuns as runs
use Rattle.tests_worked.proofs.small.Bucket.{page, shows_meta, shows_no_mark}
use Rattle.tests_worked.proofs.small.Each.{each_of}
use Rattle.tests_worked.proofs.expired.ExpiredBlock.{fifth_workers, first_workers, fourth_workers, hasty_first_workers, hasty_second_workers, hasty_third_workers, second_workers, third_workers}
use Rattle.tests_worked.proofs.expired.ExpiredMark.{block_mark_reads, is_mark_text, mark_reads}
use Rattle.tests_worked.proofs.expired.ExpiredRounds.{cleaning_begun}
use Rattle.tests_worked.proofs.expired.LonePhases.{gateway_at, lone}
use Rattle.tests_worked.proofs.expired.MarkedBucket as bucket
use Rattle.tests_worked.proofs.one.OneInTime.{in_time, same_ulid}
use Rattle.tests_worked.proofs.small.SmallMeta.{is_meta_text, meta_reads}
use Rattle.tests_worked.proofs.small.SmallTasks.{sync_run}

-- ---- who sits where

not_lone : (seat gateway : ℕ) (worker : Worker) → lone seat ≡ worker → worker.gateway ≡ Some gateway → ⊥
not_lone seat gateway worker same own = let none = ap (λ (w : Worker). w.gateway) same in cc (none, own)

of_gateway : (number gateway seat : ℕ) (worker : Worker) → Contains (workers_of row.script number) worker → worker.gateway ≡ Some gateway → worker.seat ≡ seat → (seat ≡ 2) ⊎ (seat ≡ 5)
of_gateway zero gateway seat worker among own is = absurd (not_lone 1 gateway worker (only_member (lone 1) worker (subst (λ (ws : List Worker). Contains ws worker) first_workers among)) own)
of_gateway (suc zero) gateway seat worker among own is =
    inl (sym (ap (λ (w : Worker). w.seat) (only_member (gateway_at 2) worker (subst (λ (ws : List Worker). Contains ws worker) second_workers among)) ∙ is))
of_gateway (suc (suc zero)) gateway seat worker among own is = absurd (not_lone 3 gateway worker (only_member (lone 3) worker (subst (λ (ws : List Worker). Contains ws worker) third_workers among)) own)
of_gateway (suc (suc (suc zero))) gateway seat worker among own is = absurd (not_lone 4 gateway worker (only_member (lone 4) worker (subst (λ (ws : List Worker). Contains ws worker) fourth_workers among)) own)
of_gateway (suc (suc (suc (suc zero)))) gateway seat worker among own is =
    inr (sym (ap (λ (w : Worker). w.seat) (only_member (gateway_at 5) worker (subst (λ (ws : List Worker). Contains ws worker) fifth_workers among)) ∙ is))
of_gateway (suc (suc (suc (suc (suc number))))) gateway seat worker among own is = absurd (no_member worker among)

gateway_seat : (gateway seat : ℕ) → IsSeatOf row.setting gateway seat → (seat ≡ 2) ⊎ (seat ≡ 5)
gateway_seat gateway seat (number, worker, among, own, is) = of_gateway number gateway seat worker among own is

-- what the one task of a phase asks for
work_there : (number place : ℕ) (work : Work) (phase : Phase) (task : Task) → slice_get row.script.phases number ≡ Some phase → slice_get phase.tasks 0 ≡ Some task → 0 ≡ place → IsWorkAt row.setting number place work → task.work ≡ work
work_there number place work phase task at own first is =
    let same : phase ≡ is.phase = cc (at, is.in_phases) in
    let told : Some task ≡ Some is.task = sym own ∙ ap (slice_get phase.tasks) first ∙ ap (λ (p : Phase). slice_get p.tasks place) same ∙ is.in_tasks in
    let alike : task ≡ is.task = cc (told) in ap (λ (t : Task). t.work) alike ∙ is.asks

module _ (seat place : ℕ) (stop : Option ℕ) where
  no_compaction : (number : ℕ) (own worker : Worker) (phase : Phase) (task : Task) → own.tasks ≡ 0 ∷ [] → slice_get row.script.phases number ≡ Some phase → slice_get phase.tasks 0 ≡ Some task → (task.work ≡ works.Compact stop → ⊥)
      → own ≡ worker → Contains worker.tasks place → ¬ IsWorkAt row.setting number place (works.Compact stop)
  no_compaction number own worker phase task one at first other same holds is =
      let places = only_member 0 place (subst (λ (l : List ℕ). Contains l place) (ap (λ (w : Worker). w.tasks) (sym same) ∙ one) holds) in
      other (work_there number place (works.Compact stop) phase task at first places is)

  of_compactor : (number : ℕ) (worker : Worker) → Contains (workers_of row.script number) worker → worker.seat ≡ seat → Contains worker.tasks place → IsWorkAt row.setting number place (works.Compact stop) → seat ≡ 3
  of_compactor zero worker among sits own is =
      absurd (no_compaction 0 (lone 1) worker (row.phase 5 0 (works.Upload small.a None)) (record { line = 6; work = works.Upload small.a None }) refl refl refl (λ same. cc (same)) (only_member (lone 1) worker (subst (λ (ws : List Worker). Contains ws worker) first_workers among)) own is)
  of_compactor (suc zero) worker among sits own is =
      absurd (no_compaction 1 (gateway_at 2) worker (row.phase 7 1_800_000 (works.Sync 0)) (record { line = 8; work = works.Sync 0 }) refl refl refl (λ same. cc (same)) (only_member (gateway_at 2) worker (subst (λ (ws : List Worker). Contains ws worker) second_workers among)) own is)
  of_compactor (suc (suc zero)) worker among sits own is =
      sym (ap (λ (w : Worker). w.seat) (only_member (lone 3) worker (subst (λ (ws : List Worker). Contains ws worker) third_workers among)) ∙ sits)
  of_compactor (suc (suc (suc zero))) worker among sits own is =
      absurd (no_compaction 3 (lone 4) worker (row.phase 11 180_000_000 (works.Clean None)) (record { line = 12; work = works.Clean None }) refl refl refl (λ same. cc (same)) (only_member (lone 4) worker (subst (λ (ws : List Worker). Contains ws worker) fourth_workers among)) own is)
  of_compactor (suc (suc (suc (suc zero)))) worker among sits own is =
      absurd (no_compaction 4 (gateway_at 5) worker (row.phase 13 180_000_100 (works.Query (pos 0) (pos 5000) 0)) (record { line = 14; work = works.Query (pos 0) (pos 5000) 0 }) refl refl refl (λ same. cc (same)) (only_member (gateway_at 5) worker (subst (λ (ws : List Worker). Contains ws worker) fifth_workers among)) own is)
  of_compactor (suc (suc (suc (suc (suc number))))) worker among sits own is = absurd (no_member worker among)

compactor_seat : (seat : ℕ) → IsCompactorSeat row.setting seat → seat ≡ 3
compactor_seat seat is = of_compactor seat is.place is.stop is.number is.worker is.works is.sits is.own is.compacts

-- the entries of a sync are of its seat
sync_seat : (setting : Setting) (journal : List Entry) (gateway : ℕ) (entries : List Entry) (end : Option SyncEnd) (s : IsSyncIn setting journal gateway entries end) (e : Entry) → Contains entries e → Contains (of_seat s.seat journal) e
sync_seat setting journal gateway entries end s e among =
    let own : Contains ((s.sync.before ++ entries) ++ s.sync.after) e = Contains-append_left (s.sync.before ++ entries) s.sync.after e (Contains-append_right s.sync.before entries e among) in
    subst (λ (es : List Entry). Contains es e) (sym s.sync.parts) own

last_of : (front : List Entry) (e : Entry) (entries : List Entry) → entries ≡ front ++ e ∷ [] → Contains entries e
last_of front e entries is = subst (λ (es : List Entry). Contains es e) (sym is) (Contains-append_right front (e ∷ []) e (contains_first e []))

-- ---- what keeps the rules

module _ (setting : Setting) (journal before : List Entry) (e : Entry) (kind : IsReplyTo e.op e.reply) (tells : Tells (stands before) e.op e.reply)
    (timely : (ulid : ℕ) → PutsObject ulid e → (time_of ulid ≤ e.moment.ms) × (e.moment.ms ≤ time_of ulid + setting.script.rules.upload.ms))
    (in_second : (ulid second : ℕ) → PutsMark ulid second e → e.moment.ms ≤ 1000 * second + setting.script.rules.ignore.ms)
    (synced : (x y : ℕ) → ¬ Refuses setting journal sync_time before e x y) (viewed : (x y : ℕ) → ¬ Refuses setting journal view_time before e x y) (read : (x y : ℕ) → ¬ Refuses setting journal read_time before e x y) where
  keeps : IsKept setting journal before e
  keeps honesty x y lie = no_lie before e x y kind tells lie
  keeps upload_time x y (ulid, puts, inl (is, most, over)) = let limits = timely ulid puts in omega (arith, limits.0, over)
  keeps upload_time x y (ulid, puts, inr (is, most, over)) = let limits = timely ulid puts in omega (arith, limits.1, over)
  keeps mark_time x y (ulid, second, puts, (is, most, over)) = let limit = in_second ulid second puts in omega (arith, limit, over)
  keeps sync_time x y refused = synced x y refused
  keeps view_time x y refused = viewed x y refused
  keeps read_time x y refused = read x y refused

mark_second : (ulid second : ℕ) → PutsMark ulid second row.put → 1_860 ≡ second
mark_second ulid second (bytes, mark, is, landed, text, time) =
    let same : row.mark ≡ bytes = cc (is) in
    let reads : mark_of_text row.mark ≡ Ok mark = mark_text_only row.mark mark (subst (λ (bs : List ℕ). IsMarkText bs mark) (sym same) text) in
    let alike : row.marked ≡ mark = cc (mark_reads, reads) in
    ap (λ m. m.deletion_time) alike ∙ time

-- a mark is no object that is uploaded
no_object : (ulid : ℕ) → ¬ PutsObject ulid row.put
no_object ulid (k, bytes, is, own, object) = let same : key.Mark small.a ≡ k = cc (is) in subst (λ (x : Key). IsBlockObject x) (sym same) object

mark_soon : (ulid second : ℕ) → PutsMark ulid second row.put → 1_860_005 ≤ 1000 * second + 86_400_000
mark_soon ulid second puts = let is = mark_second ulid second puts in omega (arith, is)

abbrev Keeps : List Entry → Entry → Type 0
Keeps = IsKept row.setting row.journal

-- an entry of the first half hour
early : (before : List Entry) (e : Entry) → e.moment.ms ≤ 1_860_005 → IsReplyTo e.op e.reply → Tells (stands before) e.op e.reply
    → ((ulid : ℕ) → PutsObject ulid e → (time_of ulid ≤ e.moment.ms) × (e.moment.ms ≤ time_of ulid + 1_800_000)) → ((ulid second : ℕ) → PutsMark ulid second e → e.moment.ms ≤ 1000 * second + 86_400_000) → Keeps before e
early before e soon kind tells timely in_second = keeps row.setting row.journal before e kind tells timely in_second
    (λ x y (entries, end, first, others, front, sync, begins, ends, (is, most, over)). let far : first.moment.ms + 86_400_000 < e.moment.ms + 1_000 = over in omega (arith, soon, far))
    (λ x y (view, reads, (is, most, over)). let far : view.begin.ms + 172_800_000 < e.moment.ms + 86_400_000 = over in omega (arith, soon, far))
    (λ x y (begin, reads, (is, most, over)). let far : begin.ms + 86_400_000 < e.moment.ms = over in omega (arith, soon, far))

-- a seat that is neither a gateway's nor the compaction's
abbrev IsOther : ℕ → Type 0
IsOther seat = ((gateway : ℕ) → ¬ IsSeatOf row.setting gateway seat) × (¬ IsCompactorSeat row.setting seat)

other_seat : (seat : ℕ) → seat ≢ 2 → seat ≢ 5 → seat ≢ 3 → IsOther seat
other_seat seat two five three = (λ gateway sits. elim (gateway_seat gateway seat sits) [ inl is ↦ two is | inr is ↦ five is ], λ sits. three (compactor_seat seat sits))

cleaner : IsOther 4
cleaner = other_seat 4 (λ is. omega (arith, is)) (λ is. omega (arith, is)) (λ is. omega (arith, is))

nobody : IsOther 0
nobody = other_seat 0 (λ is. omega (arith, is)) (λ is. omega (arith, is)) (λ is. omega (arith, is))

-- a later entry at such a seat
late : (before : List Entry) (e : Entry) → IsOther e.seat → IsReplyTo e.op e.reply → Tells (stands before) e.op e.reply
    → ((ulid : ℕ) → PutsObject ulid e → (time_of ulid ≤ e.moment.ms) × (e.moment.ms ≤ time_of ulid + 1_800_000)) → ((ulid second : ℕ) → PutsMark ulid second e → e.moment.ms ≤ 1000 * second + 86_400_000) → Keeps before e
late before e other kind tells timely in_second = keeps row.setting row.journal before e kind tells timely in_second
    (λ x y (entries, end, first, others, front, (gateway, sync), begins, ends, over).
    let sits = in_seat sync.seat row.journal e (sync_seat row.setting row.journal gateway entries end sync e (last_of front e entries ends)) in other.0 gateway (subst (IsSeatOf row.setting gateway) (sym sits.1) sync.sits))
    (λ x y (view, (gateway, (sits, reads), has), over). other.0 gateway sits) (λ x y (begin, (sits, reads), over). other.1 sits)

-- ---- the breach

front_keeps : Each Keeps row.until_query
front_keeps = each_of Keeps row.until_query (early _ (clock 1 0) (lit≤ tt) tt tt (λ ulid p. cc (p.2)) (λ ulid second p. cc (p.2)), (early _ (absent 2 1 1 (key.Meta small.a)) (lit≤ tt) tt refl (λ ulid p. cc (p.2)) (λ ulid second p. cc (p.2)), (early _ (stored 3 1 2 (key.Segment small.a 1) small.segment) (lit≤ tt) tt tt (λ ulid p. in_time ulid 2 (lit≤ tt) (cc (p.2, p.3))) (λ ulid second p. cc (p.2)), (early _ (stored 4 1 3 (key.Index small.a) small.index) (lit≤ tt) tt tt (λ ulid p. in_time ulid 3 (lit≤ tt) (cc (p.2, p.3))) (λ ulid second p. cc (p.2)), (early _ (stored 5 1 4 (key.Meta small.a) small.meta) (lit≤ tt) tt tt (λ ulid p. in_time ulid 4 (lit≤ tt) (cc (p.2, p.3))) (λ ulid second p. cc (p.2)), (early _ (clock 6 1_800_000) (lit≤ tt) tt tt (λ ulid p. cc (p.2)) (λ ulid second p. cc (p.2)), (early _ (listed 7 2 1_800_001 (small.a_text ∷ [])) (lit≤ tt) tt page (λ ulid p. cc (p.2)) (λ ulid second p. cc (p.2)), (early _ (absent 8 2 1_800_002 (key.Mark small.a)) (lit≤ tt) tt shows_no_mark (λ ulid p. cc (p.2)) (λ ulid second p. cc (p.2)), (early _ (found 9 2 1_800_003 (key.Meta small.a) small.meta) (lit≤ tt) tt shows_meta (λ ulid p. cc (p.2)) (λ ulid second p. cc (p.2)), (early _ (clock 10 1_860_000) (lit≤ tt) tt tt (λ ulid p. cc (p.2)) (λ ulid second p. cc (p.2)), (early _ (listed 11 3 1_860_001 (small.a_text ∷ [])) (lit≤ tt) tt page (λ ulid p. cc (p.2)) (λ ulid second p. cc (p.2)), (early _ (absent 12 3 1_860_002 (key.Mark small.a)) (lit≤ tt) tt shows_no_mark (λ ulid p. cc (p.2)) (λ ulid second p. cc (p.2)), (early _ (found 13 3 1_860_003 (key.Meta small.a) small.meta) (lit≤ tt) tt shows_meta (λ ulid p. cc (p.2)) (λ ulid second p. cc (p.2)), (early _ (row.look) (lit≤ tt) tt shows_no_mark (λ ulid p. cc (p.2)) (λ ulid second p. cc (p.2)), (early _ (row.put) (lit≤ tt) tt tt (λ ulid p. absurd (no_object ulid p)) (mark_soon), (late _ (clock 16 180_000_000) nobody tt tt (λ ulid p. cc (p.2)) (λ ulid second p. cc (p.2)), (late _ (row.cleaning_page) cleaner tt bucket.page (λ ulid p. cc (p.2)) (λ ulid second p. cc (p.2)), (late _ (row.mark_read) cleaner tt bucket.shows_mark (λ ulid p. cc (p.2)) (λ ulid second p. cc (p.2)), (late _ (row.block_page) cleaner tt bucket.names (λ ulid p. cc (p.2)) (λ ulid second p. cc (p.2)), (late _ (deleted 20 4 180_000_004 (key.Meta small.a)) cleaner tt tt (λ ulid p. cc (p.2)) (λ ulid second p. cc (p.2)), (late _ (deleted 21 4 180_000_005 (key.Segment small.a 1)) cleaner tt tt (λ ulid p. cc (p.2)) (λ ulid second p. cc (p.2)), (late _ (deleted 22 4 180_000_006 (key.Index small.a)) cleaner tt tt (λ ulid p. cc (p.2)) (λ ulid second p. cc (p.2)), (late _ (deleted 23 4 180_000_007 (key.Mark small.a)) cleaner tt tt (λ ulid p. cc (p.2)) (λ ulid second p. cc (p.2)), (late _ (clock 24 180_000_100) nobody tt tt (λ ulid p. cc (p.2)) (λ ulid second p. cc (p.2)), tt))))))))))))))))))))))))

sync_seen : IsSyncIn row.setting row.journal 0 row.sync (Some (fetched.View row.view))
sync_seen = record {
  seat = 2;
  sits = (1, gateway_at 2, subst (λ (ws : List Worker). Contains ws (gateway_at 2)) (sym second_workers) (0, lit< tt, refl), refl, refl);
  sync = record { before = []; after = []; parts = refl; run = sync_run 7 2 1_800_001 (Some (runs.seen 1_800_001)) refl; whole = λ none. absurd (cc (none)) };
  alone = λ others own other earlier. omega (arith, earlier);
}

-- the last number of entries with such numbers
number_within : (most last : ℕ) (entries : List Entry) → last ≤ most → All (λ (e : Entry). e.seq ≤ most) entries → fold (λ (l : ℕ) (e : Entry). e.seq) last entries ≤ most
number_within most last [] below all = below
number_within most last (e ∷ entries) below all = number_within most e.seq entries (All-head (λ (x : Entry). x.seq ≤ most) e entries all) (All-tail (λ (x : Entry). x.seq ≤ most) e entries all)

number_above : (least last : ℕ) (entries : List Entry) → least ≤ last → All (λ (e : Entry). least ≤ e.seq) entries → least ≤ fold (λ (l : ℕ) (e : Entry). e.seq) last entries
number_above least last [] above all = above
number_above least last (e ∷ entries) above all = number_above least e.seq entries (All-head (λ (x : Entry). least ≤ x.seq) e entries all) (All-tail (λ (x : Entry). least ≤ x.seq) e entries all)

late_or_none : (entries : List Entry) → All (λ (e : Entry). 25 ≤ e.seq) entries → last_number entries < 25 → last_number entries ≤ 9
late_or_none [] all less = lit≤ tt
late_or_none (e ∷ entries) all less =
    let above = number_above 25 e.seq entries (All-head (λ (x : Entry). 25 ≤ x.seq) e entries all) (All-tail (λ (x : Entry). 25 ≤ x.seq) e entries all) in absurd (omega (arith, above, less))

-- what holds of each entry of a sync's seat
of_sync : (P : Entry → Type 0) (seat : ℕ) (entries : List Entry) (end : Option SyncEnd) (s : IsSyncIn row.setting row.journal 0 entries end) → s.seat ≡ seat → All P (of_seat seat row.journal) → All P entries
of_sync P seat entries end s is all =
    All-weaker (Contains entries) P (λ e among. All-contains P (of_seat seat row.journal) e all (subst (λ (n : ℕ). Contains (of_seat n row.journal) e) is (sync_seat row.setting row.journal 0 entries end s e among))) entries (All-contains_itself entries)

no_later : (others : List Entry) (other : View) (s : IsSyncIn row.setting row.journal 0 others (Some (fetched.View other))) → last_number others < 25 → last_number others ≤ 9
no_later others other s less = elim (gateway_seat 0 s.seat s.sits) [
  | inl two ↦ number_within 9 0 others (lit≤ tt) (of_sync (λ (e : Entry). e.seq ≤ 9) 2 others (Some (fetched.View other)) s two (All-from_recursion (λ (e : Entry). e.seq ≤ 9) row.sync (lit≤ tt, (lit≤ tt, (lit≤ tt, tt)))))
  | inr five ↦ late_or_none others (of_sync (λ (e : Entry). 25 ≤ e.seq) 5 others (Some (fetched.View other)) s five (All-from_recursion (λ (e : Entry). 25 ≤ e.seq) (row.read ∷ []) (lit≤ tt, tt))) less
]

view_there : IsViewAt row.setting row.journal 0 25 row.view
view_there = record { entries = row.sync; gave = sync_seen; before = lit< tt; last = no_later }

late_read : Refuses row.setting row.journal view_time row.until_query row.read 266_400_101 174_600_001
late_read = (row.view, (0, ((4, gateway_at 5, subst (λ (ws : List Worker). Contains ws (gateway_at 5)) (sym fifth_workers) (0, lit< tt, refl), refl, refl), (key.Index small.a, refl, tt)), view_there), (refl, refl, lit< tt))

-- a sync that ends with the read has no other entry
no_sync : (gateway : ℕ) (entries : List Entry) (end : Option SyncEnd) (sync : IsSyncIn row.setting row.journal gateway entries end) (first : Entry) → Contains entries row.read → Contains entries first → 180_000_101 ≤ first.moment.ms
no_sync gateway entries end sync first own among =
    let sits = in_seat sync.seat row.journal row.read (sync_seat row.setting row.journal gateway entries end sync row.read own) in
    let all : All (λ (e : Entry). 180_000_101 ≤ e.moment.ms) (of_seat 5 row.journal) = All-from_recursion (λ (e : Entry). 180_000_101 ≤ e.moment.ms) (row.read ∷ []) (lit≤ tt, tt) in
    All-contains (λ (e : Entry). 180_000_101 ≤ e.moment.ms) (of_seat 5 row.journal) first all (subst (λ (n : ℕ). Contains (of_seat n row.journal) first) (sym sits.1) (sync_seat row.setting row.journal gateway entries end sync first among))

-- no other rule refuses the read
only_view : (rule : Rule) (x y : ℕ) → Refuses row.setting row.journal rule row.until_query row.read x y → rule ≡ view_time
only_view honesty x y lie = absurd (no_lie row.until_query row.read x y tt bucket.shows_nothing lie)
only_view upload_time x y (ulid, puts, over) = absurd (cc (puts.2))
only_view mark_time x y (ulid, second, puts, over) = absurd (cc (puts.2))
only_view sync_time x y (entries, end, first, others, front, (gateway, sync), begins, ends, (is, most, over)) =
    let from = no_sync gateway entries end sync first (last_of front row.read entries ends) (subst (λ (es : List Entry). Contains es first) (sym begins) (contains_first first others)) in
    let far : first.moment.ms + 86_400_000 < 180_001_101 = over in absurd (omega (arith, from, far))
only_view view_time x y refused = refl
only_view read_time x y (begin, (sits, reads), over) = let three = compactor_seat 5 sits in absurd (omega (arith, three))

pub is_breach : IsBreach row.setting row.journal view_time 25 266_400_101 174_600_001
is_breach = record {
  before = row.until_query;
  entry = row.read;
  after = [];
  parts = refl;
  is = refl;
  refused = late_read;
  first = front_keeps;
  foremost = λ other x y less refused. let same = ap rank (only_view other x y refused) in omega (arith, less, same);
}

pub explained : IsExplained row.setting row.journal 25
explained = record {
  missed = row.read;
  key = key.Index small.a;
  at = refl;
  reads = refl;
  absent = refl;
  rule = view_time;
  before = row.until_query;
  entry = row.read;
  after = [];
  x = 266_400_101;
  y = 174_600_001;
  parts = refl;
  early = lit≤ tt;
  refused = late_read;
  blamed = refl;
}

abbrev OnlyViews : List Entry → Entry → Type 0
OnlyViews before e = (rule : Rule) (x y : ℕ) → Refuses row.setting row.journal rule before e x y → rule ≡ view_time

all_only : Each OnlyViews row.journal
all_only = Each-push OnlyViews row.until_query row.read (λ before after e parts rule x y refused. absurd (front_keeps before after e parts rule x y refused)) only_view

pub only_cause : (cause : IsExplained row.setting row.journal 25) → cause.rule ≡ view_time
only_cause cause = all_only cause.before cause.after cause.entry cause.parts cause.rule cause.x cause.y cause.refused

-- ---- the mark

abbrev before_meta : List Entry
before_meta = clock 1 0 ∷ absent 2 1 1 (key.Meta small.a) ∷ stored 3 1 2 (key.Segment small.a 1) small.segment ∷ stored 4 1 3 (key.Index small.a) small.index ∷ []

complete : IsCompletedAt row.journal small.a 5 (fields_of small.said)
complete = record {
  before = before_meta;
  entry = stored 5 1 4 (key.Meta small.a) small.meta;
  after = drop 5 row.journal;
  is = refl;
  number = refl;
  bytes = small.meta;
  puts = refl;
  landed = refl;
  text = is_meta_text;
  first = All-from_recursion (λ (e : Entry). ¬ PutsMeta small.a e) before_meta (λ put. cc (put.1), (λ put. cc (put.1), (λ put. cc (put.1), (λ put. cc (put.1), tt))));
}

pub first_mark : IsFirstMark small.a 1_860 row.until_put row.put
first_mark = record {
  marks = (row.mark, row.marked, refl, refl, is_mark_text, refl);
  first = All-from_recursion (λ (e : Entry). ¬ PutsSomeMark small.a e) row.until_put (λ put. cc (put.1), (λ put. cc (put.1), (λ put. cc (put.1), (λ put. cc (put.1), (λ put. cc (put.1), (λ put. cc (put.1), (λ put. cc (put.1), (λ put. cc (put.1), (λ put. cc (put.1), (λ put. cc (put.1), (λ put. cc (put.1), (λ put. cc (put.1), (λ put. cc (put.1), (λ put. cc (put.1), tt))))))))))))));
}

pub marked_for : IsMarkedFor row.setting row.journal small.a 1_860 row.put
marked_for = record {
  look = row.look;
  looked = (13, lit< tt, refl);
  same = refl;
  before = lit< tt;
  asks = refl;
  absent = refl;
  from = lit≤ tt;
  upto = lit< tt;
  seq = 5;
  meta = fields_of small.said;
  completed = complete;
  earlier = lit< tt;
  cause = inr (refl, omega (arith, ints));
}

pub decides : DecidesToDelete row.setting row.until_read row.mark_read small.a
decides = record { cleans = cleaning_begun; why = inl (record { bytes = row.mark; mark = row.marked; asks = refl; found = refl; reads = block_mark_reads; old = refl }) }

-- ---- what is settled

-- what is put as the block's meta
abbrev PutsOwn : Entry → Type 0
PutsOwn e = (bytes : List ℕ) → e.op ≡ op.Put (key.Meta small.a) bytes → bytes ≡ small.meta

own_meta : All PutsOwn row.journal
own_meta = All-from_recursion PutsOwn row.journal (λ bs is. cc (is), (λ bs is. cc (is), (λ bs is. cc (is), (λ bs is. cc (is), (λ bs is. cc (is), (λ bs is. cc (is), (λ bs is. cc (is), (λ bs is. cc (is), (λ bs is. cc (is), (λ bs is. cc (is), (λ bs is. cc (is), (λ bs is. cc (is), (λ bs is. cc (is), (λ bs is. cc (is), (λ bs is. cc (is), (λ bs is. cc (is), (λ bs is. cc (is), (λ bs is. cc (is), (λ bs is. cc (is), (λ bs is. cc (is), (λ bs is. cc (is), (λ bs is. cc (is), (λ bs is. cc (is), (λ bs is. cc (is), (λ bs is. cc (is), tt)))))))))))))))))))))))))

pub unsettled : (ulid : ℕ) → ¬ IsSettled row.setting row.journal (sync_rules row.setting 0) row.used ulid
unsettled ulid settled =
    let up = settled.uploaded in
    let done = up.completed in
    let same : small.a ≡ ulid = same_ulid ulid (small.a == ulid) refl up.is_declared in
    let puts : done.entry.op ≡ op.Put (key.Meta small.a) done.bytes = subst (λ (u : ℕ). done.entry.op ≡ op.Put (key.Meta u) done.bytes) (sym same) done.puts in
    let among : Contains row.journal done.entry = subst (λ (es : List Entry). Contains es done.entry) (sym done.is) (Contains-append_right done.before (done.entry ∷ done.after) done.entry (contains_first done.entry done.after)) in
    let bytes = All-contains PutsOwn row.journal done.entry own_meta among done.bytes puts in
    let reads : meta_of_text small.meta ≡ Ok up.meta = meta_text_only small.meta up.meta (subst (λ (bs : List ℕ). IsMetaText bs up.meta) bytes done.text) in
    let meta : fields_of small.said ≡ up.meta = cc (meta_reads, reads) in
    settled.fresh (subst (λ (m : MetaFields). IsExpired row.script.rules.retention m row.used.view.begin) meta (refl, omega (arith, ints)))

pub covered : LeavesNoneOut row.setting row.journal row.nothing_answered
covered = All-cons (NamesAll row.setting row.journal) (record { gateway = 0; used = row.used; low = pos 0; high = pos 5000; sources = [] }) [] (λ ulid settled. absurd (unsettled ulid settled)) (All-nil (NamesAll row.setting row.journal))

-- ---- where marks have to land at once

no_hasty_gateway : (number gateway : ℕ) (worker : Worker) → Contains (workers_of row.hasty_script number) worker → worker.gateway ≡ Some gateway → ⊥
no_hasty_gateway zero gateway worker among own = not_lone 1 gateway worker (only_member (lone 1) worker (subst (λ (ws : List Worker). Contains ws worker) hasty_first_workers among)) own
no_hasty_gateway (suc zero) gateway worker among own = not_lone 2 gateway worker (only_member (lone 2) worker (subst (λ (ws : List Worker). Contains ws worker) hasty_second_workers among)) own
no_hasty_gateway (suc (suc zero)) gateway worker among own = not_lone 3 gateway worker (only_member (lone 3) worker (subst (λ (ws : List Worker). Contains ws worker) hasty_third_workers among)) own
no_hasty_gateway (suc (suc (suc number))) gateway worker among own = no_member worker among

no_gateway : (gateway seat : ℕ) → ¬ IsSeatOf row.hasty gateway seat
no_gateway gateway seat (number, worker, among, own, is) = no_hasty_gateway number gateway worker among own

hasty_keeps : (before : List Entry) (e : Entry) → e.moment.ms ≤ 1_860_005 → IsReplyTo e.op e.reply → Tells (stands before) e.op e.reply
    → ((ulid : ℕ) → PutsObject ulid e → (time_of ulid ≤ e.moment.ms) × (e.moment.ms ≤ time_of ulid + 1_800_000)) → ((ulid second : ℕ) → PutsMark ulid second e → e.moment.ms ≤ 1000 * second + 4) → IsKept row.hasty row.hasty_journal before e
hasty_keeps before e soon kind tells timely in_second = keeps row.hasty row.hasty_journal before e kind tells timely in_second
    (λ x y (entries, end, first, others, front, (gateway, sync), begins, ends, over). no_gateway gateway sync.seat sync.sits)
    (λ x y (view, (gateway, (sits, reads), has), over). no_gateway gateway e.seat sits) (λ x y (begin, reads, (is, most, over)). let far : begin.ms + 86_400_000 < e.moment.ms = over in omega (arith, soon, far))

late_put : Refuses row.hasty row.hasty_journal mark_time row.until_put row.put 1_860_005 1_860_004
late_put = (small.a, 1_860, (row.mark, row.marked, refl, refl, is_mark_text, refl), (refl, refl, lit< tt))

hasty_foremost : (other : Rule) (x y : ℕ) → rank other < 2 → ¬ Refuses row.hasty row.hasty_journal other row.until_put row.put x y
hasty_foremost honesty x y less lie = no_lie row.until_put row.put x y tt tt lie
hasty_foremost upload_time x y less (ulid, puts, over) = no_object ulid puts
hasty_foremost mark_time x y less refused = absurd (omega (arith, less))
hasty_foremost sync_time x y less refused = absurd (omega (arith, less))
hasty_foremost view_time x y less refused = absurd (omega (arith, less))
hasty_foremost read_time x y less refused = absurd (omega (arith, less))

pub hasty_breach : IsBreach row.hasty row.hasty_journal mark_time 15 1_860_005 1_860_004
hasty_breach = record {
  before = row.until_put;
  entry = row.put;
  after = [];
  parts = refl;
  is = refl;
  refused = late_put;
  first = each_of (IsKept row.hasty row.hasty_journal) row.until_put (hasty_keeps _ (clock 1 0) (lit≤ tt) tt tt (λ ulid p. cc (p.2)) (λ ulid second p. cc (p.2)), (hasty_keeps _ (absent 2 1 1 (key.Meta small.a)) (lit≤ tt) tt refl (λ ulid p. cc (p.2)) (λ ulid second p. cc (p.2)), (hasty_keeps _ (stored 3 1 2 (key.Segment small.a 1) small.segment) (lit≤ tt) tt tt (λ ulid p. in_time ulid 2 (lit≤ tt) (cc (p.2, p.3))) (λ ulid second p. cc (p.2)), (hasty_keeps _ (stored 4 1 3 (key.Index small.a) small.index) (lit≤ tt) tt tt (λ ulid p. in_time ulid 3 (lit≤ tt) (cc (p.2, p.3))) (λ ulid second p. cc (p.2)), (hasty_keeps _ (stored 5 1 4 (key.Meta small.a) small.meta) (lit≤ tt) tt tt (λ ulid p. in_time ulid 4 (lit≤ tt) (cc (p.2, p.3))) (λ ulid second p. cc (p.2)), (hasty_keeps _ (clock 6 1_800_000) (lit≤ tt) tt tt (λ ulid p. cc (p.2)) (λ ulid second p. cc (p.2)), (hasty_keeps _ (listed 7 2 1_800_001 (small.a_text ∷ [])) (lit≤ tt) tt page (λ ulid p. cc (p.2)) (λ ulid second p. cc (p.2)), (hasty_keeps _ (absent 8 2 1_800_002 (key.Mark small.a)) (lit≤ tt) tt shows_no_mark (λ ulid p. cc (p.2)) (λ ulid second p. cc (p.2)), (hasty_keeps _ (found 9 2 1_800_003 (key.Meta small.a) small.meta) (lit≤ tt) tt shows_meta (λ ulid p. cc (p.2)) (λ ulid second p. cc (p.2)), (hasty_keeps _ (clock 10 1_860_000) (lit≤ tt) tt tt (λ ulid p. cc (p.2)) (λ ulid second p. cc (p.2)), (hasty_keeps _ (listed 11 3 1_860_001 (small.a_text ∷ [])) (lit≤ tt) tt page (λ ulid p. cc (p.2)) (λ ulid second p. cc (p.2)), (hasty_keeps _ (absent 12 3 1_860_002 (key.Mark small.a)) (lit≤ tt) tt shows_no_mark (λ ulid p. cc (p.2)) (λ ulid second p. cc (p.2)), (hasty_keeps _ (found 13 3 1_860_003 (key.Meta small.a) small.meta) (lit≤ tt) tt shows_meta (λ ulid p. cc (p.2)) (λ ulid second p. cc (p.2)), (hasty_keeps _ (row.look) (lit≤ tt) tt shows_no_mark (λ ulid p. cc (p.2)) (λ ulid second p. cc (p.2)), tt))))))))))))));
  foremost = hasty_foremost;
}
