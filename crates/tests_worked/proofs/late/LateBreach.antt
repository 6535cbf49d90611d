-- What the run shows in which a compaction reads late: its breach, and why an object was missing.
use Rattle.base.proofs.Membership.{contains_first}
use Rattle.std.proofs.Common.{◌≡◌, inl, inr, ℕ, zero, suc, ◌+◌, ◌*◌, ◌<◌, ◌≤◌, List, [], ◌∷◌, ◌++◌, Contains, Ok, None, append_assoc, refl, sym, ◌∙◌, ap, subst, arith, lit<, lit≤}
use Rattle.std.specs.Prelude.{drop}
use Rattle.std.specs.List.{All}
use Rattle.std.proofs.lemmas.List.Elements.{All-contains, All-from_recursion, All-nil, Contains-append_right}
use Rattle.block_keys.specs.declared.key.Key.{Key}
use Rattle.block_keys.specs.declared.key.Key.TheVariants as key
use Rattle.block_meta.specs.MetaReading.{mark_of_text}
use Rattle.block_meta.specs.MetaText.{IsMarkText}
use Rattle.block_meta.proofs.FoundTexts.{mark_text_only}
use Rattle.moment_core.specs.declared.moment.Moment.{Moment}
use Rattle.ulid_core.specs.Times.{time_of}
use Rattle.world_core.specs.Journals.{Each, of_seat}
use Rattle.world_core.specs.Operations.{IsReplyTo}
use Rattle.world_core.specs.Standing.{Tells, stands}
use Rattle.world_core.specs.declared.entry.Entry.{Entry}
use Rattle.world_core.specs.declared.op.Op.TheVariants as op
use Rattle.world_core.specs.declared.reply.Reply.TheVariants as reply
use Rattle.world_core.proofs.Growing.{Each-push}
use Rattle.script_core.specs.Workers.{workers_of}
use Rattle.script_workers.specs.declared.work.Work.TheVariants as works
use Rattle.script_workers.specs.declared.worker.Worker.{Worker}
use Rattle.lifecycle_core.specs.Breaches.{IsBreach, IsCompactorSeat, IsKept, IsReadSince, IsSeatOf, Refuses, Rule, honesty, mark_time, rank, read_time, sync_time, upload_time, view_time, watched}
use Rattle.lifecycle_core.specs.Causes.{IsBlamedInCompaction, IsExplainedBy}
use Rattle.lifecycle_core.specs.TimeRules.{IsBlockObject, PutsMark, PutsObject}
use Rattle.lifecycle_core.proofs.journals.Honesty.{no_lie}
use Rattle.tests_worked.specs.CompactedPair as pair
use Rattle.tests_worked.specs.Entries.{absent, entry, found, listed}
use Rattle.tests_worked.specs.LateCompaction as row
use Rattle.tests_worked.specs.SmallBlock as small
use Rattle.tests_worked.proofs.late.LateBucket as bucket
use Rattle.tests_worked.proofs.late.LateCompaction.{first_workers, honest, kept, second_workers, side_by_side, third_workers, uploaders}
use Rattle.tests_worked.proofs.late.LateMark.{mark_reads}
use Rattle.tests_worked.proofs.expired.LonePhases.{lone}

-- ---- who sits where

abbrev IsAlone : Worker → Type 0
IsAlone worker = worker.gateway ≡ None

all_alone : (number : ℕ) → All IsAlone (workers_of row.script number)
all_alone zero = subst (All IsAlone) (sym first_workers) (All-from_recursion IsAlone uploaders (refl, (refl, tt)))
all_alone (suc zero) = subst (All IsAlone) (sym second_workers) (All-from_recursion IsAlone (lone 3 ∷ []) (refl, tt))
all_alone (suc (suc zero)) = subst (All IsAlone) (sym third_workers) (All-from_recursion IsAlone side_by_side (refl, (refl, tt)))
all_alone (suc (suc (suc number))) = All-nil IsAlone

no_gateway : (gateway seat : ℕ) → ¬ IsSeatOf row.setting gateway seat
no_gateway gateway seat (number, worker, among, own, is) = let none = All-contains IsAlone (workers_of row.script number) worker (all_alone number) among in cc (none, own)

sits : IsCompactorSeat row.setting 4
sits = record {
  number = 2;
  worker = lone 4;
  works = subst (λ (ws : List Worker). Contains ws (lone 4)) (sym third_workers) (0, lit< tt, refl);
  sits = refl;
  place = 0;
  own = (0, lit< tt, refl);
  stop = None;
  compacts = record { phase = row.beside; task = record { line = 18; work = works.Compact None }; in_phases = refl; in_tasks = refl; asks = refl };
}

-- ---- what keeps the rules

-- no read of the entry's seat comes later than half the delete delay
abbrev IsSoon : Entry → Type 0
IsSoon e = (begin : Moment) → IsReadSince row.journal e.seat begin e → e.moment.ms ≤ begin.ms + 6_000

-- all that the rules of time ask of the entry
abbrev IsTimely : Entry → Type 0
IsTimely e =
    ((ulid : ℕ) → PutsObject ulid e → (time_of ulid ≤ e.moment.ms) × (e.moment.ms ≤ time_of ulid + 10_000))
    × ((ulid second : ℕ) → PutsMark ulid second e → e.moment.ms ≤ 1000 * second + 12_000)
    × IsSoon e

keeps : (before : List Entry) (e : Entry) → IsReplyTo e.op e.reply → Tells (stands before) e.op e.reply → IsTimely e → IsKept row.setting row.journal before e
keeps before e kind tells timely honesty x y lie = no_lie before e x y kind tells lie
keeps before e kind tells timely upload_time x y (ulid, puts, inl (is, most, over)) = let limits = timely.0 ulid puts in omega (arith, limits.0, over)
keeps before e kind tells timely upload_time x y (ulid, puts, inr (is, most, over)) =
    let limits = timely.0 ulid puts in
    let far : time_of ulid + 10_000 < e.moment.ms = over in omega (arith, limits.1, far)
keeps before e kind tells timely mark_time x y (ulid, second, puts, (is, most, over)) =
    let limit = timely.1 ulid second puts in
    let far : 1000 * second + 12_000 < e.moment.ms = over in omega (arith, limit, far)
keeps before e kind tells timely sync_time x y (entries, end, first, others, front, (gateway, sync), begins, ends, over) = no_gateway gateway sync.seat sync.sits
keeps before e kind tells timely view_time x y (view, (gateway, (own, reads), has), over) = no_gateway gateway e.seat own
keeps before e kind tells timely read_time x y (begin, (own, reads), (is, most, over)) =
    let near = timely.2 begin reads in
    let far : begin.ms + 6_000 < e.moment.ms = over in omega (arith, near, far)

-- a read that comes soon after the first entry of its seat
within : (first : Entry) (others : List Entry) → of_seat first.seat row.journal ≡ first ∷ others → (e : Entry) → e.seat ≡ first.seat → e.moment.ms ≤ first.moment.ms + 6_000 → IsSoon e
within first others are e seat near begin (own, reading, (one, more, theirs, is)) =
    let moved : of_seat first.seat row.journal ≡ one ∷ more = subst (λ (n : ℕ). of_seat n row.journal ≡ one ∷ more) seat theirs in
    let same : first ≡ one = cc (are, moved) in
    let at : first.moment.ms ≡ begin.ms = ap (λ (x : Entry). x.moment.ms) same ∙ ap (λ (m : Moment). m.ms) is in
    omega (arith, near, at)

by_first_upload : (e : Entry) → e.seat ≡ 1 → e.moment.ms ≤ 7_000 → IsSoon e
by_first_upload = within (absent 2 1 1_000 (key.Meta small.a)) (drop 1 row.a_upload) refl

by_second_upload : (e : Entry) → e.seat ≡ 2 → e.moment.ms ≤ 11_000 → IsSoon e
by_second_upload = within (absent 6 2 5_000 (key.Meta row.b)) (drop 1 row.b_upload) refl

by_first_compaction : (e : Entry) → e.seat ≡ 3 → e.moment.ms ≤ 15_900 → IsSoon e
by_first_compaction = within (listed 11 3 9_900 row.both_names) (drop 1 row.first_compaction) refl

by_second_compaction : (e : Entry) → e.seat ≡ 4 → e.moment.ms ≤ 22_900 → IsSoon e
by_second_compaction = within (listed 19 4 16_900 row.both_names) (drop 1 row.second_compaction) refl

by_cleaning : (e : Entry) → e.seat ≡ 5 → e.moment.ms ≤ 29_900 → IsSoon e
by_cleaning = within (listed 26 5 23_900 row.both_names) (drop 1 row.cleaning_made) refl

in_ten : (own ulid moment : ℕ) → moment ≤ 10_000 → time_of own ≡ 0 → own ≡ ulid → (time_of ulid ≤ moment) × (moment ≤ time_of ulid + 10_000)
in_ten own ulid moment early begins same = let at : time_of ulid ≡ 0 = ap time_of (sym same) ∙ begins in (omega (arith, at), omega (arith, at, early))

mark_second : (ulid second : ℕ) → PutsMark ulid second row.put → 14 ≡ second
mark_second ulid second (bytes, mark, is, landed, text, time) =
    let same : row.mark ≡ bytes = cc (is) in
    let reads : mark_of_text row.mark ≡ Ok mark = mark_text_only row.mark mark (subst (λ (bs : List ℕ). IsMarkText bs mark) (sym same) text) in
    let alike : row.marked ≡ mark = cc (mark_reads, reads) in
    ap (λ m. m.deletion_time) alike ∙ time

-- a mark is no object that is uploaded
no_object : (ulid : ℕ) → ¬ PutsObject ulid row.put
no_object ulid (k, bytes, is, own, object) = let same : key.Mark row.b ≡ k = cc (is) in subst (λ (x : Key). IsBlockObject x) (sym same) object

mark_soon : (ulid second : ℕ) → PutsMark ulid second row.put → 15_900 ≤ 1000 * second + 12_000
mark_soon ulid second puts = let is = mark_second ulid second puts in omega (arith, is)

all_timely : All IsTimely row.until_missed
all_timely = All-from_recursion IsTimely row.until_missed ((λ ulid p. cc (p.2), λ ulid second p. cc (p.2), λ begin r. absurd (r.1)), ((λ ulid p. cc (p.2), λ ulid second p. cc (p.2), by_first_upload (absent 2 1 1_000 (key.Meta small.a)) refl (lit≤ tt)), ((λ ulid p. in_ten small.a ulid 2_000 (lit≤ tt) refl (cc (p.2, p.3)), λ ulid second p. cc (p.2), λ begin r. absurd (r.1)), ((λ ulid p. in_ten small.a ulid 3_000 (lit≤ tt) refl (cc (p.2, p.3)), λ ulid second p. cc (p.2), λ begin r. absurd (r.1)), ((λ ulid p. in_ten small.a ulid 4_000 (lit≤ tt) refl (cc (p.2, p.3)), λ ulid second p. cc (p.2), λ begin r. absurd (r.1)), ((λ ulid p. cc (p.2), λ ulid second p. cc (p.2), by_second_upload (absent 6 2 5_000 (key.Meta row.b)) refl (lit≤ tt)), ((λ ulid p. in_ten row.b ulid 6_000 (lit≤ tt) refl (cc (p.2, p.3)), λ ulid second p. cc (p.2), λ begin r. absurd (r.1)), ((λ ulid p. in_ten row.b ulid 7_000 (lit≤ tt) refl (cc (p.2, p.3)), λ ulid second p. cc (p.2), λ begin r. absurd (r.1)), ((λ ulid p. in_ten row.b ulid 8_000 (lit≤ tt) refl (cc (p.2, p.3)), λ ulid second p. cc (p.2), λ begin r. absurd (r.1)), ((λ ulid p. cc (p.2), λ ulid second p. cc (p.2), λ begin r. absurd (r.1)), ((λ ulid p. cc (p.2), λ ulid second p. cc (p.2), by_first_compaction (listed 11 3 9_900 row.both_names) refl (lit≤ tt)), ((λ ulid p. cc (p.2), λ ulid second p. cc (p.2), by_first_compaction (absent 12 3 10_900 (key.Mark small.a)) refl (lit≤ tt)), ((λ ulid p. cc (p.2), λ ulid second p. cc (p.2), by_first_compaction (found 13 3 11_900 (key.Meta small.a) small.meta) refl (lit≤ tt)), ((λ ulid p. cc (p.2), λ ulid second p. cc (p.2), by_first_compaction (absent 14 3 12_900 (key.Mark row.b)) refl (lit≤ tt)), ((λ ulid p. cc (p.2), λ ulid second p. cc (p.2), by_first_compaction (found 15 3 13_900 (key.Meta row.b) pair.b_meta) refl (lit≤ tt)), ((λ ulid p. cc (p.2), λ ulid second p. cc (p.2), by_first_compaction (absent 16 3 14_900 (key.Mark row.b)) refl (lit≤ tt)), ((λ ulid p. absurd (no_object ulid p), mark_soon, λ begin r. absurd (r.1)), ((λ ulid p. cc (p.2), λ ulid second p. cc (p.2), λ begin r. absurd (r.1)), ((λ ulid p. cc (p.2), λ ulid second p. cc (p.2), by_second_compaction (listed 19 4 16_900 row.both_names) refl (lit≤ tt)), ((λ ulid p. cc (p.2), λ ulid second p. cc (p.2), by_second_compaction (absent 20 4 17_900 (key.Mark small.a)) refl (lit≤ tt)), ((λ ulid p. cc (p.2), λ ulid second p. cc (p.2), by_second_compaction (found 21 4 18_900 (key.Meta small.a) small.meta) refl (lit≤ tt)), ((λ ulid p. cc (p.2), λ ulid second p. cc (p.2), by_second_compaction (found 22 4 19_900 (key.Mark row.b) row.mark) refl (lit≤ tt)), ((λ ulid p. cc (p.2), λ ulid second p. cc (p.2), by_second_compaction (found 23 4 20_900 (key.Meta row.b) pair.b_meta) refl (lit≤ tt)), ((λ ulid p. cc (p.2), λ ulid second p. cc (p.2), by_second_compaction (found 24 4 21_900 (key.Index small.a) small.index) refl (lit≤ tt)), ((λ ulid p. cc (p.2), λ ulid second p. cc (p.2), by_second_compaction (found 25 4 22_900 (key.Segment small.a 1) small.segment) refl (lit≤ tt)), ((λ ulid p. cc (p.2), λ ulid second p. cc (p.2), by_cleaning (listed 26 5 23_900 row.both_names) refl (lit≤ tt)), ((λ ulid p. cc (p.2), λ ulid second p. cc (p.2), by_cleaning (absent 27 5 24_900 (key.Mark small.a)) refl (lit≤ tt)), ((λ ulid p. cc (p.2), λ ulid second p. cc (p.2), by_cleaning (found 28 5 25_900 (key.Meta small.a) small.meta) refl (lit≤ tt)), ((λ ulid p. cc (p.2), λ ulid second p. cc (p.2), by_cleaning (found 29 5 26_900 (key.Mark row.b) row.mark) refl (lit≤ tt)), ((λ ulid p. cc (p.2), λ ulid second p. cc (p.2), by_cleaning (entry 30 5 27_900 (op.BlockPage row.b [] 1_000) (reply.Names row.objects)) refl (lit≤ tt)), ((λ ulid p. cc (p.2), λ ulid second p. cc (p.2), λ begin r. absurd (r.1)), ((λ ulid p. cc (p.2), λ ulid second p. cc (p.2), λ begin r. absurd (r.1)), ((λ ulid p. cc (p.2), λ ulid second p. cc (p.2), λ begin r. absurd (r.1)), ((λ ulid p. cc (p.2), λ ulid second p. cc (p.2), λ begin r. absurd (r.1)), tt))))))))))))))))))))))))))))))))))

front_keeps : Each (IsKept row.setting row.journal) row.until_missed
front_keeps before after e parts =
    let among : Contains row.until_missed e = subst (λ (es : List Entry). Contains es e) (sym parts) (Contains-append_right before (e ∷ after) e (contains_first e after)) in
    let within_all : row.journal ≡ before ++ e ∷ (after ++ row.missed ∷ []) = ap (λ (es : List Entry). es ++ row.missed ∷ []) parts ∙ append_assoc before (e ∷ after) (row.missed ∷ []) in
    keeps before e (kept.kinds before (after ++ row.missed ∷ []) e within_all) (honest before (after ++ row.missed ∷ []) e within_all) (All-contains IsTimely row.until_missed e all_timely among)

-- ---- the breach

late_read : Refuses row.setting row.journal read_time row.until_missed row.missed 32_900 22_900
late_read = (record { ms = 16_900 }, (sits, (refl, tt, (listed 19 4 16_900 row.both_names, drop 1 row.second_compaction, refl, refl))), (refl, refl, lit< tt))

-- no other rule refuses the read
only_read : (rule : Rule) (x y : ℕ) → Refuses row.setting row.journal rule row.until_missed row.missed x y → rule ≡ read_time
only_read honesty x y lie = absurd (no_lie row.until_missed row.missed x y tt bucket.shows_nothing lie)
only_read upload_time x y (ulid, puts, over) = absurd (cc (puts.2))
only_read mark_time x y (ulid, second, puts, over) = absurd (cc (puts.2))
only_read sync_time x y (entries, end, first, others, front, (gateway, sync), begins, ends, over) = absurd (no_gateway gateway sync.seat sync.sits)
only_read view_time x y (view, (gateway, (own, reads), has), over) = absurd (no_gateway gateway 4 own)
only_read read_time x y refused = refl

pub is_breach : IsBreach row.setting row.journal read_time 35 32_900 22_900
is_breach = record {
  before = row.until_missed;
  entry = row.missed;
  after = [];
  parts = refl;
  is = refl;
  refused = late_read;
  first = front_keeps;
  foremost = λ other x y less refused. let same = ap rank (only_read other x y refused) in omega (arith, less, same);
}

-- ---- the missing object

pub explained : IsExplainedBy row.setting (watched row.setting row.journal) IsBlamedInCompaction row.journal 35
explained = record {
  missed = row.missed;
  key = key.Index row.b;
  at = refl;
  reads = refl;
  absent = refl;
  rule = read_time;
  before = row.until_missed;
  entry = row.missed;
  after = [];
  x = 32_900;
  y = 22_900;
  parts = refl;
  early = lit≤ tt;
  refused = late_read;
  blamed = refl;
}

abbrev OnlyReads : List Entry → Entry → Type 0
OnlyReads before e = (rule : Rule) (x y : ℕ) → Refuses row.setting row.journal rule before e x y → rule ≡ read_time

all_only : Each OnlyReads row.journal
all_only = Each-push OnlyReads row.until_missed row.missed (λ before after e parts rule x y refused. absurd (front_keeps before after e parts rule x y refused)) only_read

pub only_cause : (cause : IsExplainedBy row.setting (watched row.setting row.journal) IsBlamedInCompaction row.journal 35) → cause.rule ≡ read_time
only_cause cause = all_only cause.before cause.after cause.entry cause.parts cause.rule cause.x cause.y cause.refused
