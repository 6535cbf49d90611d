-- The run of the script of one block, where somebody else asks the query.
use Rattle.std.proofs.Common.{◌≡◌, ◌≢◌, ◌⊎◌, inl, inr, ℕ, zero, suc, ◌+◌, ◌^◌, ◌<◌, pos, List, [], ◌∷◌, ◌++◌, length, map, Contains, Some, refl, sym, ap, subst, arith, lit<, lit≤}
use Rattle.base.proofs.Membership.{no_member, only_member}
use Rattle.std.specs.List.{All, AllPairs}
use Rattle.std.proofs.lemmas.List.Kept.{AllPairs-cons}
use Rattle.std.proofs.lemmas.List.Elements.{All-contains, All-cons, All-from_recursion, All-nil, All-weaker, Contains-append_right}
use Rattle.block_keys.specs.declared.key.Key.TheVariants as key
use Rattle.world_core.specs.Operations.{IsLawful, IsReplyTo}
use Rattle.world_core.specs.Moments.{moment_after, last_moment}
use Rattle.world_core.specs.Worlds.{IsJournal}
use Rattle.world_core.specs.declared.entry.Entry.{Entry}
use Rattle.shipper.specs.declared.upload.UploadEnd.TheVariants as shipped
use Rattle.script_workers.specs.Hands.{hands_of_task, with_hands, hands_from, places_from, workers_from, seats_from}
use Rattle.script_core.specs.Workers.{workers_of}
use Rattle.script_workers.specs.declared.worker.Worker.{Worker}
use Rattle.lifecycle_core.specs.Acting.{IsActing, IsReading, acting, actors}
use Rattle.lifecycle_core.specs.Breaches.{IsSeatOf, Refuses, RefusesUnder, view_time, watched_call}
use Rattle.lifecycle_core.specs.Conducts.{PhaseRun, working}
use Rattle.store_ranges.specs.declared.range.Range.{Range}
use Rattle.store_calls.specs.Asking.{IsReadOf}
use Rattle.store_calls.specs.KeptRanges.{IsReadIn}
use Rattle.lifecycle_core.specs.Holdings.{empty_cache, none_held, nothing_held}
use Rattle.lifecycle_core.specs.Phases.{IsLawfulJournal, by_workers}
use Rattle.lifecycle_core.specs.SyncsAndCalls.{IsCallIn, IsViewOf}
use Rattle.lifecycle_core.specs.Tasks.{End, sync_rules, uploaded}
use Rattle.lifecycle_core.specs.Ways.{PhasesRun}
use Rattle.lifecycle_core.proofs.phases.EachEntry.{phases_each}
use Rattle.tests_worked.specs.SmallRuns as runs
use Rattle.tests_worked.specs.Entries.{absent, clock, found, in_range, listed}
use Rattle.tests_worked.specs.OneBlock as one
use Rattle.tests_worked.specs.OneStrict.{idle}
use Rattle.tests_worked.specs.OtherSeat as other
use Rattle.tests_worked.specs.SmallBlock as small
use Rattle.tests_worked.specs.SmallFiles as files
use Rattle.lifecycle_core.proofs.phases.ActingRuns.{own_numbering}
use Rattle.tests_worked.proofs.small.Each.{each_of, workers_seats}
use Rattle.tests_worked.proofs.small.Texts.{one_lawful}
use Rattle.tests_worked.proofs.one.OneBlock.{first_ends, first_own, first_tasks, first_workers, gateway, second_tasks, second_workers, uploader}
use Rattle.tests_worked.proofs.small.SmallCalls.{answer, call_run, left, up_asked}
use Rattle.tests_worked.proofs.small.SmallTasks.{sync_run, upload_task}

-- ---- the workers

-- everybody keeps its seat
abbrev seats : ℕ → ℕ
seats seat = seat

first_uploaders : actors one.setting seats 0 ≡ uploader ∷ []
unfolding hands_of_task with_hands hands_from places_from workers_from seats_from
first_uploaders = refl

second_uploaders : actors one.setting seats 1 ≡ []
unfolding hands_of_task with_hands hands_from places_from workers_from seats_from
second_uploaders = refl

abbrev seats_of : List Worker → List ℕ
seats_of ws = map (λ (worker : Worker). worker.seat) ws

-- no upload has a seat but the first
no_upload : (seat number : ℕ) → 1 < seat → ¬ Contains (seats_of (actors one.setting seats number)) seat
no_upload seat zero above among =
    let same = only_member 1 seat (subst (λ (ws : List Worker). Contains (seats_of ws) seat) first_uploaders among) in
    absurd (omega (arith, same, above))
no_upload seat (suc zero) above among = no_member seat (subst (λ (ws : List Worker). Contains (seats_of ws) seat) second_uploaders among)
no_upload seat (suc (suc number)) above among = no_member seat among

-- the script gives nobody a seat above the second
no_worker : (seat number : ℕ) → 2 < seat → ¬ Contains (seats_of (workers_of one.script number)) seat
no_worker seat zero above among =
    let same = only_member 1 seat (subst (λ (ws : List Worker). Contains (seats_of ws) seat) first_workers among) in
    absurd (omega (arith, same, above))
no_worker seat (suc zero) above among =
    let same = only_member 2 seat (subst (λ (ws : List Worker). Contains (seats_of ws) seat) second_workers among) in
    absurd (omega (arith, same, above))
no_worker seat (suc (suc number)) above among = no_member seat among

-- ---- acting

-- an upload's own entry, or that of somebody who reads
abbrev IsSeated : List ℕ → Entry → Type 0
IsSeated own e = Contains own e.seat ⊎ ((e.seat ≢ 0) × IsReading e.op × ((number : ℕ) → ¬ Contains (seats_of (actors one.setting seats number)) e.seat))

reads : (e : Entry) → 1 < e.seat → IsReading e.op → IsSeated [] e
reads e above reading = inr (λ none. omega (arith, above, none), reading, λ number. no_upload e.seat number above)

first_phase : PhaseRun (acting one.setting seats) first_tasks (uploader ∷ []) none_held one.upload first_ends none_held
first_phase = record {
  seats = All-from_recursion (IsSeated (1 ∷ [])) one.upload (inl (0, lit< tt, refl), (inl (0, lit< tt, refl), (inl (0, lit< tt, refl), (inl (0, lit< tt, refl), tt))));
  runs = (
    record {
      own = first_own;
      are = ((refl, refl), refl);
      last = nothing_held;
      runs = inl (one.upload, [], uploaded (shipped.Done 3), [], nothing_held, refl, (upload_task one.setting refl 2 1 1, refl), refl, (refl, refl, refl));
      leaves = tt;
    },
    tt,
  );
  kept = λ gateway none. refl;
}

second_phase : PhaseRun (acting one.setting seats) second_tasks [] none_held other.made [] none_held
second_phase = record {
  seats = All-from_recursion (IsSeated []) other.made (
    reads (listed 7 2 1_800_001 (small.a_text ∷ [])) (lit< tt) tt,
    (
      reads (absent 8 2 1_800_002 (key.Mark small.a)) (lit< tt) tt,
      (
        reads (found 9 2 1_800_003 (key.Meta small.a) small.meta) (lit< tt) tt,
        (
          reads other.first_read (lit< tt) tt,
          (
            reads (in_range 11 9 1_800_005 (key.Index small.a) 5 27 files.symbols) (lit< tt) tt,
            (
              reads (in_range 12 9 1_800_006 (key.Index small.a) 123 30 files.table) (lit< tt) tt,
              (
                reads (in_range 13 9 1_800_007 (key.Index small.a) 68 32 files.lists) (lit< tt) tt,
                (
                  reads (in_range 14 9 1_800_008 (key.Index small.a) 32 16 files.series) (lit< tt) tt,
                  (reads (in_range 15 9 1_800_009 (key.Segment small.a 1) 8 4096 files.chunk) (lit< tt) tt, tt),
                ),
              ),
            ),
          ),
        ),
      ),
    ),
  );
  runs = tt;
  kept = λ gateway none. refl;
}

phases : PhasesRun (working (acting one.setting seats)) 0 none_held one.script.phases other.journal (first_ends ∷ [] ∷ [])
phases = inr (
  clock 1 0,
  one.upload,
  clock 6 1_800_000 ∷ other.made,
  first_ends,
  [] ∷ [],
  none_held,
  refl,
  record { seat = refl; sets = refl },
  subst (λ (ws : List Worker). PhaseRun (acting one.setting seats) first_tasks ws none_held one.upload first_ends none_held) (sym first_uploaders) first_phase,
  refl,
  inr (
    clock 6 1_800_000,
    other.made,
    [],
    [],
    [],
    none_held,
    refl,
    record { seat = refl; sets = refl },
    subst (λ (ws : List Worker). PhaseRun (acting one.setting seats) second_tasks ws none_held other.made [] none_held) (sym second_uploaders) second_phase,
    refl,
    (refl, refl),
  ),
)

kept : IsJournal 1 other.journal
kept = record {
  few = lit≤ tt;
  numbered = each_of (λ before e. e.seq ≡ length before + 1) other.journal (refl, (refl, (refl, (refl, (refl, (refl, (refl, (refl, (refl, (refl, (refl, (refl, (refl, (refl, (refl, tt)))))))))))))));
  lawful = each_of (λ before e. IsLawful e.op) other.journal (lit< tt, (tt, ((lit≤ tt, lit≤ tt), (tt, (tt, (lit< tt, (lit≤ tt, (tt, (tt, (tt, (tt, (tt, (tt, (tt, ((lit≤ tt, lit≤ tt), tt)))))))))))))));
  kinds = each_of (λ before e. IsReplyTo e.op e.reply) other.journal (tt, (tt, (tt, (tt, (tt, (tt, (tt, (tt, (tt, (tt, (tt, (tt, (tt, (tt, (tt, tt)))))))))))))));
  moments = each_of (λ before e. e.moment.ms ≡ moment_after 1 (last_moment before) e.op) other.journal (refl, (refl, (refl, (refl, (refl, (refl, (refl, (refl, (refl, (refl, (refl, (refl, (refl, (refl, (refl, tt)))))))))))))));
  small = each_of (λ before e. e.moment.ms < 2 ^ 48) other.journal (lit< tt, (lit< tt, (lit< tt, (lit< tt, (lit< tt, (lit< tt, (lit< tt, (lit< tt, (lit< tt, (lit< tt, (lit< tt, (lit< tt, (lit< tt, (lit< tt, (lit< tt, tt)))))))))))))));
}

pub acts : IsActing one.setting other.journal
acts = record {
  seats = seats;
  numbered = own_numbering one.setting one_lawful;
  ends = first_ends ∷ [] ∷ [];
  kept = kept;
  phases = phases;
}

-- ---- not lawful

all_seated : (ends : List (List (List End))) → PhasesRun (by_workers one.setting) 0 none_held one.script.phases other.journal ends → All (λ (e : Entry). e.seat ≢ 9) other.journal
all_seated ends run = phases_each (by_workers one.setting) (λ (e : Entry). e.seat ≢ 9)
    (λ number phase before made own after works. All-weaker (λ (e : Entry). Contains (seats_of (workers_of one.script number)) e.seat) (λ (e : Entry). e.seat ≢ 9)
    (λ e sits is. no_worker 9 number (lit< tt) (subst (Contains (seats_of (workers_of one.script number))) is sits)) made (workers_seats (seats_of (workers_of one.script number)) made works.seats))
    (λ phase clock begins is. absurd (cc (begins.seat, is))) 0 none_held one.script.phases other.journal ends run

pub not_lawful : ¬ IsLawfulJournal one.setting other.journal
not_lawful lawful = All-contains (λ (e : Entry). e.seat ≢ 9) other.journal other.first_read (all_seated lawful.0 lawful.1.phases) (9, lit< tt, refl) refl

-- ---- the call

pub view_is : IsViewOf (sync_rules one.setting 0) other.journal one.used one.sync
view_is = record {
  seat = 2;
  sync = record { before = []; after = []; parts = refl; run = sync_run 7 2 1_800_001 (Some (runs.seen 1_800_001)) refl; whole = λ none. absurd (cc (none)) };
  last = refl;
}

-- the numbers rise, from above this one on
abbrev RiseFrom : ℕ → List Entry → Type 0
RiseFrom least [] = Unit {0}
RiseFrom least (e ∷ entries) = (least < e.seq) × RiseFrom e.seq entries

abbrev IsBefore : Entry → Entry → Type 0
IsBefore e x = e.seq < x.seq

rises : (least : ℕ) (entries : List Entry) → RiseFrom least entries → All (λ (e : Entry). least < e.seq) entries × AllPairs IsBefore entries
rises least [] rise = (All-nil (λ (e : Entry). least < e.seq), λ i j d less inside. absurd (omega (arith, inside)))
rises least (e ∷ entries) rise =
    let later = rises e.seq entries rise.1 in (
      All-cons (λ (x : Entry). least < x.seq) e entries rise.0 (All-weaker (λ (x : Entry). e.seq < x.seq) (λ (x : Entry). least < x.seq) (λ x above. omega (arith, rise.0, above)) entries later.0),
      AllPairs-cons IsBefore e entries later.0 later.1,
    )

made_later : RiseFrom 9 other.query
made_later = (lit< tt, (lit< tt, (lit< tt, (lit< tt, (lit< tt, (lit< tt, tt))))))

pub call_is : IsCallIn other.journal one.used other.question other.query (Some other.answer)
call_is = record {
  among = λ e own. Contains-append_right (clock 1 0 ∷ one.upload ++ clock 6 1_800_000 ∷ one.sync) other.query e own;
  rising = (rises 9 other.query made_later).1;
  later = (rises 9 other.query made_later).0;
  cache = empty_cache;
  earlier = [];
  known = All-nil (λ (one : Entry). Contains other.journal one × All (λ (e : Entry). one.seq < e.seq) other.query);
  reads = All-nil (λ (one : Entry). (ulid : ℕ) × IsReadOf ulid one.op);
  cached = All-nil (λ (kept : Range × List ℕ). IsReadIn [] kept.0 kept.1);
  own = Some (answer left);
  run = call_run one.selector (pos 5000) refl refl up_asked 7 1_800_001 1_800_003 1_800_002 1_800_003 10 9 1_800_004;
  is = refl;
}

-- ---- the rule on views

pub watched_refuses : (before : List Entry) → RefusesUnder idle (watched_call one.used one.sync other.query) view_time before other.first_read 174_600_004 174_600_001
watched_refuses before = (one.view, ((0, lit< tt, refl), (key.Index small.a, refl, tt), refl), (refl, refl, lit< tt))

idle_first : workers_of idle.script 0 ≡ uploader ∷ []
unfolding hands_of_task with_hands hands_from places_from workers_from seats_from
idle_first = refl

idle_second : workers_of idle.script 1 ≡ gateway ∷ []
unfolding hands_of_task with_hands hands_from places_from workers_from seats_from
idle_second = refl

only_seat : (own worker : Worker) (seat : ℕ) → own.seat < seat → Contains (own ∷ []) worker → worker.seat ≢ seat
only_seat own worker seat above among is = omega (arith, ap (λ (w : Worker). w.seat) (only_member own worker among), is, above)

not_seated : (gateway : ℕ) → ¬ IsSeatOf idle gateway 9
not_seated _ (zero, worker, among, own, is) = only_seat uploader worker 9 (lit< tt) (subst (λ (ws : List Worker). Contains ws worker) idle_first among) is
not_seated own (suc zero, worker, among, is_own, is) = only_seat gateway worker 9 (lit< tt) (subst (λ (ws : List Worker). Contains ws worker) idle_second among) is
not_seated _ (suc (suc number), worker, among, own, is) = no_member worker among

pub unwatched_keeps : (before : List Entry) (x y : ℕ) → ¬ Refuses idle other.journal view_time before other.first_read x y
unwatched_keeps before x y (view, (gateway, (sits, reads), has), over) = not_seated gateway sits
