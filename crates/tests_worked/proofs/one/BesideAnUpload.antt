-- An upload at another seat than the script gives it, and a stranger beside it.
use Rattle.std.proofs.Common.{◌≡◌, ◌≢◌, ◌⊎◌, inl, inr, ℕ, zero, suc, ◌+◌, ◌^◌, ◌<◌, List, [], ◌∷◌, ◌++◌, length, map, Contains, None, refl, sym, ◌∙◌, ap, subst, append-nil, arith, lit<, lit≤}
use Rattle.std.specs.List.{All}
use Rattle.std.proofs.lemmas.List.Elements.{All-from_recursion}
use Rattle.world_core.specs.Operations.{IsLawful, IsReplyTo}
use Rattle.world_core.specs.Moments.{moment_after, last_moment}
use Rattle.world_core.specs.Worlds.{IsJournal}
use Rattle.world_core.specs.declared.entry.Entry.{Entry}
use Rattle.shipper.specs.declared.upload.UploadEnd.TheVariants as shipped
use Rattle.block_keys.specs.declared.key.Key.TheVariants as key
use Rattle.script_workers.specs.Hands.{hands_of_task, with_hands, hands_from, places_from, workers_from, seats_from}
use Rattle.script_core.specs.Workers.{workers_of}
use Rattle.script_workers.specs.declared.task.Task.{Task}
use Rattle.script_workers.specs.declared.work.Work.TheVariants as works
use Rattle.script_workers.specs.declared.worker.Worker.{Worker}
use Rattle.lifecycle_core.specs.Acting.{IsActing, IsReading, acting, actors}
use Rattle.lifecycle_core.specs.Conducts.{PhaseRun, working}
use Rattle.lifecycle_core.specs.Holdings.{none_held, nothing_held}
use Rattle.lifecycle_core.specs.Phases.{IsLawfulJournal, by_script, by_workers}
use Rattle.lifecycle_core.specs.Tasks.{End, uploaded}
use Rattle.lifecycle_core.specs.Ways.{PhasesRun}
use Rattle.tests_worked.specs.Entries.{clock, stored}
use Rattle.tests_worked.specs.LateUpload as late
use Rattle.tests_worked.specs.SmallBlock as small
use Rattle.tests_worked.specs.Strangers as strange
use Rattle.tests_worked.proofs.small.Each.{each_of}
use Rattle.tests_worked.proofs.one.OneBlock.{uploader}
use Rattle.tests_worked.proofs.small.SmallMeta.{meta_is}
use Rattle.tests_worked.proofs.small.SmallTasks.{upload_task_by}

-- ---- the workers

workers : workers_of late.script 0 ≡ uploader ∷ []
unfolding hands_of_task with_hands hands_from places_from workers_from seats_from
workers = refl

-- each seat is numbered four higher
abbrev seats : ℕ → ℕ
seats seat = seat + 4

abbrev moved : (ℕ → ℕ) → Worker
moved by = record { seat = by 1; gateway = None; tasks = 0 ∷ [] }

abbrev moved_by : (ℕ → ℕ) → List Worker → List Worker
moved_by by ws = map (λ (worker : Worker). record { seat = by worker.seat; gateway = worker.gateway; tasks = worker.tasks }) ws

acting_workers : (by : ℕ → ℕ) → actors late.setting by 0 ≡ moved by ∷ []
unfolding hands_of_task with_hands hands_from places_from workers_from seats_from
acting_workers by = refl

only_member : (one other : ℕ) → Contains (one ∷ []) other → one ≡ other
only_member one other (zero, below, is) = is
only_member one other (suc k, below, is) = absurd (omega (arith, below))

no_member_of : (seat : ℕ) → ¬ Contains {X = ℕ} [] seat
no_member_of seat (k, below, is) = absurd (omega (arith, below))

stranger_seat : (number : ℕ) → ¬ Contains (map (λ (worker : Worker). worker.seat) (actors late.setting seats number)) 7
stranger_seat zero among =
    let same = only_member 5 7 (subst (λ (ws : List Worker). Contains (map (λ (worker : Worker). worker.seat) ws) 7) (acting_workers seats) among) in
    omega (arith, same)
stranger_seat (suc number) among = no_member_of 7 among

-- ---- where the stranger lists

abbrev tasks : List Task
tasks = record { line = 4; work = works.Upload small.a None } ∷ []

abbrev ends : List (List End)
ends = (uploaded (shipped.Done 3) ∷ []) ∷ []

abbrev made : List Entry
made = strange.made_with strange.lists

-- an upload's own entry, or the stranger's
abbrev IsSeated : Entry → Type 0
IsSeated e = Contains (5 ∷ []) e.seat ⊎ ((e.seat ≢ 0) × IsReading e.op × ((number : ℕ) → ¬ Contains (map (λ (worker : Worker). worker.seat) (actors late.setting seats number)) e.seat))

own_seat : (e : Entry) → e.seat ≡ 5 → IsSeated e
own_seat e is = inl (0, lit< tt, sym is)

seated : All IsSeated made
seated = All-from_recursion IsSeated made (
  own_seat strange.look refl,
  (
    inr (λ none. omega (arith, none), tt, stranger_seat),
    (
      own_seat (stored 4 5 1_800_003 (key.Segment small.a 1) small.segment) refl,
      (own_seat (stored 5 5 1_800_004 (key.Index small.a) small.index) refl, (own_seat (stored 6 5 1_800_005 (key.Meta small.a) small.meta) refl, tt)),
    ),
  ),
)

abbrev own : List Entry
own = strange.own_entries

phase : PhaseRun (acting late.setting seats) tasks (moved seats ∷ []) none_held made ends none_held
phase = record {
  seats = seated;
  runs = (
    record {
      own = record { place = 0; task = record { line = 4; work = works.Upload small.a None } } ∷ [];
      are = ((refl, refl), refl);
      last = nothing_held;
      runs = inl (own, [], uploaded (shipped.Done 3), [], nothing_held, refl, (upload_task_by late.setting small.a small.meta meta_is refl own (refl, (refl, (refl, (refl, (refl, inr refl))))), refl), refl, (refl, refl, refl));
      leaves = tt;
    },
    tt,
  );
  kept = λ gateway none. refl;
}

phases : PhasesRun (working (acting late.setting seats)) 0 none_held late.script.phases (strange.journal_with strange.lists) (ends ∷ [])
phases = inr (
  clock 1 1_800_000,
  made,
  [],
  ends,
  [],
  none_held,
  refl,
  record { seat = refl; sets = refl },
  subst (λ (ws : List Worker). PhaseRun (acting late.setting seats) tasks ws none_held made ends none_held) (sym (acting_workers seats)) phase,
  refl,
  (refl, refl),
)

kept : IsJournal 1 (strange.journal_with strange.lists)
kept = record {
  few = lit≤ tt;
  numbered = each_of (λ before e. e.seq ≡ length before + 1) (strange.journal_with strange.lists) (refl, (refl, (refl, (refl, (refl, (refl, tt))))));
  lawful = each_of (λ before e. IsLawful e.op) (strange.journal_with strange.lists) (lit< tt, (tt, (lit≤ tt, ((lit≤ tt, lit≤ tt), (tt, (tt, tt))))));
  kinds = each_of (λ before e. IsReplyTo e.op e.reply) (strange.journal_with strange.lists) (tt, (tt, (tt, (tt, (tt, (tt, tt))))));
  moments = each_of (λ before e. e.moment.ms ≡ moment_after 1 (last_moment before) e.op) (strange.journal_with strange.lists) (refl, (refl, (refl, (refl, (refl, (refl, tt))))));
  small = each_of (λ before e. e.moment.ms < 2 ^ 48) (strange.journal_with strange.lists) (lit< tt, (lit< tt, (lit< tt, (lit< tt, (lit< tt, (lit< tt, tt))))));
}

pub acting_listing : IsActing late.setting (strange.journal_with strange.lists)
acting_listing = record {
  seats = seats;
  numbered = record { above = λ seat actor. omega arith; apart = λ one other a b same. omega (arith, same) };
  ends = ends ∷ [];
  kept = kept;
  phases = phases;
}

-- ---- not lawful

first_seat : Contains {X = ℕ} (1 ∷ []) 5 ⊎ ⊥ → ⊥
first_seat (inl among) = let same = only_member 1 5 among in omega (arith, same)
first_seat (inr none) = none

no_run : (came : List (List (List End))) → PhasesRun (by_workers late.setting) 0 none_held late.script.phases (strange.journal_with strange.lists) came → ⊥
no_run came (inl none) = absurd (cc (none.0))
no_run came (inr r) =
    let rest : made ≡ r.1 ++ r.2 = cc (r.6) in
    let all : r.1 ≡ made = sym (append-nil r.1) ∙ ap (λ (es : List Entry). r.1 ++ es) (sym (r.10).0) ∙ sym rest in
    let run : PhaseRun (by_script late.setting) tasks (uploader ∷ []) none_held r.1 r.3 r.5 = subst (λ (ws : List Worker). PhaseRun (by_script late.setting) tasks ws none_held r.1 r.3 r.5) workers r.8 in
    let seats_are : All (λ (e : Entry). Contains (1 ∷ []) e.seat ⊎ ⊥) made = subst (All (λ (e : Entry). Contains (1 ∷ []) e.seat ⊎ ⊥)) all run.seats in
    first_seat (seats_are 0 strange.look (lit< tt))

pub not_lawful : ¬ IsLawfulJournal late.setting (strange.journal_with strange.lists)
not_lawful lawful = no_run lawful.0 lawful.1.phases

-- ---- where the stranger puts

-- an entry of a phase that puts has the seat of its upload
put_seat : (by : ℕ → ℕ) (seat : ℕ) (e : Entry) → e.seat ≡ seat → ¬ IsReading e.op → Contains (by 1 ∷ []) e.seat ⊎ ((e.seat ≢ 0) × IsReading e.op × ((number : ℕ) → ¬ Contains (map (λ (worker : Worker). worker.seat) (actors late.setting by number)) e.seat)) → by 1 ≡ seat
put_seat by seat e is puts (inl own) = only_member (by 1) e.seat own ∙ is
put_seat by seat e is puts (inr stands) = absurd (puts stands.1)

-- the seats of a phase under this numbering
abbrev IsSeatedBy : (ℕ → ℕ) → Entry → Type 0
IsSeatedBy by e = Contains (by 1 ∷ []) e.seat ⊎ ((e.seat ≢ 0) × IsReading e.op × ((number : ℕ) → ¬ Contains (map (λ (worker : Worker). worker.seat) (actors late.setting by number)) e.seat))

two_seats : (by : ℕ → ℕ) → All (IsSeatedBy by) (strange.made_with strange.puts) → ⊥
two_seats by all =
    let one : by 1 ≡ 7 = put_seat by 7 strange.puts refl (λ none. none) (all 1 strange.look (lit< tt)) in
    let other : by 1 ≡ 5 = put_seat by 5 (stored 4 5 1_800_003 (key.Segment small.a 1) small.segment) refl (λ none. none) (all 2 strange.look (lit< tt)) in
    omega (arith, one, other)

none_acts : (by : ℕ → ℕ) (came : List (List (List End))) → PhasesRun (working (acting late.setting by)) 0 none_held late.script.phases (strange.journal_with strange.puts) came → ⊥
none_acts by came (inl none) = absurd (cc (none.0))
none_acts by came (inr r) =
    let rest : strange.made_with strange.puts ≡ r.1 ++ r.2 = cc (r.6) in
    let all : r.1 ≡ strange.made_with strange.puts = sym (append-nil r.1) ∙ ap (λ (es : List Entry). r.1 ++ es) (sym (r.10).0) ∙ sym rest in
    let run : PhaseRun (acting late.setting by) tasks (moved by ∷ []) none_held r.1 r.3 r.5 = subst (λ (ws : List Worker). PhaseRun (acting late.setting by) tasks ws none_held r.1 r.3 r.5) (acting_workers by) r.8 in
    two_seats by (subst (All (IsSeatedBy by)) all run.seats)

pub putting_refused : ¬ IsActing late.setting (strange.journal_with strange.puts)
putting_refused acts = none_acts acts.seats acts.ends acts.phases
