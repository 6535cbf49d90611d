-- What a root knows of one phase more: it set the clock, and took in its workers.
use Rattle.std.proofs.Common.{◌≡◌, ℕ, ◌+◌, ◌-◌, ◌<◌, ◌≤◌, List, [], ◌∷◌, ◌++◌, length, Some, refl, sym, ◌∙◌, ap, subst, arith, le_refl}
use Rattle.std.specs.List.{All, AllByRecursion}
use Rattle.std.proofs.lemmas.List.Elements.{All-from_recursion, All-nil, All-push}
use Rattle.std.proofs.lemmas.Option.{slice_get_within}
use mathlib.Core.List.{IsPrefix}
use Rattle.base.proofs.Lists.{AllByRecursion-weaker, map-push, flat_map-push}
use Rattle.world_core.specs.Journals.{entry_at}
use Rattle.world_core.specs.Operations.{entry_of}
use Rattle.world_core.specs.declared.act.Acted.TheVariants.{Done}
use Rattle.world_core.specs.declared.entry.Entry.{Entry}
use Rattle.world_core.specs.declared.op.Op.{Op}
use Rattle.world_core.specs.declared.seen.Seen.{Seen}
use Rattle.world_turn.proofs.Fronts.{front_length, front_more}
use Rattle.world_turn.proofs.Later.{stand_more, entry_there}
use Rattle.world_turn.specs.Passes.{view_of}
use Rattle.world_turn.specs.Seats.{Stand}
use Rattle.world_turn.specs.Turns.{Acts}
use Rattle.world_turn.specs.declared.pass.Pass.{Pass}
use Rattle.world_turn.specs.declared.view.View.{View as Known}
use Rattle.phase_runner.specs.Phases.{HasRun, Runs}
use Rattle.phase_runner.specs.Works.{Meaning}
use Rattle.script_running.specs.Cutting.{AreApart, KnowsPhases, Passed}

abbrev Kept : Type 0
Kept = ℕ × List Entry

-- ---- where entries stand

-- an entry that stands in a front has no greater number than the front is long
within_front : (low : ℕ) (front : List Entry) (e : Entry) → (low < e.seq) × (entry_at front e.seq ≡ Some e) → e.seq ≤ length front
within_front low front e at =
    let above = at.0 in
    let some : 0 < e.seq = omega (arith, above) in
    let below = slice_get_within front (e.seq - 1) e (sym (entry_there front e.seq some) ∙ at.1) in
    omega (arith, some, below)

all_within : (low limit : ℕ) (entries front : List Entry) → Stand low entries front → length front < limit → All (λ e. e.seq < limit) entries
all_within low limit entries front stand less =
    All-from_recursion (λ (e : Entry). e.seq < limit) entries
    (AllByRecursion-weaker (λ (e : Entry). (low < e.seq) × (entry_at front e.seq ≡ Some e)) (λ (e : Entry). e.seq < limit) (λ e at. let w = within_front low front e at in omega (arith, w, less)) entries stand)

-- ---- apart

apart_more : (front longer : List Entry) (passed : List Passed) (one : Passed) → IsPrefix front longer → length front < one.clock.seq → AreApart front passed
    → AllByRecursion (λ (kept : Kept). Stand one.clock.seq kept.1 longer) one.kept → AreApart longer (passed ++ one ∷ [])
apart_more front longer [] one begins less apart stand = (stand, All-nil (λ (later : Passed). AllByRecursion (λ (kept : Kept). All (λ e. e.seq < later.clock.seq) kept.1) one.kept), tt)
apart_more front longer (p ∷ passed) one begins less apart stand = (
  AllByRecursion-weaker (λ (kept : Kept). Stand p.clock.seq kept.1 front) (λ (kept : Kept). Stand p.clock.seq kept.1 longer) (λ kept s. stand_more p.clock.seq p.clock.seq kept.1 front longer (le_refl p.clock.seq) s begins) p.kept apart.0,
  All-push (λ (later : Passed). AllByRecursion (λ (kept : Kept). All (λ e. e.seq < later.clock.seq) kept.1) p.kept) passed one apart.1
      (AllByRecursion-weaker (λ (kept : Kept). Stand p.clock.seq kept.1 front) (λ (kept : Kept). All (λ e. e.seq < one.clock.seq) kept.1) (λ kept s. all_within p.clock.seq one.clock.seq kept.1 front s less) p.kept apart.0),
  apart_more front longer passed one begins less apart.2 stand,
)

-- a longer front changes nothing
apart_on : (front longer : List Entry) (passed : List Passed) → IsPrefix front longer → AreApart front passed → AreApart longer passed
apart_on front longer [] begins apart = tt
apart_on front longer (p ∷ passed) begins apart = (
  AllByRecursion-weaker (λ (kept : Kept). Stand p.clock.seq kept.1 front) (λ (kept : Kept). Stand p.clock.seq kept.1 longer) (λ kept s. stand_more p.clock.seq p.clock.seq kept.1 front longer (le_refl p.clock.seq) s begins) p.kept apart.0,
  apart.1,
  apart_on front longer passed begins apart.2,
)

-- a root that has seen more, and has made and taken in nothing since
pub knows_on : (v w : Known) (passed : List Passed) → w.own ≡ v.own → w.joined ≡ v.joined → IsPrefix v.front w.front → KnowsPhases v passed → KnowsPhases w passed
knows_on v w passed own joined begins knows = record { own = own ∙ knows.own; joined = joined ∙ knows.joined; seats = knows.seats; apart = apart_on v.front w.front passed begins knows.apart }

-- ---- what was run

-- the entries of the workers that were joined stand in the root's front, and no worker has the root's seat
kept_stand : {J E : Type 0} (may : Meaning J E) (above : ℕ) (front : List Entry) (seat : ℕ) (jobs : List J) (ends : List E) (kept : List Kept) → 0 < seat → Runs may above front seat jobs ends kept
    → AllByRecursion (λ (k : Kept). Stand above k.1 front) kept × AllByRecursion (λ (k : Kept). 0 < k.0) kept
kept_stand may above front seat [] [] [] some runs = (tt, tt)
kept_stand may above front seat [] [] (k ∷ kept) some runs = absurd runs
kept_stand may above front seat [] (end ∷ ends) kept some runs = absurd runs
kept_stand may above front seat (job ∷ jobs) [] kept some runs = absurd runs
kept_stand may above front seat (job ∷ jobs) (end ∷ ends) [] some runs = absurd runs
kept_stand may above front seat (job ∷ jobs) (end ∷ ends) (k ∷ kept) some runs =
    let rest = kept_stand may above front (seat + 1) jobs ends kept (omega (arith, some)) runs.1 in
    (((runs.0).stand, rest.0), (subst (λ (n : ℕ). 0 < n) (sym (runs.0).seated) some, rest.1))

-- a root that set the clock, and then took in the workers of a phase
pub knows_more : {J E : Type 0} (may : Meaning J E) (before set after : Pass) (op : Op) (seen : Seen) (count : ℕ) (kept : List Kept) (seat : ℕ) (jobs : List J) (ends : List E) (passed : List Passed) → KnowsPhases (view_of before) passed
    → Acts (view_of before) op (Done seen) (view_of set) → HasRun set after count kept → 0 < seat → Runs may (view_of set).known (view_of after).front seat jobs ends kept
    → KnowsPhases (view_of after) (passed ++ record { clock = entry_of (view_of before).seat op seen; kept = kept } ∷ [])
knows_more may before set after op seen count kept seat jobs ends passed knows acts run some runs =
    let one : Passed = record { clock = entry_of (view_of before).seat op seen; kept = kept } in
    let found = front_length (view_of before).front acts.journal acts.finds.front in
    let number = acts.number in
    let long = acts.known in
    let same : (view_of set).known ≡ seen.seq = long ∙ sym number in
    let stands = kept_stand may (view_of set).known (view_of after).front seat jobs ends kept some runs in
    let begins : IsPrefix (view_of before).front (view_of set).front = subst (IsPrefix (view_of before).front) (sym acts.front) (front_more (view_of before).front acts.journal (acts.journal ++ one.clock ∷ []) acts.finds.front (one.clock ∷ [], refl)) in
    record {
      own = run.own ∙ (acts.own ∙ (ap (λ l. l ++ one.clock ∷ []) knows.own ∙ sym (map-push (λ (p : Passed). p.clock) passed one)));
      joined = run.joined ∙ (ap (λ l. l ++ kept) (acts.same.joined ∙ knows.joined) ∙ sym (flat_map-push (λ (p : Passed). p.kept) passed one));
      seats = All-push (λ (p : Passed). All (λ (k : Kept). 0 < k.0) p.kept) passed one knows.seats (All-from_recursion (λ (k : Kept). 0 < k.0) kept stands.1);
      apart = apart_more (view_of before).front (view_of after).front passed one (front_more (view_of before).front (view_of set).front (view_of after).front begins run.front) (omega (arith, found, number)) knows.apart
          (subst (λ (n : ℕ). AllByRecursion (λ (k : Kept). Stand n k.1 (view_of after).front) kept) same stands.0);
    }
