-- What a drive leaves that comes to its stop after so many operations.
use Rattle.std.proofs.Common.{◌≡◌, ◌≢◌, ◌⊎◌, ℕ, ◌+◌, ◌<◌, ◌≤◌, Bool, true, false, List, [], ◌∷◌, ◌++◌, length, length-append, refl, sym, subst, inl, inr, arith}
use Rattle.std.specs.Prelude.{◌↔◌, ◌==◌, Option, Some, None, Result, option_map}
use Rattle.std.proofs.lemmas.Bool.Decides.{nat_tests}
use Rattle.world_core.specs.Machines.{Awaits, Drives, end_of}
use Rattle.world_core.specs.Operations.{entry_of}
use Rattle.world_core.specs.Plans.{Plan, Runs}
use Rattle.world_core.specs.Stops.{IsBefore, IsStopped}
use Rattle.world_core.specs.declared.driving.Driven.{Driven}
use Rattle.world_core.specs.declared.driving.Driven.TheVariants.{Ended, Stopped, Full, NoMemory}
use Rattle.world_core.specs.declared.entry.Entry.{Entry}
use Rattle.script_workers.specs.declared.work.Work.{Work}
use Rattle.lifecycle_core.specs.Tasks.{End, IsStop, StoppedRun, stopped}
use Rattle.lifecycle_core.specs.Ways.{IsDueAfter}
use Rattle.script_running.specs.Drives.{came_by, stop_of}
use Rattle.script_running.specs.Outcomes.{IsPart, Part}
use Rattle.script_running.specs.declared.came.Broken.{Broken}
use Rattle.script_running.specs.declared.came.Stop.{Stop}
use Rattle.script_running.specs.declared.came.Stop.TheVariants as first
use Rattle.script_running.specs.Tasks.{Adds, CameBy, WhenFull}

before_stop : {E : Type 0} (stop : Option ℕ) (driven : Driven E) (made : List Entry) → ((n : ℕ) → driven ≢ Stopped n)
    → ((n : ℕ) → (driven ≡ Stopped n) ↔ IsStopped stop made n) → ((n : ℕ) → stop ≡ Some n → 0 < n → length made ≤ n) → IsBefore stop made
before_stop stop driven made never stops within = λ n s above.
    let differ : length made ≢ n = λ e. never n ((stops n).1 (s, above, e)) in
    let most : length made ≤ n = within n s above in
    omega (arith, most, differ)

full_before : {E : Type 0} (stop : Option ℕ) (driven : Driven E) (made : List Entry)
    → ((n : ℕ) → (driven ≡ Stopped n) ↔ IsStopped stop made n) → ((n : ℕ) → stop ≡ Some n → 0 < n → length made ≤ n) → driven ≡ Full → IsBefore stop made
full_before stop driven made stops within full = before_stop stop driven made (λ n e. absurd (cc (e, full))) stops within

-- where the journal was full: how a run that its stop has not stopped goes on with an entry, stopped now, or not
abbrev GoesOn : {E : Type 0} → (E → End) → Option ℕ → List Entry → Type 0
GoesOn gives stop made = (end : Option End) × (((end ≡ option_map gives None) × IsBefore stop made) ⊎ IsStop stop made end)

goes_to : {E : Type 0} (gives : E → End) (n : ℕ) (made : List Entry) (e : Entry) (b : Bool) → (length made + 1 == n) ≡ b → (0 < n → length made < n) → GoesOn gives (Some n) (made ++ e ∷ [])
goes_to gives n made e true is below =
    let m = length-append made (e ∷ []) in
    let same : length made + 1 ≡ n = grind (arith, nat_tests) in
    (Some (stopped n), inr (n, (refl, omega (arith, same), omega (arith, m, same)), refl))
goes_to gives n made e false is below =
    let m = length-append made (e ∷ []) in
    let differ : length made + 1 ≢ n = λ q. absurd (grind (arith, nat_tests, q, is)) in
    (None, inl (refl, λ k same above. let l : n ≡ k = cc (same) in let b = below (omega (arith, l, above)) in omega (arith, m, differ, b, l)))

goes_on : {E : Type 0} (gives : E → End) (stop : Option ℕ) (made : List Entry) (e : Entry) → IsBefore stop made → GoesOn gives stop (made ++ e ∷ [])
goes_on gives None made e before = (None, inl (refl, λ n same. absurd (cc (same))))
goes_on gives (Some n) made e before = goes_to gives n made e (length made + 1 == n) refl (before n refl)

-- how the task ends
abbrev pub stopped_end : {E : Type 0} → (E → End) → Driven E → Option End
stopped_end gives (Ended end) = Some (gives end)
stopped_end gives (Stopped count) = Some (stopped count)
stopped_end gives Full = None
stopped_end gives NoMemory = None

stops_at : {E : Type 0} (gives : E → End) (stop : Option ℕ) (driven : Driven E) (made : List Entry)
    → ((n : ℕ) → (driven ≡ Stopped n) ↔ IsStopped stop made n) → ((n : ℕ) → stop ≡ Some n → 0 < n → length made ≤ n)
    → ((stopped_end gives driven ≡ option_map gives (end_of driven)) × IsBefore stop made) ⊎ IsStop stop made (stopped_end gives driven)
stops_at gives stop (Ended end) made stops within = inl (refl, before_stop stop (Ended end) made (λ n e. absurd (cc (e))) stops within)
stops_at gives stop (Stopped n) made stops within = inr (n, (stops n).0 refl, refl)
stops_at gives stop Full made stops within = inl (refl, before_stop stop Full made (λ n e. absurd (cc (e))) stops within)
stops_at gives stop NoMemory made stops within = inl (refl, before_stop stop NoMemory made (λ n e. absurd (cc (e))) stops within)

-- the parts of a task's ends
pub record AreOut {E : Type 0} (work : Work) (gives : E → End) (out : Stop E → Part) : Type 0 where
  pub ends : (end : E) → IsPart work (gives end) (out (first.Ended end))
  pub stops : (n : ℕ) → IsPart work (stopped n) (out (first.At n))

comes_so : {E : Type 0} (work : Work) (gives : E → End) (out : Stop E → Part) (driven : Driven E) → AreOut work gives out → CameBy work (stopped_end gives driven) (came_by out (stop_of driven))
comes_so work gives out (Ended end) are = are.ends end
comes_so work gives out (Stopped n) are = are.stops n
comes_so work gives out Full are = tt
comes_so work gives out NoMemory are = tt

due : {E : Type 0} (plan : Plan E) (gives : E → End) (out : Stop E → Part) (stop : Option ℕ) (seat : ℕ) (driven : Driven E) (made : List Entry)
    → (driven ≡ Full → Awaits (Runs plan) seat made) → (driven ≡ Full → IsBefore stop made)
    → WhenFull (came_by out (stop_of driven)) (IsDueAfter (StoppedRun plan gives stop) seat made)
due plan gives out stop seat (Ended end) made waits before = tt
due plan gives out stop seat (Stopped n) made waits before = tt
due plan gives out stop seat Full made waits before =
    let d = waits refl in (
      d.op,
      d.lawful,
      λ seen answer. let on = goes_on gives stop made (entry_of seat d.op seen) (before refl) in
          (on.0, (None, d.more seen answer, on.1)),
    )
due plan gives out stop seat NoMemory made waits before = tt

-- A drive of a plan to its stop made a run that is stopped at most, by whose end the task comes out.
pub stopped_told : {E : Type 0} (plan : Plan E) (gives : E → End) (out : Stop E → Part) (stop : Option ℕ) (seat : ℕ) (driven : Driven E) (old new : List Entry) (came : Result Part Broken) (work : Work)
    → came ≡ came_by out (stop_of driven) → AreOut work gives out → Drives (Runs plan) seat stop driven old new
    → (end : Option End) × Adds (StoppedRun plan gives stop) seat old new end came × CameBy work end came
stopped_told {E} plan gives out stop seat driven old new came work c are d =
    subst (λ (x : Result Part Broken). (end : Option End) × Adds (StoppedRun plan gives stop) seat old new end x × CameBy work end x) (sym c) (
      stopped_end gives driven,
      record {
        made = d.made;
        entries = d.entries;
        seats = d.seats;
        run = (end_of driven, d.run, stops_at gives stop driven d.made d.stopped d.within);
        due = due plan gives out stop seat driven d.made d.waits (full_before stop driven d.made d.stopped d.within);
      },
      comes_so work gives out driven are,
    )
