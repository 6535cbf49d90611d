-- What a drive of a sync leaves.
use Rattle.std.proofs.Common.{◌≡◌, ℕ, List, refl, sym, subst}
use Rattle.std.specs.Prelude.{Option, None, option_map, Result}
use Rattle.world_core.specs.Machines.{Awaits, Drives, end_of}
use Rattle.world_core.specs.declared.driving.Driven.{Driven}
use Rattle.world_core.specs.declared.driving.Driven.TheVariants.{Ended, Stopped, Full, NoMemory}
use Rattle.world_core.specs.declared.entry.Entry.{Entry}
use Rattle.script_workers.specs.declared.work.Work.{Work}
use Rattle.lifecycle_core.specs.Tasks.{End}
use Rattle.lifecycle_core.specs.Ways.{IsDueAfter}
use Rattle.script_running.specs.Drives.{came_by, driven_end}
use Rattle.script_running.specs.Outcomes.{IsPart, Part}
use Rattle.script_running.specs.Tasks.{Adds, CameBy, WhenFull}
use Rattle.script_running.specs.declared.came.Broken.{Broken}

-- a drive without a stop is never stopped
never : {E : Type 0} (is_run : List Entry → Option E → Type 0) (seat : ℕ) (driven : Driven E) (old new : List Entry) → Drives is_run seat None driven old new → (n : ℕ) → driven ≡ Stopped n → ⊥
never is_run seat driven old new d n e = let s = ((d.stopped n).0 e).0 in absurd (cc (s))

due : {E : Type 0} (is_run : List Entry → Option E → Type 0) (seat : ℕ) (made : List Entry) (out : E → Part) (driven : Driven E) → (driven ≡ Full → Awaits is_run seat made) → WhenFull (came_by out (driven_end driven)) (IsDueAfter is_run seat made)
due is_run seat made out (Ended end) waits = tt
due is_run seat made out (Stopped n) waits = tt
due is_run seat made out Full waits = let d = waits refl in (d.op, d.lawful, λ seen answer. (None, d.more seen answer))
due is_run seat made out NoMemory waits = tt

comes_by : {E : Type 0} (work : Work) (as_end : E → End) (out : E → Part) (driven : Driven E) → ((end : E) → IsPart work (as_end end) (out end)) → ((n : ℕ) → driven ≡ Stopped n → ⊥)
    → CameBy work (option_map as_end (end_of driven)) (came_by out (driven_end driven))
comes_by work as_end out (Ended end) is never = is end
comes_by work as_end out (Stopped n) is never = absurd (never n refl)
comes_by work as_end out Full is never = tt
comes_by work as_end out NoMemory is never = tt

-- A drive that nothing stops is a run, by whose end the task comes out.
pub driven_told : {E : Type 0} (is_run : List Entry → Option E → Type 0) (seat : ℕ) (driven : Driven E) (old new : List Entry) (work : Work) (as_end : E → End) (out : E → Part) (came : Result Part Broken)
    → came ≡ came_by out (driven_end driven) → ((end : E) → IsPart work (as_end end) (out end)) → Drives is_run seat None driven old new
    → Adds is_run seat old new (end_of driven) came × CameBy work (option_map as_end (end_of driven)) came
driven_told is_run seat driven old new work as_end out came c is d =
    subst (λ (x : Result Part Broken). Adds is_run seat old new (end_of driven) x × CameBy work (option_map as_end (end_of driven)) x) (sym c) (
      record { made = d.made; entries = d.entries; seats = d.seats; run = d.run; due = due is_run seat d.made out driven d.waits },
      comes_by work as_end out driven is (never is_run seat driven old new d),
    )
