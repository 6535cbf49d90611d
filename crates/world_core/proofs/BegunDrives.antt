-- A drive of an activity that was begun, and of one that could not be.
use Rattle.std.proofs.Common.{◌≡◌, ℕ, List, [], ◌∷◌, ◌++◌, refl, sym, subst, arith}
use Rattle.std.specs.Prelude.{Option, None, Result, Ok, Err, IfOk}
use Rattle.std.proofs.lemmas.List.{append-nil}
use Rattle.std.proofs.lemmas.List.Elements.{All-nil}
use Rattle.base.specs.declared.memory.NoMemory.{NoMemory as Wanting}
use Rattle.world_core.specs.Machines.{Drives, end_of}
use Rattle.world_core.specs.Operations.{entry_of}
use Rattle.world_core.specs.declared.driving.Driven.{Driven}
use Rattle.world_core.specs.declared.driving.Driven.TheVariants.{NoMemory}
use Rattle.world_core.specs.declared.entry.Entry.{Entry}
use Rattle.world_core.specs.Begun.{DrivesBegun}

-- what a machine does is a run, so its drive is one
pub drives_as : {E : Type 0} (does is_run : List Entry → Option E → Type 0) (seat : ℕ) (stop : Option ℕ) (driven : Driven E) (old new : List Entry)
    → ((made : List Entry) (end : Option E) → does made end → is_run made end) → Drives does seat stop driven old new → Drives is_run seat stop driven old new
drives_as does is_run seat stop driven old new runs d = record {
  made = d.made;
  entries = d.entries;
  run = runs d.made (end_of driven) d.run;
  seats = d.seats;
  stopped = d.stopped;
  within = d.within;
  waits = λ full.
      let w = d.waits full in record { op = w.op; lawful = w.lawful; more = λ seen answer. runs (d.made ++ entry_of seat w.op seen ∷ []) None (w.more seen answer) };
}

-- nothing was done
pub not_begun : {E : Type 0} (is_run : List Entry → Option E → Type 0) (seat : ℕ) (stop : Option ℕ) (journal : List Entry) → is_run [] None → Drives is_run seat stop NoMemory journal journal
not_begun is_run seat stop journal none = record {
  made = [];
  entries = sym (append-nil journal);
  run = none;
  seats = All-nil (λ e. e.seat ≡ seat);
  stopped = λ n. (λ e. absurd (cc (e)), λ s. absurd (omega (arith, s.1, s.2)));
  within = λ n is above. omega (arith, above);
  waits = λ e. absurd (cc (e));
}

-- the drive of a machine that was to be begun, where what the machine does is a run
pub begun_as : {M E : Type 0} (may : M → List Entry → Option E → M → Type 0) (is_run : List Entry → Option E → Type 0) (begun : Result M Wanting) (seat : ℕ) (stop : Option ℕ) (driven : Driven E) (old new : List Entry)
    → is_run [] None → IfOk begun (λ machine. (entries : List Entry) (end : Option E) (last : M) → may machine entries end last → is_run entries end)
    → DrivesBegun may begun seat stop driven old new → Drives is_run seat stop driven old new
begun_as {M} may is_run (Ok machine) seat stop driven old new none runs d =
    drives_as (λ made end. (last : M) × may machine made end last) is_run seat stop driven old new (λ made end run. runs made end run.0 run.1) d
begun_as {M} {E} may is_run (Err wanting) seat stop driven old new none runs d =
    subst (λ (x : Driven E). Drives is_run seat stop x old new) (sym d.0) (subst (λ (es : List Entry). Drives is_run seat stop NoMemory old es) (sym d.1) (not_begun is_run seat stop old none))

-- the drive of a machine that was begun, and that of one that was not
pub begun_drives : {M E : Type 0} (may : M → List Entry → Option E → M → Type 0) (begun : Result M Wanting) (machine last : M) (seat : ℕ) (stop : Option ℕ) (driven : Driven E) (old new : List Entry)
    → begun ≡ Ok machine → Drives (λ made end. may machine made end last) seat stop driven old new → DrivesBegun may begun seat stop driven old new
begun_drives {M} may begun machine last seat stop driven old new is d =
    subst (λ (b : Result M Wanting). DrivesBegun may b seat stop driven old new) (sym is)
    (drives_as (λ made end. may machine made end last) (λ made end. (x : M) × may machine made end x) seat stop driven old new (λ made end run. (last, run)) d)

pub unbegun_drives : {M E : Type 0} (may : M → List Entry → Option E → M → Type 0) (begun : Result M Wanting) (wanting : Wanting) (seat : ℕ) (stop : Option ℕ) (journal : List Entry)
    → begun ≡ Err wanting → DrivesBegun may begun seat stop NoMemory journal journal
unbegun_drives {M} may begun wanting seat stop journal is =
    subst (λ (b : Result M Wanting). DrivesBegun may b seat stop NoMemory journal journal) (sym is) (refl, refl)
