-- The workers of a phase: their places before it, and what it leaves.
use Rattle.std.specs.Prelude.{◌≡◌, ℕ, ◌+◌, ◌≤◌, ◌++◌, false, IsTrue, List, [], ◌∷◌, Option, Some}
use mathlib.Core.List.{IsPrefix}
use Rattle.atomic_table.specs.Seated.{TableId}
use Rattle.world_core.specs.declared.entry.Entry.{Entry}
use Rattle.world_turn.specs.Passes.{table_of, view_of}
use Rattle.world_turn.specs.Seats.{Stand}
use Rattle.world_turn.specs.declared.pass.Pass.{Pass}
use Rattle.world_turn.specs.declared.view.View.{View}
use Rattle.phase_runner.specs.Works.{Meaning, Telling}

-- ---- what a phase leaves

-- A job of this seat came to this end. Its pass, when it was joined, had this seat and these entries, which stand in the
-- root's front at numbers above that one. The job had seen a front of the root's.
pub record RanTo {J E : Type 0} (may : Meaning J E) (above : ℕ) (front : List Entry) (seat : ℕ) (job : J) (end : E) (kept : ℕ × List Entry) : Type 0 where
  pub seated : kept.0 ≡ seat
  pub seen : List Entry
  pub within : IsPrefix seen front
  pub run : may job seat kept.1 (Some seen) end
  pub stand : Stand above kept.1 front

-- the jobs of these seats came to these ends, in their order
abbrev pub Runs : {J E : Type 0} → Meaning J E → ℕ → List Entry → ℕ → List J → List E → List (ℕ × List Entry) → Type 0
Runs may above front seat [] [] [] = Unit {0}
Runs may above front seat (job ∷ jobs) (end ∷ ends) (kept ∷ more) =
    RanTo may above front seat job end kept × Runs may above front (seat + 1) jobs ends more
Runs may above front seat jobs ends kept = ⊥

-- The root, after a phase of so many jobs: as many passes were split from it, and these were joined with what they had made.
pub record HasRun (old new : Pass) (count : ℕ) (kept : List (ℕ × List Entry)) : Type 0 where
  pub table : table_of new ≡ table_of old
  pub root : new.seat ≡ 0
  pub splits : new.splits ≡ old.splits + count
  pub own : (view_of new).own ≡ (view_of old).own
  pub front : IsPrefix (view_of old).front (view_of new).front
  pub known : (view_of old).known ≤ (view_of new).known
  pub joined : (view_of new).joined ≡ (view_of old).joined ++ kept
  pub tick : (view_of new).tick ≡ (view_of old).tick

-- ---- on the way

-- a new pass of this seat, split from a root that knew `v`
pub record IsSeated (table : TableId) (v : View) (seat : ℕ) (pass : Pass) : Type 0 where
  pub table_is : table_of pass ≡ table
  pub sits : pass.seat ≡ seat
  pub own : (view_of pass).own ≡ []
  pub front : (view_of pass).front ≡ v.front
  pub known : (view_of pass).known ≡ v.known
  pub refused : (view_of pass).refused ≡ false
  pub wanted : (view_of pass).wanted ≡ false

-- the jobs wait in order, with new passes of the next seats
abbrev pub AreSeated : {J : Type 0} → TableId → View → ℕ → List J → List (Option J × Option Pass) → Type 0
AreSeated table v seat [] [] = Unit {0}
AreSeated table v seat (job ∷ jobs) ((Some waits, Some pass) ∷ works) =
    (waits ≡ job) × IsSeated table v seat pass × AreSeated table v (seat + 1) jobs works
AreSeated table v seat jobs works = ⊥

-- the root, after so many splits
pub record HasSplit (old new : Pass) (count : ℕ) : Type 0 where
  pub table : table_of new ≡ table_of old
  pub root : new.seat ≡ 0
  pub splits : new.splits ≡ old.splits + count
  pub own : (view_of new).own ≡ (view_of old).own
  pub front : (view_of new).front ≡ (view_of old).front
  pub known : (view_of new).known ≡ (view_of old).known
  pub joined : (view_of new).joined ≡ (view_of old).joined
  pub refused : (view_of new).refused ≡ (view_of old).refused
  pub wanted : (view_of new).wanted ≡ (view_of old).wanted
  pub tick : (view_of new).tick ≡ (view_of old).tick

-- the job of a seat came to its end, with the pass that it was given
pub record IsEnded {J E : Type 0} (may : Meaning J E) (tells : Telling E) (v : View) (seat : ℕ) (job : J) (pass : Pass) (end : E) : Type 0 where
  pub sits : pass.seat ≡ seat
  pub run : may job seat (view_of pass).own (Some (view_of pass).front) end
  pub stand : Stand v.known (view_of pass).own (view_of pass).front
  pub refused : (view_of pass).refused ≡ tells.full end
  pub wanted : IsTrue (view_of pass).wanted → IsTrue (tells.wanted end)

-- all jobs came to their ends, with passes of this table
abbrev pub AreEnded : {J E : Type 0} → Meaning J E → Telling E → TableId → View → ℕ → List J → List (Option Pass × Option E) → Type 0
AreEnded may tells table v seat [] [] = Unit {0}
AreEnded may tells table v seat (job ∷ jobs) ((Some pass, Some end) ∷ works) =
    (table_of pass ≡ table) × IsEnded may tells v seat job pass end × AreEnded may tells table v (seat + 1) jobs works
AreEnded may tells table v seat jobs works = ⊥

-- the root, after it took in passes
pub record HasJoined (old new : Pass) (kept : List (ℕ × List Entry)) : Type 0 where
  pub table : table_of new ≡ table_of old
  pub root : new.seat ≡ 0
  pub splits : new.splits ≡ old.splits
  pub own : (view_of new).own ≡ (view_of old).own
  pub front : IsPrefix (view_of old).front (view_of new).front
  pub known : (view_of old).known ≤ (view_of new).known
  pub joined : (view_of new).joined ≡ (view_of old).joined ++ kept
  pub tick : (view_of new).tick ≡ (view_of old).tick
