-- What a worker's place holds before and after its job was done.
use Rattle.std.specs.Prelude.{◌≡◌, ◌⊎◌, ◌||◌, ℕ, Bool, IsTrue, ◌++◌, List, Option, Some}
use Rattle.atomic_table.specs.Seated.{TableId}
use Rattle.world_core.specs.declared.entry.Entry.{Entry}
use Rattle.world_turn.specs.Passes.{table_of, view_of}
use Rattle.world_turn.specs.Turns.{IsLater}
use Rattle.world_turn.specs.declared.pass.Pass.{Pass}

-- what jobs mean: which entries, front and end a job of a seat may come to
abbrev pub Meaning : Type 0 → Type 0 → Type 1
Meaning J E = J → ℕ → List Entry → Option (List Entry) → E → Type 0

-- what a job's end tells: whether it met the full journal, and whether it wanted memory
pub record Telling (E : Type 0) : Type 0 where
  pub full : E → Bool
  pub wanted : E → Bool

-- the job was done with the pass
pub record IsRun {J E : Type 0} (may : Meaning J E) (tells : Telling E) (job : J) (old : Pass) (end : E) (new : Pass) : Type 0 where
  pub table : table_of new ≡ table_of old
  pub seat : new.seat ≡ old.seat
  pub run : (made : List Entry) × ((view_of new).own ≡ (view_of old).own ++ made) × may job old.seat made (Some (view_of new).front) end
  pub later : IsLater (view_of old) (view_of new)
  pub refused : (view_of new).refused ≡ ((view_of old).refused || tells.full end)
  pub wanted : IsTrue (view_of new).wanted → IsTrue (view_of old).wanted ⊎ IsTrue (tells.wanted end)

-- a job waits, with a pass of this table
abbrev pub IsReady : {J : Type 0} → TableId → Option J → Option Pass → Type 0
IsReady table (Some job) (Some pass) = table_of pass ≡ table
IsReady table job pass = ⊥

-- the job that waited was done
abbrev pub IsDone : {J E : Type 0} → Meaning J E → Telling E → Option J → Option Pass → Option E → Option Pass → Type 0
IsDone may tells (Some job) (Some old) (Some end) (Some new) = IsRun may tells job old end new
IsDone may tells job old end new = ⊥
