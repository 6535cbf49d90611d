-- A drive of a machine that was to be begun.
use Rattle.std.specs.Prelude.{◌≡◌, ℕ, List, Option, Result, Ok, Err}
use Rattle.base.specs.declared.memory.NoMemory.{NoMemory as Wanting}
use Rattle.world_core.specs.Machines.{Drives}
use Rattle.world_core.specs.declared.driving.Driven.{Driven}
use Rattle.world_core.specs.declared.driving.Driven.TheVariants.{NoMemory}
use Rattle.world_core.specs.declared.entry.Entry.{Entry}

-- What was made is a run of the machine. Where memory was wanting as it was begun, nothing was done.
abbrev pub DrivesBegun : {M E : Type 0} → (M → List Entry → Option E → M → Type 0) → Result M Wanting → ℕ → Option ℕ → Driven E → List Entry → List Entry → Type 0
DrivesBegun {M} may (Ok machine) seat stop driven old new =
    Drives (λ made end. (last : M) × may machine made end last) seat stop driven old new
DrivesBegun may (Err none) seat stop driven old new = (driven ≡ NoMemory) × (new ≡ old)
