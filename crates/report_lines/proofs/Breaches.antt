-- The line of a breach that was found.
use Rattle.std.specs.Prelude.{OnOk, Result, Ok, Err}

-- what holds of a success
pub on_map : {T E : Type 0} (r : Result T E) (P Q : Type 0) → (P → Q) → OnOk r P → OnOk r Q
on_map (Ok x) P Q more holds = more holds
on_map (Err e) P Q more holds = holds
