-- Calls of a form in memory are counted from 1, and a list says which of them fail.
use Rattle.std.specs.Prelude.{◌≡◌, ◌==◌, ℕ, ◌+◌, ◌-◌, ◌^◌, ◌≤◌, Bool, min, List, Option, None, find, option_map}
use Rattle.bucket_core.specs.declared.fail.Fail.{Fail}

-- the number of the call after so many, which stands still at its type's end
abbrev pub next_call : ℕ → ℕ
next_call calls = min (calls + 1) (2 ^ 64 - 1)

-- whether a call that fails is done all the same, where the list has the call
abbrev pub failure_of : List Fail → ℕ → Option Bool
failure_of fails call = option_map (λ fail. fail.landed) (find (λ fail. fail.call == call) fails)

-- every call in the list is before this one
abbrev pub AllOver : List Fail → ℕ → Type 0
AllOver fails call = (later : ℕ) → call ≤ later → failure_of fails later ≡ None
