-- What a function found of what was read, where a refusal is told as none.
use Rattle.std.specs.Prelude.{◌≡◌, List, ◌++◌, Option, Some, None, Result, Ok, IsOk, IsErr, Bool, true, false}

-- it found what is read, or there is a refusal
abbrev pub ReadsAs : {X A R : Type 0} → (X → A) → Result A R → Option X → Type 0
ReadsAs view read (Some found) = read ≡ Ok (view found)
ReadsAs view read None = IsErr read

-- it put what is read behind others, or there is a refusal
abbrev pub ReadsBehind : {X A R : Type 0} → (X → List A) → List A → Result (List A) R → Option X → Type 0
ReadsBehind {X} {A} view front read (Some found) = (more : List A) × (read ≡ Ok more) × (view found ≡ front ++ more)
ReadsBehind view front read None = IsErr read

-- whether something is read
abbrev pub Tells : {A R : Type 0} → Result A R → Bool → Type 0
Tells read true = IsOk read
Tells read false = IsErr read
