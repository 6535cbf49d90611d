-- What was written of a text.
use Rattle.std.specs.Prelude.{◌≡◌, ◌++◌, ℕ, List, Option, option_map}

-- some front of the text was added to what was written, where that is told
abbrev pub IsWrittenInPart : List ℕ → Option (List ℕ) → Option (List ℕ) → Type 0
IsWrittenInPart text before after = (front : List ℕ) × (rest : List ℕ) × (text ≡ front ++ rest) × (after ≡ option_map (λ bytes. bytes ++ front) before)
