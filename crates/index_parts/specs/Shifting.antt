-- A refusal whose place was counted in a part, with its place in the index.
use Rattle.std.specs.Prelude.{ℕ, ◌+◌, ◌^◌, ◌<◌}
use Rattle.index_parts.specs.declared.refusal.PartRefusal.{PartRefusal}
use Rattle.index_parts.specs.declared.refusal.PartRefusal.TheVariants.{Short, BadSum, Unordered, Overlong, NotText, NoMemory}

abbrev pub shifted_refusal : ℕ → PartRefusal → PartRefusal
shifted_refusal begin (Short place) = Short (begin + place)
shifted_refusal begin (BadSum kept computed) = BadSum kept computed
shifted_refusal begin (Unordered place) = Unordered (begin + place)
shifted_refusal begin (Overlong place) = Overlong (begin + place)
shifted_refusal begin (NotText place) = NotText (begin + place)
shifted_refusal begin NoMemory = NoMemory

-- there it has 64 bits
abbrev pub FitsShifted : ℕ → PartRefusal → Type 0
FitsShifted begin (Short place) = begin + place < 2 ^ 64
FitsShifted begin (BadSum kept computed) = Unit {0}
FitsShifted begin (Unordered place) = begin + place < 2 ^ 64
FitsShifted begin (Overlong place) = begin + place < 2 ^ 64
FitsShifted begin (NotText place) = begin + place < 2 ^ 64
FitsShifted begin NoMemory = Unit {0}
