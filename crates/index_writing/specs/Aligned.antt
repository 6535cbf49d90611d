-- Texts that stand at multiples of a number of bytes.
use Rattle.std.specs.Prelude.{ℕ, ◌-◌, ◌%◌, List, [], ◌∷◌, ◌++◌, length, replicate}

-- how many bytes there are up to the next multiple
abbrev pub gap : ℕ → ℕ → ℕ
gap unit size = (unit - size % unit) % unit

-- a text with zero bytes up to the next multiple
unfoldable pub padded : ℕ → List ℕ → List ℕ
padded unit text = text ++ replicate (gap unit (length text)) 0

-- a text and behind it others, each at the next multiple
unfoldable pub each_at : ℕ → List ℕ → List (List ℕ) → List ℕ
each_at unit text [] = text
each_at unit text (next ∷ texts) = each_at unit (padded unit text ++ next) texts

-- the places of those others
unfoldable pub places_at : ℕ → List ℕ → List (List ℕ) → List ℕ
places_at unit text [] = []
places_at unit text (next ∷ texts) = length (padded unit text) ∷ places_at unit (padded unit text ++ next) texts
