-- Grammars as relations between texts and values, apart from reading and writing.
use Rattle.std.specs.Prelude.{◌≡◌, ℕ, ◌<◌, List, [], ◌∷◌, ◌++◌, slice_index}

-- A list of numbers that are bytes, as every slice of `u8` is.
abbrev pub IsBytes : List ℕ → Type 0
IsBytes bytes = (i : ℕ) → slice_index bytes i < 256

-- Some front of the bytes is a text of the value, and after it comes the rest.
abbrev pub HasFront : {A : Type 0} → (List ℕ → A → Type 0) → List ℕ → A → List ℕ → Type 0
HasFront IsText bytes value after = (text : List ℕ) × IsText text value × (bytes ≡ text ++ after)

-- Texts of the values one after another, and nothing else.
abbrev pub AreTexts : {A : Type 0} → (List ℕ → A → Type 0) → List ℕ → List A → Type 0
AreTexts IsText text [] = text ≡ []
AreTexts IsText text (value ∷ values) = (first : List ℕ) × (others : List ℕ) × IsText first value × AreTexts IsText others values × (text ≡ first ++ others)
