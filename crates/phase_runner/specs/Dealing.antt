-- A list whose places are dealt out in turn, one round after another.
use Rattle.std.specs.Prelude.{◌≡◌, ℕ, suc, zero, List, [], ◌∷◌, length}

-- The first places of all rounds: a round has so many others behind its first one, of which some are left before the next round.
unfoldable pub firsts : {X : Type 0} → ℕ → ℕ → List X → List X
firsts others left [] = []
firsts others zero (x ∷ xs) = x ∷ firsts others others xs
firsts others (suc left) (x ∷ xs) = firsts others left xs

-- all others
unfoldable pub rest_of : {X : Type 0} → ℕ → ℕ → List X → List X
rest_of others left [] = []
rest_of others zero (x ∷ xs) = rest_of others others xs
rest_of others (suc left) (x ∷ xs) = x ∷ rest_of others left xs

-- a list of so many places has so many rounds
abbrev pub HasRounds : ℕ → ℕ → ℕ → Type 0
HasRounds others places rounds = (xs : List ℕ) × (length xs ≡ places) × (length (firsts others 0 xs) ≡ rounds)
