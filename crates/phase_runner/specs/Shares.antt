-- What calls at the places of a list need and leave, where these are dealt out in turn.
use Rattle.std.specs.Prelude.{◌≡◌, ℕ, zero, suc, ◌+◌, ◌*◌, ◌-◌, ◌^◌, ◌<◌, List, [], ◌∷◌, length, slice_index_or}
use denote.Ref.{MutBor}
use denote.Param.Members.{Shared}
use Rattle.std.specs.Fork.{AcceptsAt, ChangesAt}

-- The places of some takers, of whom the first has the place `own` next, and the others the places from `other` on, so many before
-- the first has one again. Each taker's next place is by `takers` greater.
unfoldable pub dealt : (takers others left own other count : ℕ) → List ℕ
dealt takers others left own other zero = []
dealt takers others zero own other (suc count) = own ∷ dealt takers others others (own + takers) (own + 1) count
dealt takers others (suc left) own other (suc count) = other ∷ dealt takers others left own (other + 1) count

-- the places of the takers from `first` on, beginning with its own
abbrev pub dealt_from : ℕ → ℕ → ℕ → List ℕ
dealt_from takers first count = dealt takers (takers - first - 1) 0 first (first + 1) count

-- the places from one on, by `step` apart
unfoldable pub strided : (step place count : ℕ) → List ℕ
strided step place zero = []
strided step place (suc count) = place ∷ strided step (place + step) count

module _ {F T : Type 0} (g : Shared F (ℕ × (MutBor T × Unit {0})) ((Unit {0}) × (MutBor T × Unit {0}))) (f : F) where
  -- f may be called at these places, with these elements
  abbrev pub Accepts : List ℕ → List T → Type 0
  Accepts [] [] = Unit {0}
  Accepts (i ∷ is) (x ∷ xs) = (i < 2 ^ 64) × AcceptsAt g f i x × Accepts is xs
  Accepts is xs = ⊥

  -- calls of f at these places may leave these elements of those
  abbrev pub Changes : List ℕ → List T → List T → Type 0
  Changes [] [] [] = Unit {0}
  Changes (i ∷ is) (x ∷ xs) (y ∷ ys) = ChangesAt g f i x y × Changes is xs ys
  Changes is xs ys = ⊥

  -- the places of the takers from `first` on
  pub record AcceptsDealt (takers first : ℕ) (xs : List T) : Type 0 where
    pub all : Accepts (dealt_from takers first (length xs)) xs

  pub record ChangesDealt (takers first : ℕ) (xs ys : List T) : Type 0 where
    pub all : Changes (dealt_from takers first (length xs)) xs ys

  -- the places from `first` on, by `step` apart
  pub record AcceptsStride (first step : ℕ) (xs : List T) : Type 0 where
    pub small : (k : ℕ) → k < length xs → first + k * step < 2 ^ 64
    pub each : (k : ℕ) (d : T) → k < length xs → AcceptsAt g f (first + k * step) (slice_index_or xs k d)

  pub record ChangesStride (first step : ℕ) (xs ys : List T) : Type 0 where
    pub each : (k : ℕ) (d : T) → k < length xs → ChangesAt g f (first + k * step) (slice_index_or xs k d) (slice_index_or ys k d)
