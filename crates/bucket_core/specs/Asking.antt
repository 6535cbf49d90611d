-- Which calls a bucket was asked, and which names a shelf.
use Rattle.std.specs.Prelude.{◌≡◌, ◌⊎◌, ℕ, List, [], ◌∷◌, ◌++◌, Option, Some, IfSome}

-- a call of a bucket, with its arguments
pub data Call : Type 0 where
  puts : List ℕ → List ℕ → Call
  gets : List ℕ → Call
  gets_range : List ℕ → ℕ → ℕ → Call
  deletes : List ℕ → Call
  -- the names within a key's first part, or all first parts where it is empty, after a name, at most so many
  lists : List ℕ → List ℕ → ℕ → Call

-- Where it is told what was asked before, it is told now too: that, and then these in this order.
abbrev pub Asks : {X : Type 0} → Option (List X) → Option (List X) → List X → Type 0
Asks {X} before now since = IfSome before (λ asked. now ≡ Some (asked ++ since))

-- This alone was asked. Where the answer is that memory was wanted, it may have been left out.
abbrev pub AsksOnce : {X A : Type 0} → Option (List X) → Option (List X) → X → A → A → Type 0
AsksOnce {X} {A} before now call answer no_memory = Asks before now (call ∷ []) ⊎ ((now ≡ before) × (answer ≡ no_memory))
