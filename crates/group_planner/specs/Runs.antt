-- Longest runs of neighbours that pass a test. The test may look at what stands before a member too.
use Rattle.std.specs.Prelude.{◌≡◌, Bool, true, false, List, [], ◌∷◌, ◌++◌}

-- each of the members passes, where those stand before them
abbrev pub EachPasses : {A : Type 0} → (List A → A → Bool) → List A → List A → Type 0
EachPasses test before [] = Unit {0}
EachPasses test before (one ∷ members) = (test before one ≡ true) × EachPasses test (before ++ one ∷ []) members

-- nothing stands behind, or the first one there does not pass
abbrev pub Stops : {A : Type 0} → (List A → A → Bool) → List A → List A → Type 0
Stops test before [] = Unit {0}
Stops test before (one ∷ members) = test before one ≡ false

-- the run passes, and goes no further
pub record IsLongestRun {A : Type 0} (test : List A → A → Bool) (before run behind : List A) : Type 0 where
  pub each : EachPasses test before run
  pub ends : Stops test (before ++ run) behind
