-- A list put in ascending order by a test `less`. Members of which neither is less keep their order.
use Rattle.std.specs.Prelude.{◌≡◌, Bool, false, List, [], ◌∷◌, if◌then◌else◌}
use Rattle.std.specs.List.{AllByRecursion}

-- the list with the member before the first one that is not less than it
unfoldable pub placed : {A : Type 0} → (A → A → Bool) → A → List A → List A
placed less x [] = x ∷ []
placed less x (y ∷ ys) = if less y x then y ∷ placed less x ys else x ∷ y ∷ ys

-- the members in ascending order
unfoldable pub in_order : {A : Type 0} → (A → A → Bool) → List A → List A
in_order less [] = []
in_order less (x ∷ xs) = placed less x (in_order less xs)

-- no member is less than one before it
abbrev pub Rises : {A : Type 0} → (A → A → Bool) → List A → Type 0
Rises less [] = Unit {0}
Rises less (x ∷ xs) = AllByRecursion (λ y. less y x ≡ false) xs × Rises less xs
