-- Members one after another, each of which is told from the one before it.
use Rattle.std.specs.Prelude.{◌≡◌, ℕ, List, [], ◌∷◌, ◌++◌, Option, Some, None}
pub use Rattle.base.specs.Order.{InOrderAfter}

-- What each member's text may be depends on the member before it, the first one's on the one before them all, if there is any.
abbrev pub AreInTurn : {A : Type 0} → (Option A → List ℕ → A → Type 0) → Option A → List ℕ → List A → Type 0
AreInTurn IsNext before text [] = text ≡ []
AreInTurn IsNext before text (member ∷ members) =
    (first : List ℕ) × (others : List ℕ) × IsNext before first member × AreInTurn IsNext (Some member) others members × (text ≡ first ++ others)

-- Each member may stand behind the one before it, and the first one behind none.
abbrev pub InOrder : {A : Type 0} → (Option A → A → Type 0) → List A → Type 0
InOrder MayFollow members = InOrderAfter MayFollow None members
