-- Members of a list that are told from the member before them.
use Rattle.std.specs.Prelude.{◌≡◌, List, [], ◌∷◌, Option, Some, None, Bool, true, ◌&&◌}
use Rattle.std.specs.declared.cmp.Ordering.{Ordering}
use Rattle.std.specs.declared.cmp.Ordering.TheVariants.{Less}
use Rattle.std.specs.Ordering.{is_lt}

-- Each member may follow the one before it; the first one follows what came before the list, if anything did.
abbrev pub InOrderAfter : {A : Type 0} → (Option A → A → Type 0) → Option A → List A → Type 0
InOrderAfter MayFollow before [] = Unit {0}
InOrderAfter MayFollow before (member ∷ members) = MayFollow before member × InOrderAfter MayFollow (Some member) members

-- one is greater than the one before it, if there is one
abbrev pub ComesAfter : {A : Type 0} → (A → A → Ordering) → Option A → A → Type 0
ComesAfter cmp None one = Unit {0}
ComesAfter cmp (Some before) one = cmp before one ≡ Less

-- ---- the same as tests

abbrev pub are_in_order_after : {A : Type 0} → (Option A → A → Bool) → Option A → List A → Bool
are_in_order_after may_follow before [] = true
are_in_order_after may_follow before (member ∷ members) = may_follow before member && are_in_order_after may_follow (Some member) members

abbrev pub comes_after : {A : Type 0} → (A → A → Ordering) → Option A → A → Bool
comes_after cmp None one = true
comes_after cmp (Some before) one = is_lt (cmp before one)
